-- What is known of each form of expression, in terms of the parts that code reads.
use Rattle.std.proofs.Common.{◌≡◌, ℕ, Bool, true, false, cond, ◌&&◌, List, [], ◌∷◌, ◌++◌, refl, ap, ◌∙◌}
use Rattle.std.specs.Prelude.{map, flat_map}
use Rattle.murphi_ast.specs.declared.token.Span.{Span}
use Rattle.murphi_ast.specs.declared.expr.CompareOp.{CompareOp}
use Rattle.murphi_ast.specs.declared.expr.Bind.{Bind}
use Rattle.murphi_ast.specs.declared.expr.Named.{Named}
use Rattle.murphi_ast.specs.declared.expr.Designator.{Designator}
use Rattle.murphi_ast.specs.declared.expr.Link.{Link}
use Rattle.murphi_ast.specs.declared.expr.Selector.{Selector}
use Rattle.murphi_ast.specs.declared.expr.Expr as e
use Rattle.murphi_ast.specs.declared.expr.Expr.{Expr, Row_of-Link, end_of-Link, more_of-Link, items-the_row-Link, items_hidden-the_row-Link-3, the_lemmas}
use Rattle.murphi_ast.specs.declared.expr.Expr.TheBlock.{shape-the_row-Expr-2, hidden-the_row-Expr-2, hidden-the_row-Link-3, shape-the_row-Selector-0, hidden-the_row-Selector-0}
use denote.Hole.Carrier.{hidden}
use Rattle.murphi_ast.specs.declared.decl.Decl as d
use Rattle.murphi_ast.specs.declared.decl.Decl.{Decl}
use Rattle.murphi_ast.specs.declared.rule.Protocol.{Protocol}
use Rattle.murphi_ast.specs.State.{Name, declared_by, variables}
use Rattle.murphi_ast.specs.Flat.{is_among, knows, row_knows, places_by, variable_places}
use Rattle.murphi_syntax.specs.Scope.{named_by, named_in, names_of, links_know, is_plain}

pub knows-Truth : (vs : List Name) (b : Bool) (at : Span) → knows vs (e.Truth b at) ≡ true
unfolding knows
knows-Truth vs b at = refl

place_is : (vs : List Name) (root : Named) (ss : List Selector) →
    knows vs (e.Place' root (shape-the_row-Selector-0 ss) (hidden-the_row-Selector-0 ss)) ≡ cond (is_plain ss) (is_among vs root.name) false
unfolding knows shape-the_row-Selector-0 hidden-the_row-Selector-0 hidden
place_is vs root [] = refl
place_is vs root (s ∷ ss) = refl

pub knows-Place : (vs : List Name) (p : Designator) → knows vs (e.Place p) ≡ cond (is_plain p.selectors) (is_among vs p.root.name) false
knows-Place vs p = place_is vs p.root p.selectors

pub knows-Not : (vs : List Name) (b : Expr) (at : Span) → knows vs (e.Not b at) ≡ knows vs b
unfolding knows shape-the_row-Expr-2 hidden-the_row-Expr-2 hidden
knows-Not vs b at = refl

pub knows-Compare : (vs : List Name) (op : CompareOp) (a b : Expr) → knows vs (e.Compare op a b) ≡ (knows vs a && knows vs b)
unfolding knows shape-the_row-Expr-2 hidden-the_row-Expr-2 hidden
knows-Compare vs op a b = refl

pub knows-Implies : (vs : List Name) (a b : Expr) → knows vs (e.Implies a b) ≡ (knows vs a && knows vs b)
unfolding knows shape-the_row-Expr-2 hidden-the_row-Expr-2 hidden
knows-Implies vs a b = refl

row_knows_is : {n : _} (vs : List Name) (row : Row_of-Link n) → row_knows vs row ≡ links_know vs (items-the_row-Link n row)
unfolding row_knows
row_knows_is vs end_of-Link = refl
row_knows_is vs (more_of-Link op operand rest) = ap (λ b. knows vs operand && b) (row_knows_is vs rest)

pub knows-Chain : (vs : List Name) (a : Expr) (ls : List Link) → knows vs (e.Chain a ls) ≡ (knows vs a && links_know vs ls)
unfolding knows shape-the_row-Expr-2 hidden-the_row-Expr-2 hidden
knows-Chain vs a ls =
    ap (λ b. knows vs a && b) (row_knows_is vs (hidden-the_row-Link-3 ls) ∙ ap (links_know vs) (items_hidden-the_row-Link-3 ls))

pub knows-Number : (vs : List Name) (n : ℕ) (at : Span) → knows vs (e.Number n at) ≡ false
unfolding knows
knows-Number vs n at = refl

pub knows-Call : (vs : List Name) (name : Named) (args : List Expr) → knows vs (e.Call name args) ≡ false
unfolding knows
knows-Call vs name args = refl

pub knows-Minus : (vs : List Name) (b : Expr) (at : Span) → knows vs (e.Minus b at) ≡ false
unfolding knows
knows-Minus vs b at = refl

pub knows-Choice : (vs : List Name) (a b c : Expr) → knows vs (e.Choice a b c) ≡ false
unfolding knows
knows-Choice vs a b c = refl

pub knows-Quantified : (vs : List Name) (all : Bool) (bind : Bind) (b : Expr) (at : Span) → knows vs (e.Quantified all bind b at) ≡ false
unfolding knows
knows-Quantified vs all bind b at = refl

pub knows-IsUndefined : (vs : List Name) (p : Designator) (at : Span) → knows vs (e.IsUndefined p at) ≡ false
unfolding knows
knows-IsUndefined vs p at = refl

pub ruleset steps = (knows-Truth, knows-Place, knows-Not, knows-Compare, knows-Implies, knows-Chain, knows-Number, knows-Call, knows-Minus, knows-Choice, knows-Quantified, knows-IsUndefined, the_lemmas)

-- the names are the variables, and their places are the variables' places

map-append : {A B : Type 0} (f : A → B) (xs ys : List A) → map f (xs ++ ys) ≡ map f xs ++ map f ys
map-append f [] ys = refl
map-append f (x ∷ xs) ys = ap (λ zs. f x ∷ zs) (map-append f xs ys)

names_by : (decl : Decl) → names_of (named_by decl) ≡ declared_by decl
names_by (d.Variables names body) = refl
names_by _ = refl

places_of_by : (decl : Decl) → map (λ (n : Named). n.at) (named_by decl) ≡ places_by decl
places_of_by (d.Variables names body) = refl
places_of_by _ = refl

names_in : (decls : List Decl) → names_of (named_in decls) ≡ flat_map declared_by decls
names_in [] = refl
names_in (decl ∷ decls) =
    map-append (λ (n : Named). n.name) (named_by decl) (named_in decls) ∙ ap (λ xs. xs ++ names_of (named_in decls)) (names_by decl) ∙ ap (λ xs. declared_by decl ++ xs) (names_in decls)

places_in : (decls : List Decl) → map (λ (n : Named). n.at) (named_in decls) ≡ flat_map places_by decls
places_in [] = refl
places_in (decl ∷ decls) =
    map-append (λ (n : Named). n.at) (named_by decl) (named_in decls) ∙ ap (λ xs. xs ++ map (λ (n : Named). n.at) (named_in decls)) (places_of_by decl) ∙ ap (λ xs. places_by decl ++ xs) (places_in decls)

pub names_are : (p : Protocol) → names_of (named_in p.decls) ≡ variables p
names_are p = names_in p.decls

pub places_are : (p : Protocol) → map (λ (n : Named). n.at) (named_in p.decls) ≡ variable_places p
places_are p = places_in p.decls

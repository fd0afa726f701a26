-- Whether each form of expression is written as a constant is, in terms of the parts that code reads.
use Rattle.std.proofs.Common.{◌≡◌, ℕ, Bool, true, false, ◌&&◌, List, [], ◌∷◌, refl, ap, ◌∙◌}
use denote.Hole.Carrier.{hidden}
use Rattle.murphi_ast.specs.declared.token.Span.{Span}
use Rattle.murphi_ast.specs.declared.expr.Named.{Named}
use Rattle.murphi_ast.specs.declared.expr.CompareOp.{CompareOp}
use Rattle.murphi_ast.specs.declared.expr.Bind.{Bind}
use Rattle.murphi_ast.specs.declared.expr.Link.{Link}
use Rattle.murphi_ast.specs.declared.expr.Designator.{Designator}
use Rattle.murphi_ast.specs.declared.expr.Expr as e
use Rattle.murphi_ast.specs.declared.expr.Expr.{Expr, Row_of-Link, end_of-Link, more_of-Link, items-the_row-Link, items_hidden-the_row-Link-3, Row_of-Selector, end_of-Selector, more_of-Selector, items-the_row-Selector, items_hidden-the_row-Selector-0, the_lemmas}
use Rattle.murphi_ast.specs.declared.expr.Expr.TheBlock.{shape-the_row-Expr-2, hidden-the_row-Expr-2, hidden-the_row-Link-3, hidden-the_row-Selector-0}
use Rattle.murphi_types.specs.declared.scope.Known.{Known}
use Rattle.murphi_types.specs.declared.scope.Scope.{Scope}
use Rattle.murphi_types.specs.Constants.{is_constant, are_constants, is_constant_name}
use Rattle.murphi_types.specs.Scopes.{looked}
use Rattle.type_expressions.specs.PartLists.{list_constants, no_list, constant_place}

pub constant-Number : (s : Scope) (k : Known) (n : ℕ) (at : Span) → is_constant s k (e.Number n at) ≡ true
unfolding is_constant
constant-Number s k n at = refl

pub constant-Truth : (s : Scope) (k : Known) (b : Bool) (at : Span) → is_constant s k (e.Truth b at) ≡ true
unfolding is_constant
constant-Truth s k b at = refl

row_place_is : (s : Scope) (k : Known) (root : Named) (shape : _) (row : _) → is_constant s k (e.Place' root shape row) ≡ (no_list (items-the_row-Selector _ row) && is_constant_name (looked s k root.name))
unfolding is_constant
row_place_is s k root [] end_of-Selector = refl
row_place_is s k root (u ∷ us) (more_of-Selector x rest) = refl

pub constant-Place : (s : Scope) (k : Known) (d : Designator) → is_constant s k (e.Place d) ≡ constant_place s k d
constant-Place s k d =
    row_place_is s k d.root _ (hidden-the_row-Selector-0 d.selectors)
    ∙ ap (λ xs. no_list xs && is_constant_name (looked s k d.root.name)) (items_hidden-the_row-Selector-0 d.selectors)

pub constant-Not : (s : Scope) (k : Known) (b : Expr) (at : Span) → is_constant s k (e.Not b at) ≡ is_constant s k b
unfolding is_constant shape-the_row-Expr-2 hidden-the_row-Expr-2 hidden
constant-Not s k b at = refl

pub constant-Minus : (s : Scope) (k : Known) (b : Expr) (at : Span) → is_constant s k (e.Minus b at) ≡ is_constant s k b
unfolding is_constant shape-the_row-Expr-2 hidden-the_row-Expr-2 hidden
constant-Minus s k b at = refl

row_constants_is : {n : _} (s : Scope) (k : Known) (row : Row_of-Link n) → are_constants s k row ≡ list_constants s k (items-the_row-Link n row)
unfolding is_constant
row_constants_is s k end_of-Link = refl
row_constants_is s k (more_of-Link op operand rest) = ap (λ b. is_constant s k operand && b) (row_constants_is s k rest)

pub constant-Chain : (s : Scope) (k : Known) (a : Expr) (ls : List Link) → is_constant s k (e.Chain a ls) ≡ (is_constant s k a && list_constants s k ls)
unfolding is_constant shape-the_row-Expr-2 hidden-the_row-Expr-2 hidden
constant-Chain s k a ls =
    ap (λ b. is_constant s k a && b) (row_constants_is s k (hidden-the_row-Link-3 ls) ∙ ap (list_constants s k) (items_hidden-the_row-Link-3 ls))

pub constant-Compare : (s : Scope) (k : Known) (op : CompareOp) (a b : Expr) → is_constant s k (e.Compare op a b) ≡ (is_constant s k a && is_constant s k b)
unfolding is_constant shape-the_row-Expr-2 hidden-the_row-Expr-2 hidden
constant-Compare s k op a b = refl

pub constant-Implies : (s : Scope) (k : Known) (a b : Expr) → is_constant s k (e.Implies a b) ≡ (is_constant s k a && is_constant s k b)
unfolding is_constant shape-the_row-Expr-2 hidden-the_row-Expr-2 hidden
constant-Implies s k a b = refl

pub constant-Choice : (s : Scope) (k : Known) (a b c : Expr) → is_constant s k (e.Choice a b c) ≡ (is_constant s k a && (is_constant s k b && is_constant s k c))
unfolding is_constant shape-the_row-Expr-2 hidden-the_row-Expr-2 hidden
constant-Choice s k a b c = refl

pub constant-Call : (s : Scope) (k : Known) (name : Named) (args : List Expr) → is_constant s k (e.Call name args) ≡ false
unfolding is_constant
constant-Call s k name args = refl

pub constant-Quantified : (s : Scope) (k : Known) (all : Bool) (bind : Bind) (b : Expr) (at : Span) → is_constant s k (e.Quantified all bind b at) ≡ false
unfolding is_constant
constant-Quantified s k all bind b at = refl

pub constant-IsUndefined : (s : Scope) (k : Known) (d : Designator) (at : Span) → is_constant s k (e.IsUndefined d at) ≡ false
unfolding is_constant
constant-IsUndefined s k d at = refl

pub ruleset constants = (constant-Number, constant-Truth, constant-Place, constant-Not, constant-Minus, constant-Chain, constant-Compare, constant-Implies, constant-Choice, constant-Call, constant-Quantified, constant-IsUndefined, the_lemmas)

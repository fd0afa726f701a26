-- The place of each form, in terms of the parts that code reads.
use Rattle.std.proofs.Common.{◌≡◌, ℕ, Bool, List, refl}
use denote.Hole.Carrier.{hidden}
use Rattle.murphi_ast.specs.declared.token.Span.{Span}
use Rattle.murphi_ast.specs.declared.expr.CompareOp.{CompareOp}
use Rattle.murphi_ast.specs.declared.expr.Bind.{Bind}
use Rattle.murphi_ast.specs.declared.expr.Named.{Named}
use Rattle.murphi_ast.specs.declared.expr.Designator.{Designator}
use Rattle.murphi_ast.specs.declared.expr.Link.{Link}
use Rattle.murphi_ast.specs.declared.expr.FieldDecl.{FieldDecl}
use Rattle.murphi_ast.specs.declared.expr.Expr as e
use Rattle.murphi_ast.specs.declared.expr.Expr.{Expr, the_lemmas}
use Rattle.murphi_ast.specs.declared.expr.Expr.TheBlock.{shape-the_row-Expr-2, hidden-the_row-Expr-2, shape-the_row-TypeExpr-6, hidden-the_row-TypeExpr-6}
use Rattle.murphi_ast.specs.declared.expr.TypeExpr as t
use Rattle.murphi_ast.specs.declared.expr.TypeExpr.{TypeExpr}
use Rattle.murphi_types.specs.Places.{place_of, type_place_of}

pub place-Number : (n : ℕ) (at : Span) → place_of (e.Number n at) ≡ at
unfolding place_of
place-Number n at = refl

pub place-Truth : (b : Bool) (at : Span) → place_of (e.Truth b at) ≡ at
unfolding place_of
place-Truth b at = refl

pub place-Place : (d : Designator) → place_of (e.Place d) ≡ d.root.at
unfolding place_of
place-Place d = refl

pub place-Call : (name : Named) (args : List Expr) → place_of (e.Call name args) ≡ name.at
unfolding place_of
place-Call name args = refl

pub place-Not : (b : Expr) (at : Span) → place_of (e.Not b at) ≡ at
unfolding place_of shape-the_row-Expr-2 hidden-the_row-Expr-2 hidden
place-Not b at = refl

pub place-Minus : (b : Expr) (at : Span) → place_of (e.Minus b at) ≡ at
unfolding place_of shape-the_row-Expr-2 hidden-the_row-Expr-2 hidden
place-Minus b at = refl

pub place-Chain : (a : Expr) (ls : List Link) → place_of (e.Chain a ls) ≡ place_of a
unfolding place_of shape-the_row-Expr-2 hidden-the_row-Expr-2 hidden
place-Chain a ls = refl

pub place-Compare : (op : CompareOp) (a b : Expr) → place_of (e.Compare op a b) ≡ place_of a
unfolding place_of shape-the_row-Expr-2 hidden-the_row-Expr-2 hidden
place-Compare op a b = refl

pub place-Implies : (a b : Expr) → place_of (e.Implies a b) ≡ place_of a
unfolding place_of shape-the_row-Expr-2 hidden-the_row-Expr-2 hidden
place-Implies a b = refl

pub place-Choice : (a b c : Expr) → place_of (e.Choice a b c) ≡ place_of a
unfolding place_of shape-the_row-Expr-2 hidden-the_row-Expr-2 hidden
place-Choice a b c = refl

pub place-Quantified : (all : Bool) (bind : Bind) (b : Expr) (at : Span) → place_of (e.Quantified all bind b at) ≡ at
unfolding place_of
place-Quantified all bind b at = refl

pub place-IsUndefined : (d : Designator) (at : Span) → place_of (e.IsUndefined d at) ≡ at
unfolding place_of
place-IsUndefined d at = refl

pub type-Known : (name : Named) → type_place_of (t.Known name) ≡ name.at
unfolding type_place_of
type-Known name = refl

pub type-Truth : (at : Span) → type_place_of (t.Truth at) ≡ at
unfolding type_place_of
type-Truth at = refl

pub type-Range : (a b : Expr) → type_place_of (t.Range a b) ≡ place_of a
unfolding type_place_of shape-the_row-Expr-2 hidden-the_row-Expr-2 hidden
type-Range a b = refl

pub type-Listed : (names : List Named) (at : Span) → type_place_of (t.Listed names at) ≡ at
unfolding type_place_of
type-Listed names at = refl

pub type-Scalarset : (a : Expr) (at : Span) → type_place_of (t.Scalarset a at) ≡ at
unfolding type_place_of shape-the_row-Expr-2 hidden-the_row-Expr-2 hidden
type-Scalarset a at = refl

pub type-Fields : (fs : List FieldDecl) (at : Span) → type_place_of (t.Fields fs at) ≡ at
unfolding type_place_of
type-Fields fs at = refl

pub type-Array : (a b : TypeExpr) (at : Span) → type_place_of (t.Array a b at) ≡ at
unfolding type_place_of shape-the_row-TypeExpr-6 hidden-the_row-TypeExpr-6 hidden
type-Array a b at = refl

pub ruleset places = (place-Number, place-Truth, place-Place, place-Call, place-Not, place-Minus, place-Chain, place-Compare, place-Implies, place-Choice, place-Quantified, place-IsUndefined, type-Known, type-Truth, type-Range, type-Listed, type-Scalarset, type-Fields, type-Array, the_lemmas)

-- The places of first tokens. Parentheses leave nothing in a tree, so opening ones are passed over.
use Rattle.murphi_ast.specs.declared.token.Span.{Span}
use Rattle.murphi_ast.specs.declared.expr.Expr as e
use Rattle.murphi_ast.specs.declared.expr.Expr.{Expr, end_of-Expr, more_of-Expr}
use Rattle.murphi_ast.specs.declared.expr.TypeExpr as t
use Rattle.murphi_ast.specs.declared.expr.TypeExpr.{TypeExpr}
use Rattle.murphi_ast.specs.Forms.{NotForm, CompareForm, ImpliesForm}
use Rattle.murphi_types.specs.Forms.{MinusForm, ChoiceForm, RangeForm, ScalarsetForm, ArrayForm}

-- the place of the first token of an expression
unfoldable pub place_of : Expr → Span
place_of (e.Number n at) = at
place_of (e.Truth b at) = at
place_of (e.Place' root _ selectors) = root.at
place_of (e.Call' name _ args) = name.at
place_of (NotForm body at) = at
place_of (MinusForm body at) = at
place_of (e.Chain' _ (more_of-Expr first end_of-Expr) _ rest) = place_of first
place_of (CompareForm op left right) = place_of left
place_of (ImpliesForm left right) = place_of left
place_of (ChoiceForm test then' else') = place_of test
place_of (e.Quantified' all _ bind _ body at) = at
place_of (e.IsUndefined' root _ selectors at) = at

-- the place of the first token of a type
unfoldable pub type_place_of : TypeExpr → Span
type_place_of (t.Known name) = name.at
type_place_of (t.Truth at) = at
type_place_of (RangeForm low high) = place_of low
type_place_of (t.Listed names at) = at
type_place_of (ScalarsetForm size at) = at
type_place_of (t.Fields' _ fields at) = at
type_place_of (ArrayForm index item at) = at

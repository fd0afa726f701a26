-- The forms of trees as they are written that definitions match on. A boxed part is a row of one, a list is a row.
use Rattle.std.specs.Prelude.{Bool}
use Rattle.murphi_ast.specs.declared.token.Span.{Span}
use Rattle.murphi_ast.specs.declared.expr.Named.{Named}
use Rattle.murphi_ast.specs.declared.expr.Expr as e
use Rattle.murphi_ast.specs.declared.expr.Expr.{Expr, end_of-Expr, more_of-Expr, end_of-Bind, more_of-Bind}
use Rattle.murphi_ast.specs.declared.expr.TypeExpr as t
use Rattle.murphi_ast.specs.declared.expr.TypeExpr.{TypeExpr, end_of-TypeExpr, more_of-TypeExpr}

-- `- body`
pattern abbrev pub MinusForm : Expr → Span → Expr
MinusForm body at = e.Minus' tt (more_of-Expr body end_of-Expr) at

-- `test ? then' : else'`
pattern abbrev pub ChoiceForm : Expr → Expr → Expr → Expr
ChoiceForm test then' else' =
    e.Choice' tt (more_of-Expr test end_of-Expr) tt (more_of-Expr then' end_of-Expr) tt
    (more_of-Expr else' end_of-Expr)

-- `forall name : over do body end`, or `exists` where `all` is false
pattern abbrev pub QuantifiedForm : Bool → Named → TypeExpr → Expr → Span → Expr
QuantifiedForm all name over body at =
    e.Quantified' all tt (more_of-Bind name over end_of-Bind) tt (more_of-Expr body end_of-Expr) at

-- `low .. high`
pattern abbrev pub RangeForm : Expr → Expr → TypeExpr
RangeForm low high = t.Range' tt (more_of-Expr low end_of-Expr) tt (more_of-Expr high end_of-Expr)

-- `scalarset(size)`
pattern abbrev pub ScalarsetForm : Expr → Span → TypeExpr
ScalarsetForm size at = t.Scalarset' tt (more_of-Expr size end_of-Expr) at

-- `array [index] of item`
pattern abbrev pub ArrayForm : TypeExpr → TypeExpr → Span → TypeExpr
ArrayForm index item at =
    t.Array' tt (more_of-TypeExpr index end_of-TypeExpr) tt (more_of-TypeExpr item end_of-TypeExpr) at

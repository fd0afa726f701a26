-- The forms of flat trees that definitions match on. A boxed part is a row of one, a list is a row.
use Rattle.std.specs.Prelude.{[]}
use Rattle.murphi_ast.specs.declared.token.Span.{Span}
use Rattle.murphi_ast.specs.declared.expr.Named.{Named}
use Rattle.murphi_ast.specs.declared.expr.CompareOp.{CompareOp}
use Rattle.murphi_ast.specs.declared.expr.Expr as e
use Rattle.murphi_ast.specs.declared.expr.Expr.{Expr, end_of-Expr, more_of-Expr, end_of-Selector}

-- a name, where a value stands
pattern abbrev pub NameForm : Named → Expr
NameForm root = e.Place' root [] end_of-Selector

-- `! body`
pattern abbrev pub NotForm : Expr → Span → Expr
NotForm body at = e.Not' tt (more_of-Expr body end_of-Expr) at

-- `left = right` and the other comparisons
pattern abbrev pub CompareForm : CompareOp → Expr → Expr → Expr
CompareForm op left right = e.Compare' op tt (more_of-Expr left end_of-Expr) tt (more_of-Expr right end_of-Expr)

-- `left -> right`
pattern abbrev pub ImpliesForm : Expr → Expr → Expr
ImpliesForm left right = e.Implies' tt (more_of-Expr left end_of-Expr) tt (more_of-Expr right end_of-Expr)

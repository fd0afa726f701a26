-- The forms of trees that definitions match on. A boxed part is a row of one, a list is a row.
use Rattle.std.specs.Prelude.{Bool}
use Rattle.murphi_ast.specs.declared.expr.CompareOp.{CompareOp}
use Rattle.murphi_typed.specs.declared.types.Simple.{Simple}
use Rattle.murphi_typed.specs.declared.types.AnyType as t
use Rattle.murphi_typed.specs.declared.types.AnyType.{AnyType, end_of-AnyType, more_of-AnyType}
use Rattle.murphi_typed.specs.declared.expr.Expr as x
use Rattle.murphi_typed.specs.declared.expr.Expr.{Expr, end_of-Expr, more_of-Expr}

pattern abbrev pub ArrayForm : Simple → AnyType → AnyType
ArrayForm index item = t.Array' index tt (more_of-AnyType item end_of-AnyType)

pattern abbrev pub NotForm : Expr → Expr
NotForm body = x.Not' tt (more_of-Expr body end_of-Expr)

pattern abbrev pub MinusForm : Expr → Expr
MinusForm body = x.Minus' tt (more_of-Expr body end_of-Expr)

pattern abbrev pub CompareForm : CompareOp → Expr → Expr → Expr
CompareForm op left right = x.Compare' op tt (more_of-Expr left end_of-Expr) tt (more_of-Expr right end_of-Expr)

pattern abbrev pub ImpliesForm : Expr → Expr → Expr
ImpliesForm left right = x.Implies' tt (more_of-Expr left end_of-Expr) tt (more_of-Expr right end_of-Expr)

-- if the test is true the second part, else the third
pattern abbrev pub ChoiceForm : Expr → Expr → Expr → Expr
ChoiceForm test then' else' =
    x.Choice' tt (more_of-Expr test end_of-Expr) tt (more_of-Expr then' end_of-Expr) tt
    (more_of-Expr else' end_of-Expr)

-- for all values of a type, or for one of them where `all` is false
pattern abbrev pub QuantifiedForm : Bool → Simple → Expr → Expr
QuantifiedForm all over body = x.Quantified' all over tt (more_of-Expr body end_of-Expr)

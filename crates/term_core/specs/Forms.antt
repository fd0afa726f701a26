-- The forms of terms that definitions match on. A boxed part is a row of one, a list is a row.
use Rattle.std.specs.Prelude.{Bool}
use Rattle.term_core.specs.declared.value.ArithOp.{ArithOp}
use Rattle.term_core.specs.declared.term.Term as t
use Rattle.term_core.specs.declared.term.Term.{Term, end_of-Term, more_of-Term}

pattern abbrev pub NotForm : Term → Term
NotForm body = t.Not' tt (more_of-Term body end_of-Term)

-- if the test is true the second term, else the third
pattern abbrev pub IfForm : Term → Term → Term → Term
IfForm test then' else' = t.If' tt (more_of-Term test end_of-Term) tt (more_of-Term then' end_of-Term) tt (more_of-Term else' end_of-Term)

pattern abbrev pub SameForm : Term → Term → Term
SameForm left right = t.Same' tt (more_of-Term left end_of-Term) tt (more_of-Term right end_of-Term)

pattern abbrev pub LessForm : Term → Term → Term
LessForm left right = t.Less' tt (more_of-Term left end_of-Term) tt (more_of-Term right end_of-Term)

pattern abbrev pub ArithForm : ArithOp → Term → Term → Term
ArithForm op left right = t.Arith' op tt (more_of-Term left end_of-Term) tt (more_of-Term right end_of-Term)

-- for all nodes, or for one of them where `all` is false
pattern abbrev pub QuantifiedForm : Bool → Term → Term
QuantifiedForm all body = t.Quantified' all tt (more_of-Term body end_of-Term)

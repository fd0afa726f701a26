-- What comes of working something out: it is got, or there is a fault at a place of the text.
use Rattle.std.specs.Prelude.{Option, None, Some}
use Rattle.murphi_ast.specs.declared.token.Span.{Span}

pub data Outcome (A : Type 0) : Type 0 where
  Got : A → Outcome A
  Fault : Span → Outcome A

-- one part after another, unless it faults
abbrev pub given : {A B : Type 0} → Outcome A → (A → Outcome B) → Outcome B
given (Got a) next = next a
given (Fault at) next = Fault at

-- what should be there; it faults where it is not
abbrev pub or_fault : {A : Type 0} → Span → Option A → Outcome A
or_fault at (Some a) = Got a
or_fault at None = Fault at

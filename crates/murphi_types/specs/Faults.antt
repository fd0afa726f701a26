-- Faults, and the first of several: the first in text order, and at one place that of the least code. This order
-- is the project's own.
use Rattle.std.specs.Prelude.{ℕ, Bool, true, false, ◌&&◌, ◌||◌, nat_eq, nat_lt, List, [], ◌∷◌, Option, None, Some, if◌then◌else◌}
use Rattle.murphi_ast.specs.declared.token.Span.{Span}
use Rattle.murphi_types.specs.declared.fault.Cause.{Cause}
use Rattle.murphi_types.specs.declared.fault.Cause.TheVariants as cause
use Rattle.murphi_types.specs.declared.fault.Fault.{Fault}

-- the number of a code
abbrev pub code_of : Cause → ℕ
code_of cause.E05 = 5
code_of cause.E06 = 6
code_of cause.E07 = 7
code_of cause.E08 = 8
code_of cause.E10 = 10
code_of cause.E11 = 11
code_of cause.E14 = 14
code_of (cause.E16 quantity count limit) = 16

-- whether a place stands before another in the text
abbrev pub is_earlier : Span → Span → Bool
is_earlier a b = nat_lt a.line b.line || (nat_eq a.line b.line && nat_lt a.column b.column)

abbrev pub is_same_place : Span → Span → Bool
is_same_place a b = nat_eq a.line b.line && nat_eq a.column b.column

-- whether a fault comes before another: it stands earlier, or at the same place and has the lesser code
abbrev pub is_before : Fault → Fault → Bool
is_before f g = is_earlier f.at g.at || (is_same_place f.at g.at && nat_lt (code_of f.cause) (code_of g.cause))

-- the first of two, if there is one; of two that are alike, the left
abbrev pub sooner : Option Fault → Option Fault → Option Fault
sooner None g = g
sooner (Some f) None = Some f
sooner (Some f) (Some g) = if is_before g f then Some g else Some f

-- the first of a list of faults
abbrev pub first_fault : List Fault → Option Fault
first_fault [] = None
first_fault (f ∷ fs) = sooner (Some f) (first_fault fs)

-- no fault but this one
abbrev pub lone : Cause → Span → List Fault
lone cause at = record { cause = cause; at = at } ∷ []

-- a fault, unless a test passes
abbrev pub unless : Bool → Cause → Span → List Fault
unless true cause at = []
unless false cause at = lone cause at

-- there is none
abbrev pub is_clear : List Fault → Bool
is_clear [] = true
is_clear (f ∷ fs) = false

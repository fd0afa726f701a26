-- Operators with the place of a fault.
use Rattle.std.proofs.Common.{◌≡◌, ◌≢◌, Bool, true, false, Option, None, Some, refl}
use Rattle.std.specs.Prelude.{ℤ, if◌then◌else◌, option_map}
use Rattle.term_core.specs.declared.value.Value.{Value}
use Rattle.term_core.specs.declared.value.Value.TheVariants as value
use Rattle.term_core.specs.declared.value.ArithOp.{ArithOp}
use Rattle.term_core.specs.Values.{number, is_number}
use Rattle.murphi_ast.specs.declared.token.Span.{Span}
use Rattle.murphi_typed.specs.Outcome.{Got, Fault, given, or_fault}
use Rattle.murphi_typed.specs.Expressions.{result_of, in_range, calculated, defined}
use Rattle.murphi_run.specs.Operators.{kept, found}

in_range_is : (at : Span) (z : ℤ) (b : Bool) → (if b then Got (value.Number z) else Fault at) ≡ or_fault at (option_map value.Number (if b then Some z else None))
in_range_is at z true = refl
in_range_is at z false = refl

pub calculated_is : (at : Span) (op : ArithOp) (a b : Value) → calculated at op a b ≡ or_fault at (found op a b)
calculated_is at op a b = go (result_of op (number a) (number b))
  where
    go : (o : Option ℤ) → given (or_fault at o) (in_range at) ≡ or_fault at (option_map value.Number (kept o))
    go None = refl
    go (Some z) = in_range_is at z (is_number z)

pub defined_is : (at : Span) (v : Value) → value.Undefined ≢ v → defined at v ≡ Got v
defined_is at value.Undefined e = absurd (e refl)
defined_is at (value.Truth b) e = refl
defined_is at (value.Number z) e = refl
defined_is at (value.Member k i) e = refl
defined_is at (value.Node n) e = refl

pub ruleset operators = (calculated_is, defined_is)

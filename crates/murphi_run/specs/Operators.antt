-- What operators make of values, where a fault has no place yet.
use Rattle.std.specs.Prelude.{◌≡◌, ℤ, Option, None, Some, option_and_then, option_map, if◌then◌else◌}
use Rattle.term_core.specs.declared.value.Value.{Value}
use Rattle.term_core.specs.declared.value.Value.TheVariants as value
use Rattle.term_core.specs.declared.value.ArithOp.{ArithOp}
use Rattle.term_core.specs.Values.{number, is_number}
use Rattle.murphi_ast.specs.declared.token.Span.{Span}
use Rattle.murphi_ast.specs.declared.expr.ChainOp.{ChainOp}
use Rattle.murphi_typed.specs.Outcome.{Outcome, Got, Fault}
use Rattle.murphi_typed.specs.Expressions.{result_of, joined}

-- a number, if it is one from -32,768 to 32,767
abbrev pub kept : Option ℤ → Option ℤ
kept z = option_and_then (λ z. if is_number z then Some z else None) z

-- what an operator makes of two numbers, if anything
abbrev pub found : ArithOp → Value → Value → Option Value
found op a b = option_map value.Number (kept (result_of op (number a) (number b)))

-- a value that settles a link of a chain is its value whatever the operand is; where none does, a fault of the
-- operand is one of the link
abbrev pub Settles : ChainOp → Value → Option Value → Type 0
Settles op left (Some v) = (at : Span) (operand : Outcome Value) → joined at op left operand ≡ Got v
Settles op left None = (at place : Span) → joined at op left (Fault place) ≡ Fault place

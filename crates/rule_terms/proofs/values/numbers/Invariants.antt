use Rattle.std.proofs.Common.{◌≡◌, ◌-◌, ◌++◌, map}
use Rattle.std.specs.Prelude.{◌+ℤ◌, pos}
use Rattle.term_core.specs.declared.value.Value.TheVariants.{Number}
use Rattle.murphi_typed.specs.Values.{numbers_from}
use Rattle.rule_terms.proofs.values.numbers.Given as goal

abbrev pub invariant-loop-step : goal.invariant-loop-step
invariant-loop-step l =
    (l.low +ℤ pos l.count ≡ l.high +ℤ pos 1)
    × (l.out ++ map Number (numbers_from (l.low +ℤ pos l.step) (l.count - l.step)) ≡ map Number (numbers_from l.low l.count))

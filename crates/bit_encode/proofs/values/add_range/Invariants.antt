use Rattle.std.proofs.Common.{◌≡◌, ◌-◌, ◌++◌, map}
use Rattle.std.specs.Prelude.{pos, ◌+ℤ◌}
use Rattle.other_abstract.specs.declared.value.AbsValue.TheVariants.{Number}
use Rattle.other_abstract.specs.Tests.{ints_from}
use Rattle.bit_encode.proofs.values.add_range.Given as goal

abbrev pub invariant-loop-step : goal.invariant-loop-step
invariant-loop-step l =
    (l.fn.low +ℤ pos l.count ≡ l.fn.high +ℤ pos 1)
    × (l.out.items ++ map Number (ints_from (l.fn.low +ℤ pos l.step) (l.count - l.step)) ≡ l.fn.out.items ++ map Number (ints_from l.fn.low l.count))

use Rattle.std.proofs.Common.{◌≡◌, ◌-◌, Bool, ◌||◌, map}
use Rattle.std.specs.Prelude.{pos, ◌+ℤ◌}
use Rattle.std.specs.List.{list_any}
use Rattle.other_abstract.specs.declared.value.AbsValue.{AbsValue}
use Rattle.other_abstract.specs.declared.value.AbsValue.TheVariants.{Number}
use Rattle.other_abstract.specs.Tests.{ints_from}
use Rattle.other_abstract.proofs.read.add_range.Given as goal

abbrev pub invariant-loop-step : goal.invariant-loop-step
invariant-loop-step l =
    (l.fn.low +ℤ pos l.count ≡ l.fn.high +ℤ pos 1)
    × ((p : AbsValue → Bool) → (list_any p l.out || list_any p (map Number (ints_from (l.fn.low +ℤ pos l.step) (l.count - l.step))))
    ≡ (list_any p l.fn.out || list_any p (map Number (ints_from l.fn.low l.count))))

use Rattle.std.proofs.Common.{◌≡◌, Bool, ◌||◌, drop}
use Rattle.std.specs.List.{list_any}
use Rattle.other_abstract.specs.declared.value.AbsValue.{AbsValue}
use Rattle.other_abstract.proofs.combine.add_all.Given as goal

abbrev pub invariant-loop-value : goal.invariant-loop-value
invariant-loop-value l =
    (p : AbsValue → Bool) → (list_any p l.out || list_any p (drop l.value-index l.more))
    ≡ (list_any p l.fn.out || list_any p l.more)

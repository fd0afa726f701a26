use Rattle.std.proofs.Common.{◌≡◌, Bool, ◌||◌, drop}
use Rattle.std.specs.List.{list_any}
use Rattle.other_abstract.specs.declared.value.AbsValue.{AbsValue}
use Rattle.other_abstract.specs.Tests.{same_passes}
use Rattle.other_abstract.proofs.combine.compare_with.Given as goal

abbrev pub invariant-loop-right : goal.invariant-loop-right
invariant-loop-right l =
    (p : AbsValue → Bool) → (list_any p l.out || list_any (same_passes p l.left) (drop l.right-index l.rights))
    ≡ (list_any p l.fn.out || list_any (same_passes p l.left) l.rights)

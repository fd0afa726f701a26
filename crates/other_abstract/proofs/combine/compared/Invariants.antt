use Rattle.std.proofs.Common.{◌≡◌, Bool, ◌||◌, drop}
use Rattle.std.specs.List.{list_any}
use Rattle.other_abstract.specs.declared.value.AbsValue.{AbsValue}
use Rattle.other_abstract.specs.Tests.{same_passes}
use Rattle.other_abstract.proofs.combine.compared.Given as goal

abbrev pub invariant-loop-left : goal.invariant-loop-left
invariant-loop-left l =
    (p : AbsValue → Bool) → (list_any p l.out || list_any (λ a. list_any (same_passes p a) l.rights) (drop l.left-index l.lefts))
    ≡ list_any (λ a. list_any (same_passes p a) l.rights) l.lefts

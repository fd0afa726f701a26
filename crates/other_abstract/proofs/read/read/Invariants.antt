use Rattle.std.proofs.Common.{◌≡◌, Bool, ◌||◌, drop}
use Rattle.std.specs.List.{list_any}
use Rattle.other_abstract.specs.declared.value.AbsValue.{AbsValue}
use Rattle.other_abstract.specs.Tests.{read_passes}
use Rattle.other_abstract.specs.Lists.{window_in}
use Rattle.other_abstract.proofs.read.read.Given as goal

abbrev pub invariant-loop-lead : goal.invariant-loop-lead
invariant-loop-lead l =
    (p : AbsValue → Bool)
    → (list_any p l.out || list_any (read_passes (window_in l.scene) l.scene.cells.now l.family p) (drop l.lead-index l.leads))
    ≡ list_any (read_passes (window_in l.scene) l.scene.cells.now l.family p) l.leads

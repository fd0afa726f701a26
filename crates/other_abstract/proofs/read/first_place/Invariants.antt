use Rattle.std.proofs.Common.{◌≡◌, ◌+◌, ◌-◌, ◌<◌, ◌^◌, drop}
use Rattle.term_core.specs.Cells.{first_place}
use Rattle.other_abstract.specs.Windows.{size}
use Rattle.other_abstract.specs.Lists.{window_in}
use Rattle.other_abstract.proofs.read.first_place.Given as goal

abbrev pub invariant-loop-k : goal.invariant-loop-k
invariant-loop-k l =
    (l.sum + first_place (size (window_in l.scene)) (drop l.k l.scene.families.now) (l.family - l.k)
    ≡ first_place (size (window_in l.scene)) l.scene.families.now l.family)
    × (l.sum < 2 ^ 64)

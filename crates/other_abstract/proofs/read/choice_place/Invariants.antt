use Rattle.std.proofs.Common.{◌≡◌, ◌<◌, ◌^◌, drop}
use Rattle.other_abstract.specs.Windows.{size}
use Rattle.other_abstract.specs.Lists.{window_in, choices_before}
use Rattle.other_abstract.proofs.read.choice_place.Given as goal

abbrev pub invariant-loop-node : goal.invariant-loop-node
invariant-loop-node l =
    (choices_before (size (window_in l.scene)) l.scene.kept l.before (drop l.node-index l.nodes)
    ≡ choices_before (size (window_in l.scene)) l.scene.kept 0 l.nodes)
    × (l.before < 2 ^ 64)

use Rattle.std.proofs.Common.{◌≡◌, take}
use Rattle.other_abstract.proofs.state.Pattern.of.Given as goal

abbrev pub invariant-loop-node : goal.invariant-loop-node
invariant-loop-node l = (l.held.items ≡ take l.node-index l.nodes) × (l.held.capacity ≡ 3)

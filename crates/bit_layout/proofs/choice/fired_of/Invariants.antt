use Rattle.std.proofs.Common.{◌≡◌, drop}
use Rattle.other_abstract.specs.Machines.{fired_after}
use Rattle.bit_layout.proofs.choice.fired_of.Given as goal

abbrev pub invariant-loop-node : goal.invariant-loop-node
invariant-loop-node l = fired_after l.fired (drop l.node-index l.pattern) ≡ fired_after 0 l.pattern

use Rattle.std.proofs.Common.{◌≡◌, ◌+◌, drop}
use Rattle.murphi_typed.specs.Prefix.{node_parameters}
use Rattle.type_items.proofs.limits.count_nodes.Given as goal

abbrev pub invariant-loop-one : goal.invariant-loop-one
invariant-loop-one l = l.count + node_parameters (drop l.one-index l.params) ≡ node_parameters l.params

use Rattle.std.proofs.Common.{◌≡◌, ◌+◌, drop}
use Rattle.std.specs.Prelude.{count_by}
use Rattle.term_core.specs.Firing.{node_parameters, is_node_value}
use Rattle.bit_layout.proofs.size.node_parameters.Given as goal

abbrev pub invariant-loop-value : goal.invariant-loop-value
invariant-loop-value l = l.count + count_by is_node_value (drop l.value-index l.rule.values) ≡ node_parameters l.rule

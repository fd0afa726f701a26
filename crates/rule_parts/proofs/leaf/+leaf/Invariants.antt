use Rattle.std.proofs.Common.{◌≡◌, drop}
use Rattle.rule_parts.specs.Steps.{list_leaf}
use Rattle.rule_parts.proofs.leaf.+leaf.Given as goal

abbrev pub invariant-leaf_in-loop-f : goal.invariant-leaf_in-loop-f
invariant-leaf_in-loop-f l = list_leaf (drop l.f-index l.fields) l.name (drop l.from l.path) ≡ list_leaf l.fields l.name (drop l.from l.path)

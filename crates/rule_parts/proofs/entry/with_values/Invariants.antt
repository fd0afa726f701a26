use Rattle.std.proofs.Common.{◌≡◌, ◌++◌, map, drop}
use Rattle.rule_parts.specs.Seen.{seen_entry}
use Rattle.rule_parts.specs.Steps.{value_on}
use Rattle.rule_parts.proofs.entry.with_values.Given as goal

abbrev pub invariant-loop-v : goal.invariant-loop-v
invariant-loop-v l = map seen_entry l.out ++ map (value_on l.index (seen_entry l.e)) (drop l.v-index l.vs) ≡ map seen_entry l.fn.front ++ map (value_on l.index (seen_entry l.e)) l.vs

use Rattle.std.proofs.Common.{◌≡◌, ◌++◌, map, drop}
use Rattle.std.specs.List.{flat_map}
use Rattle.rule_parts.specs.Seen.{seen_entry}
use Rattle.rule_parts.specs.Steps.{value_on}
use Rattle.rule_parts.proofs.entry.over_values.Given as goal

abbrev pub invariant-loop-e : goal.invariant-loop-e
invariant-loop-e l = map seen_entry l.out ++ flat_map (λ e. map (value_on l.index e) l.vs) (map seen_entry (drop l.e-index l.es)) ≡ flat_map (λ e. map (value_on l.index e) l.vs) (map seen_entry l.es)

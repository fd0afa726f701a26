use Rattle.std.proofs.Common.{◌≡◌, ◌++◌, map, drop}
use Rattle.rule_parts.specs.Seen.{seen_entry}
use Rattle.rule_parts.specs.Steps.{axis_on}
use Rattle.rule_parts.proofs.entry.over_axis.Given as goal

abbrev pub invariant-loop-e : goal.invariant-loop-e
invariant-loop-e l = map seen_entry l.out ++ map (λ e. axis_on e l.index) (map seen_entry (drop l.e-index l.es)) ≡ map (λ e. axis_on e l.index) (map seen_entry l.es)

use Rattle.std.proofs.Common.{◌≡◌, map, length}
use Rattle.rule_parts.specs.Seen.{seen_tested}
use Rattle.rule_parts.specs.Steps.{chained_to}
use Rattle.rule_parts.proofs.entry.chain_to.Given as goal

abbrev pub invariant-loop-one : goal.invariant-loop-one
invariant-loop-one l = chained_to (map seen_tested l.rest) l.out ≡ chained_to (map seen_tested l.fn.all) l.fn.otherwise

abbrev pub decreases-loop-one : goal.decreases-loop-one
decreases-loop-one l = length l.rest

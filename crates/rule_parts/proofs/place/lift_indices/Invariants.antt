use Rattle.std.proofs.Common.{◌≡◌, ◌++◌, map, drop}
use Rattle.rule_inline.specs.Tables.{lifted_index}
use Rattle.rule_parts.specs.Seen.{seen_index}
use Rattle.rule_parts.proofs.place.lift_indices.Given as goal

abbrev pub invariant-loop-one : goal.invariant-loop-one
invariant-loop-one l = map seen_index l.out ++ map (lifted_index l.frame) (map seen_index (drop l.one-index l.all)) ≡ map (lifted_index l.frame) (map seen_index l.all)

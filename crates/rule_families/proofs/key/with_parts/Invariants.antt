use Rattle.std.proofs.Common.{◌≡◌, ◌++◌, map, drop}
use Rattle.rule_families.specs.Choices.{seen_key, part_on}
use Rattle.rule_families.proofs.key.with_parts.Given as goal

abbrev pub invariant-loop-part : goal.invariant-loop-part
invariant-loop-part l = map seen_key l.out ++ map (part_on (seen_key l.k)) (drop l.part-index l.all) ≡ map seen_key l.fn.front ++ map (part_on (seen_key l.k)) l.all

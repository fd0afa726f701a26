use Rattle.std.proofs.Common.{◌≡◌, ◌++◌, map, drop}
use Rattle.rule_parts.specs.Seen.{seen_family}
use Rattle.rule_families.specs.Under.{families_from}
use Rattle.rule_families.proofs.family.families_from.Given as goal

abbrev pub invariant-loop-v : goal.invariant-loop-v
invariant-loop-v l = map seen_family l.out ++ families_from l.number (drop l.v-index l.all) ≡ families_from 0 l.all

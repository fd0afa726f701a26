use Rattle.std.proofs.Common.{◌≡◌, ◌++◌, map, drop, Some}
use Rattle.rule_families.proofs.key.all_fixed.Given as goal

abbrev pub invariant-loop-v : goal.invariant-loop-v
invariant-loop-v l = l.out ++ map Some (drop l.v-index l.vs) ≡ map Some l.vs

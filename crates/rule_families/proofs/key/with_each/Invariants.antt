use Rattle.std.proofs.Common.{◌≡◌, ◌++◌, map, drop}
use Rattle.rule_families.specs.Choices.{seen_key, keys_on}
use Rattle.rule_families.proofs.key.with_each.Given as goal

abbrev pub invariant-loop-k : goal.invariant-loop-k
invariant-loop-k l = map seen_key l.out ++ keys_on (map seen_key (drop l.k-index l.ks)) l.all ≡ keys_on (map seen_key l.ks) l.all

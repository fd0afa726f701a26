use Rattle.std.proofs.Common.{◌≡◌, map, drop}
use Rattle.murphi_typed.specs.Families.{choices}
use Rattle.rule_inline.specs.Machine.{fixed}
use Rattle.rule_families.specs.Choices.{seen_key, keys_to}
use Rattle.rule_families.proofs.key.keys.Given as goal

abbrev pub invariant-loop-over : goal.invariant-loop-over
invariant-loop-over l = keys_to (map seen_key l.out) (drop l.over-index l.types) ≡ map (map fixed) (choices 1 l.types)

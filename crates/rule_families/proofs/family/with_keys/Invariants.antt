use Rattle.std.proofs.Common.{◌≡◌, ◌++◌, map, drop}
use Rattle.rule_parts.specs.Seen.{seen_step, seen_family}
use Rattle.rule_families.specs.Choices.{seen_key}
use Rattle.rule_families.specs.Under.{keyed}
use Rattle.rule_families.proofs.family.with_keys.Given as goal

abbrev pub invariant-loop-key : goal.invariant-loop-key
invariant-loop-key l = map seen_family l.out ++ map (keyed l.global (map seen_step l.steps) l.leaf) (map seen_key (drop l.key-index l.all)) ≡ map seen_family l.fn.front ++ map (keyed l.global (map seen_step l.steps) l.leaf) (map seen_key l.all)

use Rattle.std.proofs.Common.{◌≡◌, ◌++◌, map, drop}
use Rattle.rule_parts.specs.Seen.{seen_step, seen_family}
use Rattle.rule_families.specs.Under.{fields_under}
use Rattle.rule_families.proofs.family.+under.Given as goal

abbrev pub invariant-under_fields-loop-field : goal.invariant-under_fields-loop-field
invariant-under_fields-loop-field l = map seen_family l.out ++ fields_under l.global (map seen_step l.steps) (drop l.field-index l.fields) ≡ map seen_family l.fn.front ++ fields_under l.global (map seen_step l.steps) l.fields

use Rattle.std.proofs.Common.{◌≡◌, map, drop}
use Rattle.rule_inline.specs.Machine.{number_from, number_of}
use Rattle.rule_parts.specs.Seen.{seen_owner, seen_family}
use Rattle.rule_parts.proofs.family.number_of.Given as goal

abbrev pub invariant-loop-f : goal.invariant-loop-f
invariant-loop-f l = number_from l.number (map seen_family (drop l.f-index l.families)) (seen_owner l.owner) l.path l.key ≡ number_of (map seen_family l.families) (seen_owner l.owner) l.path l.key

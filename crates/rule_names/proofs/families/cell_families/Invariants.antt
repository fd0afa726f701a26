use Rattle.std.proofs.Common.{◌≡◌, map, take}
use Rattle.rule_inline.specs.Machine.{cell_family}
use Rattle.rule_parts.specs.Seen.{seen_family}
use Rattle.rule_names.proofs.families.cell_families.Given as goal

abbrev pub invariant-loop-family : goal.invariant-loop-family
invariant-loop-family l = l.out ≡ map (cell_family l.typed) (map seen_family (take l.family-index l.families))

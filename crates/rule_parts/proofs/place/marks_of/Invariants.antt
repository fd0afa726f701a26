use Rattle.std.proofs.Common.{◌≡◌, ◌++◌, map, drop}
use Rattle.rule_inline.specs.Tables.{marks_of}
use Rattle.rule_parts.specs.Seen.{seen_index}
use Rattle.rule_parts.proofs.place.marks_of.Given as goal

abbrev pub invariant-loop-index : goal.invariant-loop-index
invariant-loop-index l = l.out ++ marks_of (map seen_index (drop l.index-index l.at)) ≡ marks_of (map seen_index l.at)

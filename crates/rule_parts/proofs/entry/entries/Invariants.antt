use Rattle.std.proofs.Common.{◌≡◌, map, drop}
use Rattle.rule_inline.specs.Tables.{entries}
use Rattle.rule_parts.specs.Seen.{seen_entry, seen_index}
use Rattle.rule_parts.specs.Steps.{extended}
use Rattle.rule_parts.proofs.entry.entries.Given as goal

abbrev pub invariant-loop-index : goal.invariant-loop-index
invariant-loop-index l = extended (map seen_entry l.out) (map seen_index (drop l.index-index l.at)) ≡ entries (map seen_index l.at)

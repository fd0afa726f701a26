use Rattle.std.proofs.Common.{◌≡◌, ◌+◌, drop}
use Rattle.rule_inline.specs.Tables.{holes}
use Rattle.rule_parts.proofs.place.holes.Given as goal

abbrev pub invariant-loop-part : goal.invariant-loop-part
invariant-loop-part l = l.count + holes (drop l.part-index l.key) ≡ holes l.key

use Rattle.std.proofs.Common.{◌≡◌, map, drop}
use Rattle.term_core.specs.Substitution.{lifted}
use Rattle.rule_inline.specs.Tables.{matched}
use Rattle.rule_parts.specs.Seen.{seen_index, seen_match}
use Rattle.rule_parts.specs.Steps.{matched_to}
use Rattle.rule_parts.proofs.fit.matching.Given as goal

abbrev pub invariant-loop-i : goal.invariant-loop-i
invariant-loop-i l = matched_to (lifted l.frame l.axes) l.frame (seen_match l.m) (map seen_index (drop l.i l.all)) (drop l.i l.key) ≡ matched (lifted l.frame l.axes) l.frame (map seen_index l.all) l.key

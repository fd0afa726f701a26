use Rattle.std.proofs.Common.{◌≡◌, ◌+◌, map, drop, Some, slice_get, sym, ap, ◌∙◌}
use Rattle.std.proofs.lemmas.Option.{slice_get-get_or}
use Rattle.term_core.specs.Substitution.{lifted}
use Rattle.rule_parts.specs.Seen.{seen_index, seen_match}
use Rattle.rule_parts.specs.Steps.{matched_on}
use Rattle.rule_parts.proofs.FitEquations.{matched_at}
use Rattle.rule_parts.proofs.fit.one_matched.Goals as goal

pub returns-in_ok-out-in-Some : goal.returns-in_ok-out-in-Some
returns-in_ok-out-in-Some c =
    let found : slice_get c.args.all.now c.args.i ≡ Some c.index-all-i.result = slice_get-get_or c.args.all.now c.args.i c.index-all-i.result c.requires ∙ ap Some (sym c.index-all-i.is) in
    ap (λ q. matched_on (lifted c.args.frame c.args.axes) c.args.frame q (map seen_index (drop (c.args.i + 1) c.args.all.now)) (drop (c.args.i + 1) c.args.key.now)) c.in_ok-out-in-Some.ensures
    ∙ sym (matched_at (lifted c.args.frame c.args.axes) c.args.frame (seen_match c.args.m) c.args.all.now c.args.key.now c.args.i c.index-all-i.result c.in-Some.part found (sym c.part_at.ensures ∙ c.in-Some.is))

use Rattle.std.proofs.Common.{ap, sym, ◌∙◌, Some}
use Rattle.std.proofs.lemmas.Option.{slice_get-get_or}
use Rattle.other_abstract.proofs.EvaluateLemmas.{extended_more}
use Rattle.other_abstract.proofs.lead.extended.Goals as goal

-- one lead more
pub loop-lead-preserved : goal.loop-lead-preserved
loop-lead-preserved c q =
    extended_more c.args.leads.now c.args.values.now c.loop-lead.lead-index c.lead-item.result c.loop-lead.out.items _ q
    (slice_get-get_or c.args.leads.now c.loop-lead.lead-index c.lead-item.result c.loop-lead-test.true ∙ ap Some (sym c.lead-item.is))
    (c.in_ok-extend.ensures q) (c.loop-lead.invariant q)

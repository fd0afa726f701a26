use Rattle.bit_encode.proofs.LeadLemmas.{leads_more}
use Rattle.bit_encode.proofs.leads.extended.Goals as goal

pub loop-lead-preserved : goal.loop-lead-preserved
loop-lead-preserved c = leads_more _ _ _ _ _ _ _ _ _ _ _ c.loop-lead-test.true c.lead-item.is c.loop-lead.invariant c.extend.ensures.keeps c.in_ok-extend.ensures.edges c.in_ok-extend.ensures.value

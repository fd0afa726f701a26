use Rattle.std.proofs.Common.{◌||◌, ◌∙◌, ap, refl}
use Rattle.other_abstract.specs.Lists.{led_after}
use Rattle.bit_encode.specs.Leads.{held_lead}
use Rattle.bit_encode.proofs.Gaining.{under_all}
use Rattle.bit_encode.proofs.LeadLemmas.{leads_more, leads_all}
use Rattle.bit_encode.proofs.leads.extend.Goals as goal

pub loop-one-preserved : goal.loop-one-preserved
loop-one-preserved c = leads_more _ _ _ _ _ _ _ _ _ _ _ c.loop-one-test.true refl c.loop-one.invariant c.add_after.ensures.keeps c.in_ok-add_after.ensures.edges c.in_ok-add_after.ensures.value

pub returns-clause-value : goal.returns-clause-value
returns-clause-value c = λ x val q a. (leads_all _ _ _ _ _ _ _ c.loop-one-test.false c.loop-one.invariant).value x val q a
    ∙ ap (λ b. held_lead val q c.args.out.now || b) (under_all val (λ v. q (led_after c.args.lead.now.lead v)) (val c.args.lead.now.edge) c.args.values.now)

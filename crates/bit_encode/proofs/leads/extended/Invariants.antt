use Rattle.std.proofs.Common.{◌&&◌, take, []}
use Rattle.other_abstract.specs.Lists.{led_after}
use Rattle.bit_encode.specs.declared.leads.PossibleLead.{PossibleLead}
use Rattle.bit_encode.specs.MaySets.{held}
use Rattle.bit_encode.proofs.LeadLemmas.{Leads}
use Rattle.bit_encode.proofs.leads.extended.Given as goal

abbrev pub invariant-loop-lead : goal.invariant-loop-lead
invariant-loop-lead l = Leads l.fn.circuit l.circuit [] l.out (λ val q (o : PossibleLead). held val (λ v. q (led_after o.lead v)) l.values && val o.edge) (take l.lead-index l.leads)

use Rattle.std.proofs.Common.{◌&&◌, take}
use Rattle.other_abstract.specs.Lists.{led_after}
use Rattle.bit_encode.specs.declared.set.Possible.{Possible}
use Rattle.bit_encode.proofs.LeadLemmas.{Leads}
use Rattle.bit_encode.proofs.leads.extend.Given as goal

abbrev pub invariant-loop-one : goal.invariant-loop-one
invariant-loop-one l = Leads l.fn.circuit l.circuit l.fn.out l.out (λ val q (o : Possible). q (led_after l.lead.lead o.value) && (val l.lead.edge && val o.edge)) (take l.one-index l.values)

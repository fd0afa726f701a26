use Rattle.std.proofs.Common.{sym}
use Rattle.bit_encode.proofs.LeadLemmas.{lead_widened}
use Rattle.bit_encode.proofs.leads.LeadSet.add.Goals as goal
use Rattle.bit_encode.proofs.leads.LeadSet.add.Goals.{in-At-2, in-Anywhere-2}

pub returns-in_ok-wide-in-Some-clause-value : goal.returns-in_ok-wide-in-Some-clause-value
returns-in_ok-wide-in-Some-clause-value c = elim c.match-lead-2.branch [
  | in-At-2 w ↦ λ x val q a.
      lead_widened val q c.args.self.now c.self.inside.members.items c.match-lead-2.self c.in-Some.i c.index_mut.result.now c.index.result.now c.args.lead c.args.edge c.in_ok-wide-in-Some.wide
      (sym c.self.view_is) w.self-is c.in-Some.ensures.within c.in-Some.ensures.same c.index_mut.ensures.value c.index.ensures (c.in_ok-wide-in-Some.ensures.value x val a)
  | in-Anywhere-2 w ↦ λ x val q a.
      lead_widened val q c.args.self.now c.self.inside.members.items c.match-lead-2.self c.in-Some.i c.index_mut.result.now c.index.result.now c.args.lead c.args.edge c.in_ok-wide-in-Some.wide
      (sym c.self.view_is) w.self-is c.in-Some.ensures.within c.in-Some.ensures.same c.index_mut.ensures.value c.index.ensures (c.in_ok-wide-in-Some.ensures.value x val a)
]

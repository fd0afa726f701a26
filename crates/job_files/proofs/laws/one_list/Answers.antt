use Rattle.std.proofs.Common.{◌≡◌, None, refl, subst, sym}
use Rattle.job_files.specs.Files.{SpellsFlows, SpellsLemmas}
use Rattle.job_files.proofs.Texts.{one_text}
use Rattle.job_files.proofs.Flows.{one_flows}
use Rattle.job_files.proofs.laws.one_list.Goals as goal

pub returns-clause-lemmas : goal.returns-clause-lemmas
returns-clause-lemmas c = λ bs ts us r q ls ms s z p w.
    one_text refl p (subst (λ l. SpellsLemmas q l ms) (sym (c.one_reading.ensures.one bs ts us None None s z).0) w)

pub returns-clause-flows : goal.returns-clause-flows
returns-clause-flows c = λ bs ts us r q fs gs s z p w.
    one_flows p (subst (λ l. SpellsFlows q l gs) (sym (c.one_reading.ensures.one bs ts us None None s z).0) w)

use Rattle.clause_derivation.specs.Numbering.{clauses_of}
use Rattle.clause_derivation.proofs.DerivationLemmas.{agree}
use Rattle.clause_derivation.proofs.checking.derives.Goals as goal

pub returns-clause-exact : goal.returns-clause-exact
returns-clause-exact c =
    agree (clauses_of c.args.numbered.now) c.args.chain.now c.items.result.now c.items-2.result.now c.take_steps-ended.new.marked c.unmark_all.new.marked c.unmark_touched-clean.new.marked c.take_steps-ended.result c.all_marked-covered.result c.unmark_all.result c.unmark_touched-clean.result
    c.take_steps-ended.ensures.ended c.take_steps-ended.ensures.within c.items.ensures c.all_marked-covered.ensures c.items-2.ensures c.unmark_all.ensures c.unmark_touched-clean.ensures

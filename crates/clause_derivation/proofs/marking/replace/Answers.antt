use Rattle.clause_derivation.proofs.StepLemmas.{replaced}
use Rattle.clause_derivation.proofs.marking.replace.Goals as goal

pub returns : goal.returns
returns c = replaced c.args.marked.now c.unmark.new.marked c.mark_others.new.marked c.args.with.now c.args.l c.args.opposite c.unmark.ensures c.mark_others.ensures

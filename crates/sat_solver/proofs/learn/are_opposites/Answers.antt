use Rattle.std.proofs.Common.{◌∙◌, sym, ap, subst}
use Rattle.std.proofs.lemmas.List.{take_all}
use Rattle.clause_core.specs.Members.{has}
use Rattle.sat_solver.specs.Answers.{AreOpposites}
use Rattle.sat_solver.proofs.SolverLemmas.{opposites_more}
use Rattle.sat_solver.proofs.learn.are_opposites.Goals as goal

pub loop-l-preserved : goal.loop-l-preserved
loop-l-preserved c =
    opposites_more c.args.assumptions.now c.args.lits.now c.loop-l.l-index _ c.loop-l-test.true c.loop-l.invariant
    (ap (has c.args.assumptions.now) (sym c.negated.ensures.value) ∙ sym (c.in_ok-start.ensures.marks c.negated.result) ∙ sym c.is_marked.ensures ∙ c.if-not-is_marked.false)

pub returns-clause-opposites : goal.returns-clause-opposites
returns-clause-opposites c t = subst (AreOpposites c.args.assumptions.now) (take_all c.loop-l.l-index c.args.lits.now c.loop-l-test.false) c.loop-l.invariant

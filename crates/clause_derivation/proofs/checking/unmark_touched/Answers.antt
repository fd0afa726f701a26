use Rattle.clause_derivation.specs.Numbering.{clauses_of}
use Rattle.clause_derivation.proofs.ChainLemmas.{unmarks_step}
use Rattle.clause_derivation.proofs.checking.unmark_touched.Goals as goal

pub loop-step-preserved : goal.loop-step-preserved
loop-step-preserved c =
    unmarks_step (clauses_of c.args.numbered.now) c.args.chain.now c.items-step-items.result.now c.loop-step.step-index _ c.args.marked.now c.loop-step.marked c.unmark_named-clean-in-loop-step.new.marked c.loop-step.clean c.unmark_named-clean-in-loop-step.result
    c.items-step-items.ensures c.loop-step-test.true c.loop-step.invariant c.unmark_named-clean-in-loop-step.ensures

use Rattle.clause_derivation.proofs.RenumberLemmas.{steps_more}
use Rattle.clause_derivation.proofs.chain.move_steps.Goals as goal

pub loop-step-preserved : goal.loop-step-preserved
loop-step-preserved c = steps_more c.args.at c.args.steps.now c.loop-step.steps c.loop-step.step-index _ c.moved-step.result c.loop-step-test.true c.loop-step.invariant c.moved-step.ensures

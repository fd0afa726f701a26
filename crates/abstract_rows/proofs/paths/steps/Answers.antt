use Rattle.abstract_replay.specs.Paths.{StepFits}
use Rattle.abstract_rows.proofs.FlagPaths.{all_more}
use Rattle.abstract_rows.proofs.paths.steps.Goals as goal

pub loop-next-preserved : goal.loop-next-preserved
loop-next-preserved c =
    all_more (StepFits c.args.m.now) _ _ _ c.loop-next.invariant c.in_ok-firing.ensures c.in_ok-push.ensures.ok

use Rattle.bit_starts.proofs.LeaveLemmas.{settles_more}
use Rattle.bit_starts.proofs.leave.has_settled.Goals as goal

pub loop-value-preserved : goal.loop-value-preserved
loop-value-preserved c = settles_more _ _ _ _ _ _ _ _ _ _ _ c.loop-value-test.true c.loop-value.invariant c.with_settled.ensures.keeps c.in_ok-any.ensures.edge c.in_ok-any.ensures.value

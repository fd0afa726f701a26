use Rattle.bit_encode.proofs.Gaining.{any_one_more}
use Rattle.bit_encode.proofs.agree.agree.Goals as goal

pub loop-one-preserved : goal.loop-one-preserved
loop-one-preserved c = any_one_more _ _ _ _ _ _ _ _ _ c.loop-one-test.true c.loop-one.invariant c.with_agreement.ensures.keeps c.in_ok-any.ensures.edge c.in_ok-any.ensures.value

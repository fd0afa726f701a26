use Rattle.bit_encode.proofs.Gaining.{gains_more}
use Rattle.bit_encode.proofs.combine.negated.Goals as goal

pub loop-one-preserved : goal.loop-one-preserved
loop-one-preserved c = gains_more _ _ _ _ _ _ _ _ _ _ c.loop-one-test.true c.loop-one.invariant c.negate.ensures.keeps c.in_ok-negate.ensures.edges c.in_ok-negate.ensures.value

use Rattle.bit_encode.proofs.Gaining.{gains_more}
use Rattle.bit_encode.proofs.combine.paired.Goals as goal

pub loop-left-preserved : goal.loop-left-preserved
loop-left-preserved c = gains_more _ _ _ _ _ _ _ _ _ _ c.loop-left-test.true c.loop-left.invariant c.pair_with.ensures.keeps c.in_ok-pair_with.ensures.edges c.in_ok-pair_with.ensures.value

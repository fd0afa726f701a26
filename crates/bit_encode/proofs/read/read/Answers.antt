use Rattle.bit_encode.proofs.ReadLemmas.{gains_item}
use Rattle.bit_encode.proofs.read.read.Goals as goal

pub loop-one-preserved : goal.loop-one-preserved
loop-one-preserved c = gains_item _ _ _ _ _ _ _ _ _ _ _ c.loop-one-test.true c.one-item.is c.loop-one.invariant c.add_read.ensures.keeps c.in_ok-add_read.ensures.edges c.in_ok-add_read.ensures.value

use Rattle.std.proofs.Common.{arith}
use Rattle.bit_encode.proofs.ValueLemmas.{members_more}
use Rattle.bit_encode.proofs.values.add_members.Goals as goal

pub loop-index-preserved : goal.loop-index-preserved
loop-index-preserved c = members_more c.args.kind _ c.loop-index.index c.args.count _ _ _ c.loop-index-test.true (omega arith) c.in_ok-push.ensures.items c.loop-index.invariant

use Rattle.bit_encode.proofs.ValueLemmas.{nodes_more}
use Rattle.bit_encode.proofs.values.add_nodes.Goals as goal

pub loop-node-preserved : goal.loop-node-preserved
loop-node-preserved c = nodes_more c.args.nodes.now c.loop-node.node-index _ _ _ _ c.loop-node-test.true c.in_ok-push.ensures.items c.loop-node.invariant

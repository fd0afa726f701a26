use Rattle.std.proofs.Common.{length}
use Rattle.term_core.proofs.PlaceLemmas.{lead_fits, node_left, place_ends}
use Rattle.term_core.proofs.state.NodeState.choice_place.Goals as goal

pub lead_on-place-requires-clause-fits : goal.lead_on-place-requires-clause-fits
lead_on-place-requires-clause-fits c =
    let node = node_left c.args.self.now.nodes c.loop-node.node-index c.args.at.now c.loop-node.invariant.0 c.loop-node-test.true in
    lead_fits c.args.self.now.nodes c.loop-node.place _ c.loop-node.node-index (length c.args.at.now) c.loop-node.invariant.2 node c.loop-node-test.true c.requires.fits

pub returns : goal.returns
returns c = place_ends c.args.self.now.nodes c.loop-node.place c.loop-node.node-index c.args.at.now c.loop-node-test.false c.loop-node.invariant.1

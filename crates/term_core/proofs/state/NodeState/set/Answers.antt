use Rattle.std.proofs.Common.{arith}
use Rattle.term_core.proofs.PlaceLemmas.{stored_place}
use Rattle.term_core.proofs.state.NodeState.set.Goals as goal

pub overflow_add-place : goal.overflow_add-place
overflow_add-place c =
    let within = stored_place c.args.self.now c.self.inside.nodes c.self.inside.families c.self.inside.values c.args.family c.first.result c.choice_place.result c.args.at.now c.self.view_is c.self.invariant.count c.requires.cell c.first.ensures c.choice_place.ensures in
    omega (arith, within, c.self.invariant.small)

pub set-requires : goal.set-requires
set-requires c = stored_place c.args.self.now c.self.inside.nodes c.self.inside.families c.self.inside.values c.args.family c.first.result c.choice_place.result c.args.at.now c.self.view_is c.self.invariant.count c.requires.cell c.first.ensures c.choice_place.ensures

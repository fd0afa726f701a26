use Rattle.std.proofs.Common.{◌∙◌, sym, length}
use Rattle.term_core.proofs.PlaceLemmas.{cell_from, cell_place}
use Rattle.term_core.proofs.state.NodeState.has_cell.Goals as goal

pub returns-then-has_axes-clause-room : goal.returns-then-has_axes-clause-room
returns-then-has_axes-clause-room c holds =
    let axes = sym c.has_axes.ensures.value ∙ c.if-has_axes.true in
    let cell = sym (cell_from c.args.self.now.nodes c.args.self.now.families c.args.family c.args.at.now axes) ∙ sym c.are_nodes.ensures ∙ holds in
    cell_place c.args.self.now.nodes c.args.self.now.families c.args.family (length c.args.self.now.values) c.args.at.now cell (c.has_axes.ensures.room c.if-has_axes.true)

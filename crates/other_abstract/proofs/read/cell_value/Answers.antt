use Rattle.std.proofs.Common.{◌∙◌, sym}
use Rattle.term_core.specs.Cells.{first_place}
use Rattle.other_abstract.specs.Windows.{size}
use Rattle.other_abstract.specs.Lists.{window_in, choices_before}
use Rattle.other_abstract.proofs.ReadLemmas.{cell_there}
use Rattle.other_abstract.proofs.read.cell_value.Goals as goal

-- there is a cell
pub returns-then-is_cell : goal.returns-then-is_cell
returns-then-is_cell c =
    let W = window_in c.args.scene.now in
    c.value_there.ensures (first_place (size W) W.families c.args.family) (choices_before (size W) W.kept 0 c.args.nodes.now) c.first_place-first.ensures c.choice_place-choice.ensures
    ∙ cell_there W c.args.scene.now.cells.now c.args.family c.args.nodes.now (sym c.is_cell.ensures ∙ c.if-is_cell.true)

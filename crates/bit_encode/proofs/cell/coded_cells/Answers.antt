use Rattle.std.proofs.Common.{◌∙◌}
use Rattle.bit_encode.proofs.CellLemmas.{made_more}
use Rattle.bit_encode.proofs.cell.coded_cells.Goals as goal

pub loop-list-preserved : goal.loop-list-preserved
loop-list-preserved c = made_more _ _ _ _ _ _ _ _ _ _ c.loop-list-test.true (c.as_slice.ensures ∙ c.list-item.is) c.loop-list.invariant c.coded_cell.ensures.keeps c.in_ok-cell.ensures.edges c.in_ok-cell.ensures.value c.in_ok-cell.ensures.inputs c.in_ok-push.ensures.items

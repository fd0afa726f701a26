use Rattle.bit_encode.proofs.CellLemmas.{legal_more}
use Rattle.bit_encode.proofs.cell.legal.Goals as goal

pub loop-cell-preserved : goal.loop-cell-preserved
loop-cell-preserved c = legal_more _ _ _ _ _ _ _ _ _ c.loop-cell-test.true c.cell-item.is c.loop-cell.invariant c.with_cell.ensures.keeps c.in_ok-all.ensures.edge c.in_ok-all.ensures.value

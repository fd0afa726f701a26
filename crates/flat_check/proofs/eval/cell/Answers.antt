use Rattle.std.proofs.Common.{◌∙◌, arith}
use Rattle.flat_check.proofs.Cells.{cell_next}
use Rattle.flat_check.proofs.eval.cell.Goals as goal

pub loop-at-preserved : goal.loop-at-preserved
loop-at-preserved c =
    cell_next c.args.names.now c.args.cells.now c.args.name.now c.index-names-at.result c.loop-at.at (omega arith) c.if-at-cells.false c.index-names-at.is (cc)
    ∙ c.loop-at.invariant

use Rattle.std.proofs.Common.{take}
use Rattle.bit_encode.proofs.CellLemmas.{AreLegal}
use Rattle.bit_encode.proofs.cell.legal.Given as goal

abbrev pub invariant-loop-cell : goal.invariant-loop-cell
invariant-loop-cell l = AreLegal l.fn.circuit l.circuit l.all (take l.cell-index l.cells)

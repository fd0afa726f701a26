use Rattle.std.proofs.Common.{take}
use Rattle.bit_encode.proofs.CellLemmas.{AreMade}
use Rattle.bit_encode.proofs.cell.coded_cells.Given as goal

abbrev pub invariant-loop-list : goal.invariant-loop-list
invariant-loop-list l = AreMade l.fn.circuit l.circuit (take l.list-index l.lists) l.cells.items

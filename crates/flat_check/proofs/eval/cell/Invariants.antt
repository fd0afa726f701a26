use Rattle.std.proofs.Common.{◌≡◌, drop}
use Rattle.murphi_ast.specs.State.{cell_of}
use Rattle.flat_check.proofs.eval.cell.Given as goal

-- the names that are left find the cell that all of them find
abbrev pub invariant-loop-at : goal.invariant-loop-at
invariant-loop-at l = cell_of (drop l.at l.names) (drop l.at l.cells) l.name ≡ cell_of l.names l.cells l.name

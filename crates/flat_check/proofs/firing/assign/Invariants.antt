use Rattle.std.proofs.Common.{◌≡◌, ◌++◌, take, drop}
use Rattle.murphi_ast.specs.State.{with_cell}
use Rattle.flat_check.proofs.firing.assign.Given as goal

-- nothing is written yet, and the names that are left write what all of them do
abbrev pub invariant-loop-at : goal.invariant-loop-at
invariant-loop-at l =
    (l.cells ≡ l.fn.cells)
    × (take l.at l.cells ++ with_cell (drop l.at l.names) (drop l.at l.cells) l.name l.new ≡ with_cell l.names l.cells l.name l.new)

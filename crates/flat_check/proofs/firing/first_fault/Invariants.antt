use Rattle.std.proofs.Common.{◌≡◌, drop}
use Rattle.std.specs.List.{position_from}
use Rattle.murphi_ast.specs.Step.{faults}
use Rattle.flat_check.proofs.firing.first_fault.Given as goal

-- the first among the items that are left is the first of all
abbrev pub invariant-loop-at : goal.invariant-loop-at
invariant-loop-at l =
    position_from (faults l.names l.cells) l.at (drop l.at l.items) ≡ position_from (faults l.names l.cells) 0 l.items

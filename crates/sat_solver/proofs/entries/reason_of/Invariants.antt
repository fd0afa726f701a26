use Rattle.std.proofs.Common.{◌≡◌, drop}
use Rattle.sat_solver.specs.Assigned.{reason_in}
use Rattle.sat_solver.proofs.entries.reason_of.Given as goal

abbrev pub invariant-loop-entry : goal.invariant-loop-entry
invariant-loop-entry l = reason_in (drop l.entry-index l.entries) l.l ≡ reason_in l.entries l.l

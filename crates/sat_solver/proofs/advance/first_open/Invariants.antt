use Rattle.std.proofs.Common.{take}
use Rattle.sat_solver.specs.Searching.{AreTrue}
use Rattle.sat_solver.proofs.advance.first_open.Given as goal

abbrev pub invariant-loop-i : goal.invariant-loop-i
invariant-loop-i l = AreTrue l.trail.entries (take l.i l.assumptions)

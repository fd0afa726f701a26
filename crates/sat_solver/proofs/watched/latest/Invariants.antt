use Rattle.std.proofs.Common.{◌<◌, length}
use Rattle.sat_solver.proofs.watched.latest.Given as goal

abbrev pub invariant-loop-i : goal.invariant-loop-i
invariant-loop-i l = l.best < length l.lits

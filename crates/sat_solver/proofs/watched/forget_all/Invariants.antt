use Rattle.std.proofs.Common.{◌≡◌}
use Rattle.sat_solver.proofs.watched.forget_all.Given as goal

abbrev pub invariant-loop-id : goal.invariant-loop-id
invariant-loop-id l = l.arena.variables ≡ l.fn.arena.variables

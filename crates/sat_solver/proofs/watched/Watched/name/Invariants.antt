use Rattle.std.proofs.Common.{◌≡◌}
use Rattle.sat_solver.proofs.watched.Watched.name.Given as goal

abbrev pub invariant-loop : goal.invariant-loop
invariant-loop l = l.self.arena ≡ l.fn.self.arena

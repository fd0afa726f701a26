use Rattle.std.proofs.Common.{◌≡◌, length}
use Rattle.sat_solver.specs.Assigned.{Grows}
use Rattle.sat_solver.proofs.propagate.look_at_all.Given as goal

abbrev pub invariant-loop : goal.invariant-loop
invariant-loop l = record {
  arena : l.watched.arena.variables ≡ l.fn.watched.arena.variables;
  variables : l.trail.variables ≡ l.fn.trail.variables;
  starts : l.trail.starts ≡ l.fn.trail.starts;
  grows : Grows (length l.known.given.now) (length l.known.chains.now) l.fn.trail.entries l.trail.entries;
}

use Rattle.std.proofs.Common.{◌≡◌, ◌≤◌, ◌-◌, ◌*◌, length, take}
use Rattle.std.specs.Prelude.{All}
use Rattle.sat_solver.specs.Assigned.{IsReasoned}
use Rattle.sat_solver.specs.Searching.{AreTrue, IsDecided}
use Rattle.sat_solver.proofs.advance.advance.Given as goal

abbrev pub invariant-loop-origin : goal.invariant-loop-origin
invariant-loop-origin l = record {
  variables : l.trail.variables ≡ l.fn.trail.variables;
  arena : l.watched.arena.variables ≡ l.fn.watched.arena.variables;
  reasons : All (IsReasoned (length l.known.given.now) (length l.known.chains.now)) l.trail.entries;
  decided : IsDecided l.assumptions l.trail.entries;
  before : AreTrue l.trail.entries (take l.assumed l.assumptions);
  within : l.assumed ≤ length l.assumptions;
}

abbrev pub decreases-loop-origin : goal.decreases-loop-origin
decreases-loop-origin l = 2 * l.trail.variables - length l.trail.entries

use Rattle.std.proofs.Common.{◌≡◌, length}
use Rattle.sat_solver.specs.Assigned.{Grows}
use Rattle.sat_solver.proofs.search.settle_each.Given as goal

abbrev pub invariant-loop-origin : goal.invariant-loop-origin
invariant-loop-origin l = record {
  variables : l.trail.variables ≡ l.fn.trail.variables;
  grows : Grows (length l.known.given.now) (length l.known.chains.now) l.fn.trail.entries l.trail.entries;
}

use Rattle.std.proofs.Common.{◌≤◌, ◌<◌, length}
use Rattle.std.specs.Prelude.{IfSome}
use Rattle.sat_solver.proofs.watched.later.Given as goal

abbrev pub invariant-loop-i : goal.invariant-loop-i
invariant-loop-i l = record {
  above : IfSome l.best (λ i. 2 ≤ i);
  within : IfSome l.best (λ i. i < length l.lits);
}

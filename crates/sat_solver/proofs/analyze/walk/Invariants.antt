use Rattle.std.proofs.Common.{ℕ, ◌≡◌, length}
use Rattle.sat_solver.specs.Naming.{numbered}
use Rattle.sat_solver.specs.Resolving.{Reaches}
use Rattle.sat_solver.proofs.analyze.walk.Given as goal

abbrev pub invariant-loop-i : goal.invariant-loop-i
invariant-loop-i l = record {
  same_length : length l.marks ≡ length l.fn.marks;
  reaches : (first : ℕ)
      → Reaches (numbered l.known.given.now l.known.chains.now) first l.fn.steps.items l.fn.marks
      → Reaches (numbered l.known.given.now l.known.chains.now) first l.steps.items l.marks;
}

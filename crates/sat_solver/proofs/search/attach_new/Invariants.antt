use Rattle.std.proofs.Common.{◌≡◌}
use Rattle.sat_solver.specs.Searching.{Fits}
use Rattle.sat_solver.proofs.search.attach_new.Given as goal

abbrev pub invariant-loop-at : goal.invariant-loop-at
invariant-loop-at l = record {
  fits : Fits l.fn.engine.trail.variables l.engine;
  trail : l.engine.trail ≡ l.fn.engine.trail;
}

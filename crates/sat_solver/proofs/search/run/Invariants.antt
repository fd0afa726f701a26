use Rattle.sat_solver.specs.Searching.{IsSolver, IsDecided, IsPrefix}
use Rattle.sat_solver.proofs.search.run.Given as goal

abbrev pub invariant-loop : goal.invariant-loop
invariant-loop l = record {
  solver : IsSolver l.cnf l.log l.engine;
  decided : IsDecided l.assumptions l.engine.trail.entries;
  prefix : IsPrefix l.fn.log l.log;
}

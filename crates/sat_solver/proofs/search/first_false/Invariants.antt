use Rattle.std.proofs.Common.{take}
use Rattle.std.specs.Prelude.{IsTrue}
use Rattle.clause_core.specs.Truth.{all_true}
use Rattle.sat_solver.proofs.search.first_false.Given as goal

abbrev pub invariant-loop-i : goal.invariant-loop-i
invariant-loop-i l = IsTrue (all_true l.a (take l.i l.clauses))

use Rattle.std.proofs.Common.{◌≡◌, ◌++◌, take}
use Rattle.ic3_frames.proofs.refutation.add_all.Given as goal

abbrev pub invariant-loop-c : goal.invariant-loop-c
invariant-loop-c l =
    (l.solver.cnf.variables ≡ l.fn.solver.cnf.variables)
    × (l.solver.cnf.clauses ≡ l.fn.solver.cnf.clauses ++ take l.c-index l.clauses)

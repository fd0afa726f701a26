use Rattle.std.proofs.Common.{◌≡◌, ◌++◌, take}
use Rattle.clause_derivation.specs.Derivation.{singles}
use Rattle.ic3_frames.proofs.refutation.add_units.Given as goal

abbrev pub invariant-loop-l : goal.invariant-loop-l
invariant-loop-l l =
    (l.solver.cnf.variables ≡ l.fn.solver.cnf.variables)
    × (l.solver.cnf.clauses ≡ l.fn.solver.cnf.clauses ++ singles (take l.l-index l.units))

use Rattle.std.proofs.Common.{◌≡◌}
use Rattle.cnf_emit.proofs.clauses.formula_of.Given as goal

abbrev pub invariant-loop-clause : goal.invariant-loop-clause
invariant-loop-clause l = (l.cnf.variables ≡ l.variables) × (l.cnf.clauses ≡ l.yielded)

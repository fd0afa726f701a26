use Rattle.std.proofs.Common.{◌≡◌}
use Rattle.search_rows.proofs.building.formula.Given as goal

abbrev pub invariant-loop-codes : goal.invariant-loop-codes
invariant-loop-codes l = l.cnf.variables ≡ l.variables

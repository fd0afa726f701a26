use Rattle.std.proofs.Common.{◌≡◌}
use Rattle.search_rows.proofs.counter.tie_last.Given as goal

abbrev pub invariant-loop-code : goal.invariant-loop-code
invariant-loop-code l = l.cnf.variables ≡ l.fn.cnf.variables

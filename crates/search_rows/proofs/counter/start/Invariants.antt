use Rattle.std.proofs.Common.{◌≡◌}
use Rattle.search_rows.proofs.counter.start.Given as goal

abbrev pub invariant-loop-k : goal.invariant-loop-k
invariant-loop-k l = l.cnf.variables ≡ 17

use Rattle.std.proofs.Common.{◌≡◌}
use Rattle.search_rows.proofs.counter.step.Given as goal

abbrev pub invariant-loop-k : goal.invariant-loop-k
invariant-loop-k l = l.cnf.variables ≡ 26

abbrev pub invariant-loop-k-2 : goal.invariant-loop-k-2
invariant-loop-k-2 l = l.cnf.variables ≡ 26

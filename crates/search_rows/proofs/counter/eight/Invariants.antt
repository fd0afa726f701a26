use Rattle.std.proofs.Common.{◌≡◌, ◌+◌, ◌<◌, ℕ, length, get_or}
use Rattle.clause_core.specs.declared.literal.Lit.{Lit}
use Rattle.clause_core.specs.Literal.{variable_of}
use Rattle.search_rows.proofs.counter.eight.Given as goal

abbrev pub invariant-loop-k : goal.invariant-loop-k
invariant-loop-k l = record {
  size : length l.out.items ≡ l.k;
  each : (j : ℕ) (d : Lit) → j < l.k → variable_of (get_or l.out.items j d) ≡ l.from + j;
}

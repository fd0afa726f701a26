use Rattle.std.proofs.Common.{ℕ, ◌≡◌, ◌<◌, ◌*◌, false, length}
use Rattle.std.specs.Prelude.{slice_index_or}
use Rattle.sat_solver.proofs.entries.positives.Given as goal

abbrev pub invariant-loop-k : goal.invariant-loop-k
invariant-loop-k l = record {
  same_length : length l.out.items ≡ l.k;
  same : (j : ℕ) → j < l.k → slice_index_or l.out.items j false ≡ slice_index_or l.values (2 * j) false;
}

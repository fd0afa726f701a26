use Rattle.std.proofs.Common.{ℕ, ◌≡◌, ◌≤◌, vec_len, take, min}
use Rattle.sat_solver.specs.Assigned.{IsTrail}
use Rattle.sat_solver.proofs.entries.undo.Given as goal

abbrev pub invariant-loop-entries : goal.invariant-loop-entries
invariant-loop-entries l = record {
  trail : (n : ℕ) → IsTrail n l.fn.entries.items l.fn.values → IsTrail n l.entries.items l.values;
  front : l.entries.items ≡ take (vec_len l.entries) l.fn.entries.items;
  low : min l.keep (vec_len l.fn.entries) ≤ vec_len l.entries;
}

abbrev pub decreases-loop-entries : goal.decreases-loop-entries
decreases-loop-entries l = vec_len l.entries

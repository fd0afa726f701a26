use Rattle.std.proofs.Common.{ℕ, ◌<◌}
use Rattle.flat_check.specs.Search.{IsGoodStart}
use Rattle.flat_check.proofs.starts.first_bad_start.Given as goal

-- no item so far is a bad start
abbrev pub invariant-loop-at : goal.invariant-loop-at
invariant-loop-at l = (k : ℕ) → k < l.at → IsGoodStart l.names l.items k

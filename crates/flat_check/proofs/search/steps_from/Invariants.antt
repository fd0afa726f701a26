use Rattle.std.proofs.Common.{ℕ, ◌<◌}
use Rattle.flat_check.specs.Search.{IsFineStep}
use Rattle.flat_check.proofs.search.steps_from.Given as goal

-- no item so far makes a bad step
abbrev pub invariant-loop-rule : goal.invariant-loop-rule
invariant-loop-rule l = (k : ℕ) → k < l.rule → IsFineStep l.names l.items l.from k

use Rattle.std.proofs.Common.{◌≡◌, ◌++◌, replicate}
use Rattle.term_core.proofs.state.fill.Given as goal

abbrev pub invariant-loop-added : goal.invariant-loop-added
invariant-loop-added l = l.values ≡ l.fn.values ++ replicate l._added l.value

use Rattle.std.proofs.Common.{◌≡◌, ◌++◌, replicate}
use Rattle.term_core.specs.declared.value.Value.TheVariants.{Undefined}
use Rattle.murphi_run.proofs.store.fill.Given as goal

abbrev pub invariant-loop-added : goal.invariant-loop-added
invariant-loop-added l = l.values ≡ l.fn.values ++ replicate l._added Undefined

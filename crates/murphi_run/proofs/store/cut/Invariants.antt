use Rattle.std.proofs.Common.{◌≡◌, ◌-◌, length, take}
use Rattle.murphi_run.proofs.store.cut.Given as goal

abbrev pub invariant-loop-taken : goal.invariant-loop-taken
invariant-loop-taken l = l.values ≡ take (length l.fn.values - l._taken) l.fn.values

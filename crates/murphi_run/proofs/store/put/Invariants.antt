use Rattle.std.proofs.Common.{◌≡◌, take}
use Rattle.murphi_run.specs.Stretches.{with_stretch}
use Rattle.murphi_run.proofs.store.put.Given as goal

abbrev pub invariant-loop-k : goal.invariant-loop-k
invariant-loop-k l = l.values ≡ with_stretch l.number (take l.k l.new) l.fn.values

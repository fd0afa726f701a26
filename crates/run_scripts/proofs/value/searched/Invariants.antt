use Rattle.std.proofs.Common.{◌≡◌, ◌-◌}
use Rattle.run_scripts.specs.Values.{search}
use Rattle.run_scripts.proofs.value.searched.Given as goal

abbrev pub invariant-loop-k : goal.invariant-loop-k
invariant-loop-k l = search l.kind l.text l.k (l.bound - l.k) ≡ search l.kind l.text 0 l.bound

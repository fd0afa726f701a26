use Rattle.std.proofs.Common.{◌≡◌, drop}
use Rattle.scalarset_rules.specs.Rules.{sooner}
use Rattle.scalarset_rules.specs.Seen.{first_of_writes}
use Rattle.scalarset_rules.proofs.judge.writes.Given as goal

abbrev pub invariant-loop-w : goal.invariant-loop-w
invariant-loop-w l = sooner l.first (first_of_writes l.v l.all (drop l.w-index l.all)) ≡ first_of_writes l.v l.all l.all

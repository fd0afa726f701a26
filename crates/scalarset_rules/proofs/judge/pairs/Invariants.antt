use Rattle.std.proofs.Common.{◌≡◌, drop}
use Rattle.scalarset_rules.specs.Rules.{sooner}
use Rattle.scalarset_rules.specs.Seen.{seen_access, first_pair}
use Rattle.scalarset_rules.proofs.judge.pairs.Given as goal

abbrev pub invariant-loop-a : goal.invariant-loop-a
invariant-loop-a l = sooner l.first (first_pair l.v l.place (seen_access l.w) (drop l.a-index l.all)) ≡ first_pair l.v l.place (seen_access l.w) l.all

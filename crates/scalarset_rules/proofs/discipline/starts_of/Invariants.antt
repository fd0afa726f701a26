use Rattle.std.proofs.Common.{◌≡◌, drop}
use Rattle.scalarset_rules.specs.Rules.{sooner}
use Rattle.scalarset_rules.specs.Verdicts.{first_starts}
use Rattle.scalarset_rules.proofs.discipline.starts_of.Given as goal

abbrev pub invariant-loop-a : goal.invariant-loop-a
invariant-loop-a l = sooner l.first (first_starts l.all (drop l.a-index l.some)) ≡ first_starts l.all l.some

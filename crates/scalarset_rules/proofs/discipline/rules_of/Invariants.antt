use Rattle.std.proofs.Common.{◌≡◌, drop}
use Rattle.scalarset_rules.specs.Rules.{sooner}
use Rattle.scalarset_rules.specs.Verdicts.{first_rules}
use Rattle.scalarset_rules.proofs.discipline.rules_of.Given as goal

abbrev pub invariant-loop-r : goal.invariant-loop-r
invariant-loop-r l = sooner l.first (first_rules l.all (drop l.r-index l.some)) ≡ first_rules l.all l.some

use Rattle.std.proofs.Common.{◌≡◌, drop}
use Rattle.scalarset_rules.specs.Rules.{sooner}
use Rattle.scalarset_rules.specs.Verdicts.{first_rule_clears}
use Rattle.scalarset_rules.proofs.discipline.rule_clears.Given as goal

abbrev pub invariant-loop-r : goal.invariant-loop-r
invariant-loop-r l = sooner l.first (first_rule_clears (drop l.r-index l.all)) ≡ first_rule_clears l.all

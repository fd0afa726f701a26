use Rattle.std.proofs.Common.{◌≡◌, drop}
use Rattle.scalarset_rules.specs.Rules.{sooner}
use Rattle.scalarset_rules.specs.Verdicts.{first_start_clears}
use Rattle.scalarset_rules.proofs.discipline.start_clears.Given as goal

abbrev pub invariant-loop-a : goal.invariant-loop-a
invariant-loop-a l = sooner l.first (first_start_clears (drop l.a-index l.all)) ≡ first_start_clears l.all

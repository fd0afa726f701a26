use Rattle.std.proofs.Common.{◌≡◌, drop}
use Rattle.scalarset_rules.specs.Rules.{sooner}
use Rattle.scalarset_rules.specs.Verdicts.{first_routine_clears}
use Rattle.scalarset_rules.proofs.discipline.routine_clears.Given as goal

abbrev pub invariant-loop-r : goal.invariant-loop-r
invariant-loop-r l = sooner l.first (first_routine_clears (drop l.r-index l.all)) ≡ first_routine_clears l.all

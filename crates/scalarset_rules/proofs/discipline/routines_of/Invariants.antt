use Rattle.std.proofs.Common.{◌≡◌, drop}
use Rattle.scalarset_rules.specs.Rules.{sooner}
use Rattle.scalarset_rules.specs.Verdicts.{first_routines}
use Rattle.scalarset_rules.proofs.discipline.routines_of.Given as goal

abbrev pub invariant-loop-r : goal.invariant-loop-r
invariant-loop-r l = sooner l.first (first_routines l.all (drop l.r-index l.some)) ≡ first_routines l.all l.some

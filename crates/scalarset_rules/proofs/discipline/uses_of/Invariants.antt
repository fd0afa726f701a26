use Rattle.std.proofs.Common.{◌≡◌, drop}
use Rattle.scalarset_rules.specs.Rules.{sooner}
use Rattle.scalarset_rules.specs.Verdicts.{first_uses}
use Rattle.scalarset_rules.proofs.discipline.uses_of.Given as goal

abbrev pub invariant-loop-at : goal.invariant-loop-at
invariant-loop-at l = sooner l.first (first_uses (drop l.at-index l.uses)) ≡ first_uses l.uses

use Rattle.std.proofs.Common.{◌≡◌, ◌++◌, drop}
use Rattle.rule_families.proofs.family.copy_steps.Given as goal

abbrev pub invariant-loop-one : goal.invariant-loop-one
invariant-loop-one l = l.out ++ drop l.one-index l.all ≡ l.all

use Rattle.std.proofs.Common.{◌≡◌, drop}
use Rattle.scalarset_rules.specs.Rules.{is_prefix}
use Rattle.scalarset_rules.proofs.shape.is_front.Given as goal

abbrev pub invariant-loop-at : goal.invariant-loop-at
invariant-loop-at l = is_prefix (drop l.at l.front) (drop l.at l.all) ≡ is_prefix l.front l.all

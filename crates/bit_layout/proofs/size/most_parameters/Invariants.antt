use Rattle.std.proofs.Common.{◌≡◌, ◌≤◌, max, drop}
use Rattle.other_abstract.specs.Making.{most_parameters}
use Rattle.bit_layout.proofs.size.most_parameters.Given as goal

abbrev pub invariant-loop-rule : goal.invariant-loop-rule
invariant-loop-rule l = (max l.most (most_parameters (drop l.rule-index l.rules)) ≡ most_parameters l.rules) × (l.most ≤ 3)

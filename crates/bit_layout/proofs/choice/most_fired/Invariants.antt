use Rattle.std.proofs.Common.{◌≡◌, max, drop}
use Rattle.bit_layout.specs.Choices.{most_fired}
use Rattle.bit_layout.proofs.choice.most_fired.Given as goal

abbrev pub invariant-loop-choice : goal.invariant-loop-choice
invariant-loop-choice l = max l.most (most_fired (drop l.choice-index l.choices)) ≡ most_fired l.choices

use Rattle.std.proofs.Common.{◌≡◌, ◌++◌, take}
use Rattle.bit_layout.specs.Choices.{choices_with}
use Rattle.bit_layout.proofs.choice.add_choices.Given as goal

abbrev pub invariant-loop-pattern : goal.invariant-loop-pattern
invariant-loop-pattern l = l.out.items ≡ l.fn.out.items ++ choices_with l.number (take l.pattern-index l.patterns)

use Rattle.std.proofs.Common.{◌≡◌, ◌++◌, drop}
use Rattle.bit_layout.specs.Choices.{choices_from, step_choices}
use Rattle.bit_layout.proofs.choice.step_choices.Given as goal

abbrev pub invariant-loop-number : goal.invariant-loop-number
invariant-loop-number l = l.out.items ++ choices_from l.machine.kept l.number (drop l.number l.machine.machine.rules) ≡ step_choices l.machine

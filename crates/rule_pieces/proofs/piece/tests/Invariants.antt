use Rattle.std.proofs.Common.{◌≡◌, ◌++◌, drop}
use Rattle.rule_pieces.specs.Around.{tests_in}
use Rattle.rule_pieces.proofs.piece.tests.Given as goal

abbrev pub invariant-loop-at : goal.invariant-loop-at
invariant-loop-at l = l.out ++ tests_in (drop l.at l.around) ≡ tests_in l.around

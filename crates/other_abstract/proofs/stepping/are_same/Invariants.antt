use Rattle.std.proofs.Common.{◌≡◌, length, drop}
use Rattle.other_abstract.specs.Stepping.{same_values}
use Rattle.other_abstract.proofs.stepping.are_same.Given as goal

abbrev pub invariant-loop-at : goal.invariant-loop-at
invariant-loop-at l = (same_values (drop l.at l.left) (drop l.at l.right) ≡ same_values l.left l.right) × (length l.left ≡ length l.right)

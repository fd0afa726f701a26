use Rattle.std.proofs.Common.{◌≡◌, length, take}
use Rattle.type_routines.proofs.routines.shorten.Given as goal

abbrev pub invariant-loop-left : goal.invariant-loop-left
invariant-loop-left l = (take l.count l.names ≡ take l.count l.fn.names) × (length l.names ≡ l.left)

abbrev pub decreases-loop-left : goal.decreases-loop-left
decreases-loop-left l = l.left

use Rattle.std.proofs.Common.{◌≡◌, take}
use Rattle.scalarset_rules.proofs.place.copy_parts.Given as goal

abbrev pub invariant-loop-part : goal.invariant-loop-part
invariant-loop-part l = l.out ≡ take l.part-index l.all

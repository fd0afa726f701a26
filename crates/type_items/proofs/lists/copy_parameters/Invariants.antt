use Rattle.std.proofs.Common.{◌≡◌, take}
use Rattle.type_items.proofs.lists.copy_parameters.Given as goal

abbrev pub invariant-loop-one : goal.invariant-loop-one
invariant-loop-one l = l.out ≡ take l.one-index l.all

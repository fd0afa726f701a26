use Rattle.std.proofs.Common.{◌≡◌, drop}
use Rattle.type_routines.specs.Formals.{groups_with}
use Rattle.type_routines.proofs.formals.add_groups.Given as goal

abbrev pub invariant-loop-one : goal.invariant-loop-one
invariant-loop-one l = groups_with (drop l.one-index l.all) l.done ≡ groups_with l.all l.fn.done

use Rattle.std.proofs.Common.{◌≡◌, drop}
use Rattle.type_names.specs.Wholes.{list_formals}
use Rattle.type_names.proofs.wholes.walk_formals.Given as goal

abbrev pub invariant-loop-one : goal.invariant-loop-one
invariant-loop-one l = list_formals l.name l.inside (drop l.one-index l.all) l.g ≡ list_formals l.name l.hidden l.all l.fn.so_far

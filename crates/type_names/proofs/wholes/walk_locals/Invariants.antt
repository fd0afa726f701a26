use Rattle.std.proofs.Common.{◌≡◌, drop}
use Rattle.type_names.specs.Wholes.{list_locals}
use Rattle.type_names.proofs.wholes.walk_locals.Given as goal

abbrev pub invariant-loop-one : goal.invariant-loop-one
invariant-loop-one l = list_locals l.name l.inside (drop l.one-index l.all) l.g ≡ list_locals l.name l.hidden l.all l.fn.so_far

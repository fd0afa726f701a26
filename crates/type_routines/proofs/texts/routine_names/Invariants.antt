use Rattle.std.proofs.Common.{◌≡◌, ◌++◌, drop}
use Rattle.std.specs.List.{flat_map}
use Rattle.murphi_types.specs.Texts.{routine_name}
use Rattle.type_routines.proofs.texts.routine_names.Given as goal

abbrev pub invariant-loop-one : goal.invariant-loop-one
invariant-loop-one l = l.out ++ flat_map routine_name (drop l.one-index l.all) ≡ flat_map routine_name l.all

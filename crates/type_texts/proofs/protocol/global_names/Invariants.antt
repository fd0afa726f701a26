use Rattle.std.proofs.Common.{◌≡◌, map, take}
use Rattle.murphi_types.specs.Texts.{declared_name}
use Rattle.type_texts.proofs.protocol.global_names.Given as goal

abbrev pub invariant-loop-one : goal.invariant-loop-one
invariant-loop-one l = l.out ≡ map declared_name (take l.one-index l.all)

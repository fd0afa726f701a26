use Rattle.std.proofs.Common.{◌≡◌, map, take}
use Rattle.other_abstract.specs.Lists.{window_in}
use Rattle.bit_encode.specs.Codes.{cell_values}
use Rattle.bit_encode.proofs.window.family_values.Given as goal

abbrev pub invariant-loop-family : goal.invariant-loop-family
invariant-loop-family l = l.out.items ≡ map (cell_values (window_in l.scene)) (take l.family-index l.scene.families.now)

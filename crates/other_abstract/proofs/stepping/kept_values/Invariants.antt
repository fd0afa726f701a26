use Rattle.std.proofs.Common.{◌≡◌, ◌++◌, map, drop}
use Rattle.other_abstract.specs.Lists.{window_in}
use Rattle.other_abstract.specs.Stepping.{kept_value}
use Rattle.other_abstract.proofs.stepping.kept_values.Given as goal

abbrev pub invariant-loop-place : goal.invariant-loop-place
invariant-loop-place l =
    l.out.items ++ map (kept_value (window_in l.scene) l.scene.cells.now) (drop l.place-index l.places) ≡ map (kept_value (window_in l.scene) l.scene.cells.now) l.places

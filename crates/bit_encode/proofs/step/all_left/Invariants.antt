use Rattle.std.proofs.Common.{take}
use Rattle.other_abstract.specs.declared.place.Place.{Place}
use Rattle.other_abstract.specs.Lists.{window_in}
use Rattle.other_abstract.specs.Windows.{same_value}
use Rattle.other_abstract.specs.May.{value_at}
use Rattle.other_abstract.specs.Stepping.{kept_value}
use Rattle.bit_encode.proofs.StepLemmas.{AllTellBoth}
use Rattle.bit_encode.proofs.step.all_left.Given as goal

abbrev pub invariant-loop-place : goal.invariant-loop-place
invariant-loop-place l = AllTellBoth l.fn.circuit l.circuit l.scene.cells.now l.kept.cells.now l.all (λ w t (place : Place). same_value (kept_value (window_in l.scene.window) w place) (value_at (window_in l.kept.window) t place.family place.at)) (take l.place-index l.places)

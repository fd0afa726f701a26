use Rattle.std.proofs.Common.{take}
use Rattle.other_abstract.specs.Lists.{window_in}
use Rattle.other_abstract.specs.Stepping.{becomes}
use Rattle.bit_encode.proofs.StepLemmas.{AllTellBoth}
use Rattle.bit_encode.proofs.step.all_become.Given as goal

abbrev pub invariant-loop-place : goal.invariant-loop-place
invariant-loop-place l = AllTellBoth l.fn.circuit l.circuit l.scene.cells.now l.kept.cells.now l.all (λ w t place. becomes (window_in l.kept.window) (window_in l.scene.window) w t l.updates l.pattern place) (take l.place-index l.places)

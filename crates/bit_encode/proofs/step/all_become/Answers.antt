use Rattle.other_abstract.specs.Lists.{window_in}
use Rattle.other_abstract.specs.Stepping.{becomes}
use Rattle.bit_encode.proofs.StepLemmas.{both_more}
use Rattle.bit_encode.proofs.step.all_become.Goals as goal

pub loop-place-preserved : goal.loop-place-preserved
loop-place-preserved c =
    both_more _ _ _ _ c.args.scene.now.cells.now c.args.kept.now.cells.now _ _ _ (λ w t place. becomes (window_in c.args.kept.now.window) (window_in c.args.scene.now.window) w t c.args.updates.now c.args.pattern.now place) c.args.places.now c.loop-place.place-index _ c.place-item.result
    c.loop-place-test.true c.place-item.is c.loop-place.invariant c.becomes.ensures.keeps c.in_ok-one.ensures.tells c.both.ensures.keeps c.in_ok-all.ensures.edge c.in_ok-all.ensures.value

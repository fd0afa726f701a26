use Rattle.std.proofs.Common.{get_or, []}
use Rattle.other_abstract.specs.declared.place.Place.{Place}
use Rattle.bit_encode.proofs.WindowLemmas.{placed_more}
use Rattle.bit_encode.proofs.window.coded_places.Goals as goal

pub loop-place-preserved : goal.loop-place-preserved
loop-place-preserved c = placed_more _ _ _ (λ (place : Place). get_or c.args.families.now place.family []) c.args.places.now c.loop-place.place-index _ c.place-item.result _ _ _ c.loop-place-test.true c.place-item.is c.loop-place.invariant c.coded_at.ensures.keeps c.in_ok-cell.ensures.edges c.in_ok-cell.ensures.value c.in_ok-cell.ensures.inputs c.in_ok-push.ensures.items

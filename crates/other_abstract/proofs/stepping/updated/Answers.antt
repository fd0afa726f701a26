use Rattle.std.proofs.Common.{◌++◌, sym, ap, ◌∙◌, Some, arith}
use Rattle.std.proofs.lemmas.Option.{slice_get-get_or}
use Rattle.other_abstract.specs.Lists.{window_in}
use Rattle.other_abstract.proofs.StepLemmas.{new_found, new_none, update_here, update_past}
use Rattle.other_abstract.proofs.stepping.updated.Goals as goal

-- the update is found
pub returns-then-update-place : goal.returns-then-update-place
returns-then-update-place c =
    new_found (window_in c.args.scene.now) c.args.scene.now.cells.now (c.args.pattern.now ++ c.args.place.now.at) c.in_ok-env.env.items c.args.updates.now c.args.place.now.family c.update-item.result.body c.in_ok-values.values
    (update_here c.args.updates.now c.loop-update.update-index c.update-item.result c.args.place.now.family
    (slice_get-get_or c.args.updates.now c.loop-update.update-index c.update-item.result c.loop-update-test.true ∙ ap Some (sym c.update-item.is)) c.if-update-place.true c.loop-update.invariant)
    (c.in_ok-env.ensures ∙ ap (λ ns. c.args.pattern.now ++ ns) c.as_slice.ensures) c.in_ok-values.ensures.values

-- there is none
pub returns : goal.returns
returns c =
    new_none (window_in c.args.scene.now) c.args.scene.now.cells.now (c.args.pattern.now ++ c.args.place.now.at) c.args.updates.now c.args.place.now.family
    (update_past c.args.updates.now c.loop-update.update-index c.args.place.now.family (omega arith) c.loop-update.invariant)

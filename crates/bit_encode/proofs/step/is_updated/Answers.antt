use Rattle.std.proofs.Common.{◌++◌, ◌∙◌, ap}
use Rattle.other_abstract.specs.Lists.{window_in}
use Rattle.bit_encode.proofs.StepLemmas.{updated_tells}
use Rattle.bit_encode.proofs.step.is_updated.Goals as goal

pub returns-clause-tells : goal.returns-clause-tells
returns-clause-tells c =
    updated_tells _ _ _ c.args.scene.now.cells.now c.args.kept.now.cells.now (window_in c.args.scene.now.window) (window_in c.args.kept.now.window) (c.args.pattern.now ++ c.args.place.now.at) _ c.args.body.now c.args.place.now.family
    c.args.place.now.at c.as_slice-2.result.now c.in_ok-from.from c.members.result.now c.in_ok-to.to c.members-2.result.now c.in_ok-e.e
    c.in_ok-from.ensures.may (c.in_ok-env.ensures ∙ ap (λ ns. c.args.pattern.now ++ ns) c.as_slice.ensures) c.members.ensures c.cell_set.ensures.keeps c.as_slice-2.ensures c.in_ok-to.ensures.cell c.members-2.ensures c.agree.ensures.keeps c.in_ok-e.ensures.value

use Rattle.other_abstract.specs.Lists.{window_in}
use Rattle.bit_encode.proofs.StepLemmas.{left_tells}
use Rattle.bit_encode.proofs.step.is_left.Goals as goal

pub returns-clause-tells : goal.returns-clause-tells
returns-clause-tells c =
    left_tells _ _ _ c.args.scene.now.cells.now c.args.kept.now.cells.now (window_in c.args.scene.now.window) (window_in c.args.kept.now.window) c.args.place.now c.as_slice.result.now c.as_slice-2.result.now
    c.in_ok-from.from c.members.result.now c.in_ok-to.to c.members-2.result.now c.in_ok-e.e
    c.as_slice.ensures c.in_ok-from.ensures.cell c.members.ensures c.cell_set-2.ensures.keeps c.as_slice-2.ensures c.in_ok-to.ensures.cell c.members-2.ensures c.agree.ensures.keeps c.in_ok-e.ensures.value

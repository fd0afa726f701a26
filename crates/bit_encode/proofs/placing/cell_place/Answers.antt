use Rattle.std.proofs.Common.{◌∙◌, sym}
use Rattle.other_abstract.specs.Lists.{window_in}
use Rattle.bit_encode.proofs.PlacingLemmas.{place_there, placed_is}
use Rattle.bit_encode.proofs.placing.cell_place.Goals as goal

pub returns-then-is_cell-clause-place : goal.returns-then-is_cell-clause-place
returns-then-is_cell-clause-place c =
    place_there (window_in c.args.scene.now) c.args.family c.args.nodes.now c.sum_of.result (sym c.is_cell.ensures ∙ c.if-is_cell.true)
    (c.sum_of.ensures _ _ c.first_place-first.ensures c.choice_place-choice.ensures)

pub returns-then-is_cell-clause-value : goal.returns-then-is_cell-clause-value
returns-then-is_cell-clause-value c = λ w short.
    placed_is (window_in c.args.scene.now) w c.args.family c.args.nodes.now c.sum_of.result short
    (place_there (window_in c.args.scene.now) c.args.family c.args.nodes.now c.sum_of.result (sym c.is_cell.ensures ∙ c.if-is_cell.true)
    (c.sum_of.ensures _ _ c.first_place-first.ensures c.choice_place-choice.ensures))

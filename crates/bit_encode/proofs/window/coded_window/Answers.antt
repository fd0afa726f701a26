use Rattle.std.proofs.Common.{◌+◌, ◌∙◌, subst, ap}
use Rattle.other_abstract.specs.Lists.{window_in}
use Rattle.bit_encode.specs.Codes.{bit_count}
use Rattle.bit_encode.specs.Coding.{AreCoded}
use Rattle.bit_encode.proofs.WindowLemmas.{lists_by_place}
use Rattle.bit_encode.proofs.window.coded_window.Goals as goal

pub returns-clause-coded : goal.returns-clause-coded
returns-clause-coded c = λ x val a.
    subst (λ ls. AreCoded val x c.args.circuit.now.inputs ls c.in_ok-cells.cells.items)
    (lists_by_place (window_in c.args.scene.now) c.as_slice.result.now c.as_slice-2.result.now (c.as_slice.ensures.value ∙ c.in_ok-families.ensures) (c.as_slice-2.ensures.value ∙ c.in_ok-places.ensures))
    (c.in_ok-cells.ensures.coded x val a)

pub returns-clause-inputs : goal.returns-clause-inputs
returns-clause-inputs c =
    c.in_ok-cells.ensures.inputs
    ∙ ap (λ ls. c.args.circuit.now.inputs + bit_count ls)
    (lists_by_place (window_in c.args.scene.now) c.as_slice.result.now c.as_slice-2.result.now (c.as_slice.ensures.value ∙ c.in_ok-families.ensures) (c.as_slice-2.ensures.value ∙ c.in_ok-places.ensures))

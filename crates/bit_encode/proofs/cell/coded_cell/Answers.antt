use Rattle.std.proofs.Common.{◌+◌, ◌∙◌, ap}
use Rattle.bit_encode.specs.Codes.{width}
use Rattle.bit_encode.proofs.Growing.{agrees_before}
use Rattle.bit_encode.proofs.CellLemmas.{cell_value}
use Rattle.bit_encode.proofs.cell.coded_cell.Goals as goal

pub returns-clause-value : goal.returns-clause-value
returns-clause-value c = λ x val p a. cell_value val x p c.args.values.now _ _ _ _ _ (c.in_ok-out.ensures.value x val p a) c.as_slice.ensures.value (c.in_ok-bits.ensures.value x val (agrees_before _ _ x val c.coded.ensures.keeps a)) (c.width.ensures.width ∙ ap width c.in_ok-count.ensures)

pub returns-clause-inputs : goal.returns-clause-inputs
returns-clause-inputs c = c.coded.ensures.inputs ∙ c.in_ok-bits.ensures.inputs ∙ ap (λ n. c.args.circuit.now.inputs + n) (c.width.ensures.width ∙ ap width c.in_ok-count.ensures)

use Rattle.std.proofs.Common.{◌∙◌}
use Rattle.other_abstract.specs.Lists.{window_in}
use Rattle.bit_encode.proofs.StepLemmas.{cell_told}
use Rattle.bit_encode.proofs.step.cell_set.Goals as goal

pub returns-clause-cell : goal.returns-clause-cell
returns-clause-cell c =
    cell_told c.add_cell.new.circuit c.args.scene.now.cells.now (window_in c.args.scene.now.window) c.args.family c.args.nodes.now c.truth.result c.make-out.result _ c.make-out.ensures
    (λ x val a. a.at _ (c.truth.ensures.edge c.add_cell.new.circuit) ∙ c.truth.ensures.value c.add_cell.new.circuit x) (λ x val p a. c.in_ok-add_cell.ensures.value x val p a)

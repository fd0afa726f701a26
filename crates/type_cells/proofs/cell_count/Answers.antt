use Rattle.std.proofs.Common.{◌∙◌, ap, sym}
use Rattle.murphi_types.specs.Weights.{stopped}
use Rattle.type_cells.specs.Counts.{variables_count}
use Rattle.type_cells.proofs.CellLemmas.{cells-are}
use Rattle.type_cells.proofs.cell_count.Goals as goal

pub returns : goal.returns
returns c =
    c.count_variables.ensures ∙ ap (λ vs. stopped (variables_count c.args.nodes vs)) c.as_slice.ensures
    ∙ ap stopped (sym (cells-are c.args.nodes 0 c.args.typed.now.globals))

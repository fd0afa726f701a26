use Rattle.std.proofs.Common.{◌≡◌, ◌+◌, drop}
use Rattle.murphi_types.specs.Weights.{stopped}
use Rattle.type_cells.specs.Counts.{variables_count}
use Rattle.type_cells.proofs.count_variables.Given as goal

abbrev pub invariant-loop-one : goal.invariant-loop-one
invariant-loop-one l =
    (stopped (l.count + variables_count l.nodes (drop l.one-index l.all)) ≡ stopped (variables_count l.nodes l.all)) × (stopped l.count ≡ l.count)

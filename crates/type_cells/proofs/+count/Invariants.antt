use Rattle.std.proofs.Common.{◌≡◌, ◌+◌, drop}
use Rattle.murphi_types.specs.Weights.{stopped}
use Rattle.type_cells.specs.Counts.{list_count}
use Rattle.type_cells.proofs.+count.Given as goal

abbrev pub invariant-count_fields-loop-one : goal.invariant-count_fields-loop-one
invariant-count_fields-loop-one l =
    (stopped (l.count + list_count l.nodes (drop l.one-index l.all)) ≡ stopped (list_count l.nodes l.all)) × (stopped l.count ≡ l.count)

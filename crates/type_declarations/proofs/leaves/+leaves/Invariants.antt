use Rattle.std.proofs.Common.{◌≡◌, ◌+◌, drop}
use Rattle.murphi_types.specs.Weights.{stopped}
use Rattle.type_declarations.specs.LeafLists.{list_leaves}
use Rattle.type_declarations.proofs.leaves.+leaves.Given as goal

abbrev pub invariant-field_leaves-loop-one : goal.invariant-field_leaves-loop-one
invariant-field_leaves-loop-one l =
    (stopped (l.count + list_leaves (drop l.one-index l.all)) ≡ stopped (list_leaves l.all)) × (stopped l.count ≡ l.count)

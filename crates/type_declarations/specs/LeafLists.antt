-- The cells of the fields of a record, over the list that code reads.
use Rattle.std.specs.Prelude.{ℕ, ◌+◌, List, [], ◌∷◌}
use Rattle.murphi_typed.specs.declared.types.Field.{Field}
use Rattle.murphi_types.specs.Leaves.{leaves}

abbrev pub list_leaves : List Field → ℕ
list_leaves [] = 0
list_leaves (f ∷ fs) = leaves f.of + list_leaves fs

-- How many values a simple type has, and how many cells a variable: by cases on the type.
use Rattle.std.specs.Prelude.{ℕ, ◌+◌, ◌*◌, ◌-ℤ◌, List, [], ◌∷◌, length}
use Rattle.murphi_typed.specs.declared.types.Simple.{Simple}
use Rattle.murphi_typed.specs.declared.types.Simple.TheVariants as simple
use Rattle.murphi_typed.specs.declared.types.Field.{Field}
use Rattle.murphi_typed.specs.declared.types.AnyType as t
use Rattle.murphi_typed.specs.declared.types.AnyType.{AnyType, Row_of-Field, end_of-Field, more_of-Field}
use Rattle.murphi_typed.specs.declared.protocol.Variable.{Variable}
use Rattle.murphi_typed.specs.Forms.{ArrayForm}
use Rattle.murphi_typed.specs.Values.{numbers_within}

abbrev pub value_count : ℕ → Simple → ℕ
value_count N simple.Truth = 2
value_count N (simple.Range low high) = numbers_within (high -ℤ low)
value_count N (simple.Listed kind count) = count
value_count N (simple.Scalarset kind count) = count
value_count N simple.Node = N

unfoldable mutual
  pub cell_count : ℕ → AnyType → ℕ
  cell_count N (t.Simple type) = 1
  cell_count N (t.Record' _ fields) = row_count N fields
  cell_count N (ArrayForm index item) = value_count N index * cell_count N item

  pub row_count : {n : _} → ℕ → Row_of-Field n → ℕ
  row_count N end_of-Field = 0
  row_count N (more_of-Field name type rest) = cell_count N type + row_count N rest

-- the same over the lists that code reads
abbrev pub list_count : ℕ → List Field → ℕ
list_count N [] = 0
list_count N (f ∷ fs) = cell_count N f.of + list_count N fs

abbrev pub variables_count : ℕ → List Variable → ℕ
variables_count N [] = 0
variables_count N (v ∷ vs) = cell_count N v.of + variables_count N vs

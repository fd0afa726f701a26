-- Where the cells of a variable stand in a list: how many there are, and the number of each among them, from 0. The
-- cells under a field stand together, the fields in the order of their names, whatever their order in the text; and
-- those under an index stand together, in the order of the values of the index type. So the cells under a place stand
-- together too, and variables of one type have them in one order.
use Rattle.std.specs.Prelude.{ℕ, ◌+◌, ◌-◌, ◌*◌, Bool, true, false, ◌&&◌, List, [], ◌∷◌, Option, None, Some, ℤ, pos, negsuc, ◌-ℤ◌, if◌then◌else◌}
use Rattle.std.specs.Str.{bytes_eq}
use Rattle.std.specs.Ordering.{nat_cmp, is_lt}
use Rattle.std.specs.Cmp.Lexicographic.{slice_cmp}
use Rattle.term_core.specs.declared.value.Value.{Value}
use Rattle.term_core.specs.declared.value.Value.TheVariants as value
use Rattle.murphi_typed.specs.declared.types.Simple.{Simple}
use Rattle.murphi_typed.specs.declared.types.Simple.TheVariants as simple
use Rattle.murphi_typed.specs.declared.types.AnyType as t
use Rattle.murphi_typed.specs.declared.types.AnyType.{AnyType, Row_of-Field, end_of-Field, more_of-Field}
use Rattle.murphi_typed.specs.Forms.{ArrayForm}
use Rattle.murphi_typed.specs.Values.{is_value, numbers_within}
use Rattle.murphi_typed.specs.Families.{Name, Path}

-- whether a name stands before another in the order of names: byte by byte, the first that differs decides
abbrev pub name_before : Name → Name → Bool
name_before a b = is_lt (slice_cmp nat_cmp a b)

-- how many values a simple type has
abbrev pub value_count : ℕ → Simple → ℕ
value_count N simple.Truth = 2
value_count N (simple.Range low high) = numbers_within (high -ℤ low)
value_count N (simple.Listed kind count) = count
value_count N (simple.Scalarset kind count) = count
value_count N simple.Node = N

-- how far a number is above another
abbrev pub far : ℤ → ℕ
far (pos n) = n
far (negsuc n) = 0

-- the number of a value among those of its type, from 0
abbrev pub rank : Simple → Value → ℕ
rank simple.Truth (value.Truth b) = if b then 1 else 0
rank (simple.Range low high) (value.Number z) = far (z -ℤ low)
rank (simple.Listed kind count) (value.Member other index) = index
rank (simple.Scalarset kind count) (value.Member other index) = index
rank simple.Node (value.Node n) = n - 1
rank _ _ = 0

unfoldable mutual
  -- how many cells a variable of a type has
  pub size : ℕ → AnyType → ℕ
  size N (t.Simple type) = 1
  size N (t.Record' _ fields) = row_size N fields
  size N (ArrayForm index item) = size N item * value_count N index

  pub row_size : {n : _} → ℕ → Row_of-Field n → ℕ
  row_size N end_of-Field = 0
  row_size N (more_of-Field name type rest) = size N type + row_size N rest

-- how many cells of a record stand before those under a field: those under the fields whose names stand before it
abbrev pub row_first : {n : _} → ℕ → Row_of-Field n → Name → ℕ
row_first N end_of-Field name = 0
row_first N (more_of-Field field type rest) name =
    if name_before field name then size N type + row_first N rest name else row_first N rest name

unfoldable mutual
  -- whether field names and indices lead to a cell of a type: down to a simple type, each index within its index type
  pub has_cell : ℕ → AnyType → Path → List Value → Bool
  has_cell N (t.Simple type) [] [] = true
  has_cell N (t.Simple type) [] (v ∷ at) = false
  has_cell N (t.Simple type) (name ∷ path) at = false
  has_cell N (t.Record' _ fields) [] at = false
  has_cell N (t.Record' _ fields) (name ∷ path) at = row_has N fields name path at
  has_cell N (ArrayForm index item) path [] = false
  has_cell N (ArrayForm index item) path (v ∷ at) = is_value N index v && has_cell N item path at

  pub row_has : {n : _} → ℕ → Row_of-Field n → Name → Path → List Value → Bool
  row_has N end_of-Field name path at = false
  row_has N (more_of-Field field type rest) name path at =
      if bytes_eq field name then has_cell N type path at else row_has N rest name path at

unfoldable mutual
  -- the number of the first cell under these field names and indices, among the cells of a variable of this type
  pub offset : ℕ → AnyType → Path → List Value → ℕ
  offset N (t.Simple type) path at = 0
  offset N (t.Record' _ fields) [] at = 0
  offset N (t.Record' _ fields) (name ∷ path) at = row_first N fields name + row_offset N fields name path at
  offset N (ArrayForm index item) path [] = 0
  offset N (ArrayForm index item) path (v ∷ at) = rank index v * size N item + offset N item path at

  -- the same under a field, among the cells of the field
  pub row_offset : {n : _} → ℕ → Row_of-Field n → Name → Path → List Value → ℕ
  row_offset N end_of-Field name path at = 0
  row_offset N (more_of-Field field type rest) name path at =
      if bytes_eq field name then offset N type path at else row_offset N rest name path at

-- nothing more is on the way down
abbrev pub here : Path → AnyType → Option AnyType
here [] type = Some type
here (name ∷ path) type = None

unfoldable mutual
  -- the type of what field names and indices lead to, if they lead anywhere: each index within its index type
  pub leads_to : ℕ → AnyType → Path → List Value → Option AnyType
  leads_to N (t.Simple type) path [] = here path (t.Simple type)
  leads_to N (t.Simple type) path (v ∷ at) = None
  leads_to N (t.Record' shape fields) [] [] = Some (t.Record' shape fields)
  leads_to N (t.Record' shape fields) [] (v ∷ at) = None
  leads_to N (t.Record' shape fields) (name ∷ path) at = row_leads N fields name path at
  leads_to N (ArrayForm index item) path [] = here path (ArrayForm index item)
  leads_to N (ArrayForm index item) path (v ∷ at) = if is_value N index v then leads_to N item path at else None

  pub row_leads : {n : _} → ℕ → Row_of-Field n → Name → Path → List Value → Option AnyType
  row_leads N end_of-Field name path at = None
  row_leads N (more_of-Field field type rest) name path at =
      if bytes_eq field name then leads_to N type path at else row_leads N rest name path at

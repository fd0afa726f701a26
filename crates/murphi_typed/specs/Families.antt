-- Cells. The cells of a variable with one list of field names are a family; a cell of a family has a value
-- for each index on the way down to its simple type.
use Rattle.std.specs.Prelude.{ℕ, suc, List, [], ◌∷◌, ◌++◌, map, Option, None, Some, if◌then◌else◌}
use Rattle.std.specs.List.{flat_map}
use Rattle.std.specs.Str.{bytes_eq}
use Rattle.term_core.specs.declared.value.Value.{Value}
use Rattle.murphi_typed.specs.declared.types.Simple.{Simple}
use Rattle.murphi_typed.specs.declared.types.AnyType as t
use Rattle.murphi_typed.specs.declared.types.AnyType.{AnyType, Row_of-Field, end_of-Field, more_of-Field}
use Rattle.murphi_typed.specs.declared.protocol.Variable.{Variable}
use Rattle.murphi_typed.specs.declared.protocol.Typed.{Typed}
use Rattle.murphi_typed.specs.Forms.{ArrayForm}
use Rattle.murphi_typed.specs.Values.{values}

-- a name is its bytes
abbrev pub Name : Type 0
Name = List ℕ

-- the names of the fields on the way down to a cell
abbrev pub Path : Type 0
Path = List Name

-- a step on the way down: into a field of a record, or to an item of an array with this index type
pub data Step : Type 0 where
  Into : Name → Step
  Over : Simple → Step

-- a way down to a simple type
pub record Way : Type 0 where
  pub steps : List Step
  pub leaf : Simple

abbrev pub one_more : Step → Way → Way
one_more step way = record { steps = step ∷ way.steps; leaf = way.leaf }

unfoldable mutual
  -- the ways down to simple types, by the order of the fields
  pub ways : AnyType → List Way
  ways (t.Simple type) = record { steps = []; leaf = type } ∷ []
  ways (t.Record' _ fields) = row_ways fields
  ways (ArrayForm index item) = map (one_more (Over index)) (ways item)

  pub row_ways : {n : _} → Row_of-Field n → List Way
  row_ways end_of-Field = []
  row_ways (more_of-Field name type rest) = map (one_more (Into name)) (ways type) ++ row_ways rest

-- the field names on a way
abbrev pub path_of : List Step → Path
path_of [] = []
path_of (Into name ∷ steps) = name ∷ path_of steps
path_of (Over index ∷ steps) = path_of steps

-- the index types on a way
abbrev pub axes_of : List Step → List Simple
axes_of [] = []
axes_of (Into name ∷ steps) = axes_of steps
axes_of (Over index ∷ steps) = index ∷ axes_of steps

-- the lists with a value for each of these types, the first value slowest
abbrev pub choices : ℕ → List Simple → List (List Value)
choices N [] = [] ∷ []
choices N (type ∷ types) = flat_map (λ v. map (λ vs. v ∷ vs) (choices N types)) (values N type)

-- a cell of a global: the global by its number, the way down, and a value for each index
pub record Cell : Type 0 where
  pub global : ℕ
  pub way : Way
  pub at : List Value

abbrev pub cells_on : ℕ → ℕ → Way → List Cell
cells_on N global way = map (λ at. record { global = global; way = way; at = at }) (choices N (axes_of way.steps))

-- the cells of globals, the first of which has this number
abbrev pub cells_from : ℕ → ℕ → List Variable → List Cell
cells_from N global [] = []
cells_from N global (v ∷ vs) = flat_map (cells_on N global) (ways v.of) ++ cells_from N (suc global) vs

-- all cells with N nodes, in the order in which they are printed: by declaration, then by fields, then by
-- indices, the first slowest
abbrev pub cells : ℕ → Typed → List Cell
cells N T = cells_from N 0 T.globals

unfoldable mutual
  -- the simple type that field names lead to, whatever the indices are
  pub leaf_at : AnyType → Path → Option Simple
  leaf_at (t.Simple type) [] = Some type
  leaf_at (t.Simple type) (name ∷ path) = None
  leaf_at (t.Record' _ fields) [] = None
  leaf_at (t.Record' _ fields) (name ∷ path) = row_leaf fields name path
  leaf_at (ArrayForm index item) path = leaf_at item path

  pub row_leaf : {n : _} → Row_of-Field n → Name → Path → Option Simple
  row_leaf end_of-Field name path = None
  row_leaf (more_of-Field field type rest) name path =
      if bytes_eq field name then leaf_at type path else row_leaf rest name path

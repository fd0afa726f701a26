-- What holds of the numbers of cells, and of lists that hold them.
use Rattle.std.specs.Prelude.{◌≡◌, ℕ, ◌+◌, ◌<◌, ◌≤◌, ◌++◌, List, Some, length, slice_get, slice_set, IsTrue}
use Rattle.term_core.specs.declared.value.Value.{Value}
use Rattle.murphi_typed.specs.declared.types.Simple.{Simple}
use Rattle.murphi_typed.specs.declared.types.AnyType.{AnyType}
use Rattle.murphi_typed.specs.declared.types.Kind.{Kind}
use Rattle.murphi_typed.specs.Values.{is_value}
use Rattle.murphi_typed.specs.Families.{Path}
use Rattle.murphi_typed.specs.Store.{Place, Cells, cell_at, written, only}
use Rattle.murphi_typed.specs.WellTyped.{is_type, same_type}
use Rattle.murphi_run.specs.Layout.{value_count, rank, size, has_cell, offset, leads_to}
use Rattle.murphi_run.specs.Holding.{Block, Layout, number_in, Holds, IsLayout}

-- the number of a value is below that of the values of its type
abbrev pub RanksAreWithin : Type 0
RanksAreWithin = (N : ℕ) (type : Simple) (v : Value) → IsTrue (is_value N type v) → rank type v < value_count N type

-- two values of a type that have one number are one
abbrev pub RanksAreApart : Type 0
RanksAreApart =
    (N : ℕ) (type : Simple) (v w : Value) → IsTrue (is_value N type v) → IsTrue (is_value N type w)
    → rank type v ≡ rank type w → v ≡ w

-- the number of a cell is below that of the cells of its variable
abbrev pub CellsAreWithin : Type 0
CellsAreWithin =
    (N : ℕ) (type : AnyType) (path : Path) (at : List Value) → IsTrue (has_cell N type path at)
    → offset N type path at < size N type

-- two cells of a variable that have one number are one
abbrev pub CellsAreApart : Type 0
CellsAreApart =
    (N : ℕ) (type : AnyType) (path way : Path) (at by : List Value) → IsTrue (has_cell N type path at)
    → IsTrue (has_cell N type way by) → offset N type path at ≡ offset N type way by → (path ≡ way) × (at ≡ by)

-- what stands under a place: the cells there are those of the type that the place has, they stand together, and each
-- has its number among them behind that of the first
abbrev pub PlacesLeadOn : Type 0
PlacesLeadOn =
    (N : ℕ) (type inner : AnyType) (path way : Path) (at by : List Value) → leads_to N type path at ≡ Some inner
    → (offset N type (path ++ way) (at ++ by) ≡ offset N type path at + offset N inner way by)
    × (has_cell N type (path ++ way) (at ++ by) ≡ has_cell N inner way by)
    × (offset N type path at + size N inner ≤ size N type)

-- variables of two types that are one have as many cells, and those under the same names and indices have one number,
-- in whatever order the fields are written
abbrev pub SameTypesStandAlike : Type 0
SameTypesStandAlike =
    (N : ℕ) (kinds : List Kind) (type other : AnyType) → IsTrue (is_type kinds type) → IsTrue (is_type kinds other)
    → IsTrue (same_type type other)
    → (size N type ≡ size N other)
    × ((path : Path) (at : List Value) → offset N type path at ≡ offset N other path at)
    × ((path : Path) (at : List Value) → has_cell N type path at ≡ has_cell N other path at)

-- a list that holds the cells has the value of a cell at its number
abbrev pub ReadsAreThose : Type 0
ReadsAreThose =
    (N : ℕ) (layout : Layout) (values : List Value) (cells : Cells) (b : Block) (place : Place)
    → Holds N layout values cells → layout place.owner ≡ Some b → IsTrue (has_cell N b.of place.path place.at)
    → slice_get values (number_in N b place.path place.at) ≡ Some (cell_at cells place)

-- and with another value there it holds the cells in which that one is written
abbrev pub WritesAreThose : Type 0
WritesAreThose =
    (N : ℕ) (layout : Layout) (values : List Value) (cells : Cells) (b : Block) (place : Place) (v : Value)
    → IsLayout N layout (length values) → Holds N layout values cells → layout place.owner ≡ Some b
    → IsTrue (has_cell N b.of place.path place.at)
    → Holds N layout (slice_set values (number_in N b place.path place.at) v) (written cells place (only v))

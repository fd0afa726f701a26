-- What holds of places and of the cells under them.
use Rattle.std.specs.Prelude.{◌≡◌, ℕ, ◌+◌, ◌≤◌, List, [], ◌∷◌, Some, length, slice_get, slice_set, take, drop}
use Rattle.term_core.specs.declared.value.Value.{Value}
use Rattle.murphi_typed.specs.declared.types.Simple.{Simple}
use Rattle.murphi_typed.specs.declared.types.AnyType as t
use Rattle.murphi_typed.specs.Families.{Name, Path}
use Rattle.murphi_typed.specs.Store.{Place, Contents, Cells, cell_at, contents_at, written, only}
use Rattle.murphi_typed.specs.Expressions.{under}
use Rattle.murphi_run.specs.Layout.{size}
use Rattle.murphi_run.specs.Holding.{Block, Layout, Holds, IsLayout}
use Rattle.murphi_run.specs.Stretches.{with_stretch, HoldsAlone}
use Rattle.murphi_run.specs.Places.{IsUnder, IsPlaced, field_of, item_of}

-- a place leads to itself
abbrev pub PlacesAreUnderThemselves : Type 0
PlacesAreUnderThemselves = (N : ℕ) (b : Block) → IsUnder N b [] [] b

-- what a field or an index leads to is under the place, and so is what that leads to
abbrev pub FieldsLeadUnder : Type 0
FieldsLeadUnder =
    (N : ℕ) (b c d : Block) (name : Name) (path : Path) (at : List Value) → field_of N b name ≡ Some c
    → IsUnder N c path at d → IsUnder N b (name ∷ path) at d

abbrev pub IndicesLeadUnder : Type 0
IndicesLeadUnder =
    (N : ℕ) (b c d : Block) (v : Value) (path : Path) (at : List Value) → item_of N b v ≡ Some c
    → IsUnder N c path at d → IsUnder N b path (v ∷ at) d

-- a place under one that stands in the list stands there too
abbrev pub PlacesUnderAreThere : Type 0
PlacesUnderAreThere =
    (N : ℕ) (layout : Layout) (p : Place) (b c : Block) (path : Path) (at : List Value) → IsPlaced N layout p b
    → IsUnder N b path at c → IsPlaced N layout (under p path at) c

-- the cells under a place are within the list
abbrev pub PlacesAreWithin : Type 0
PlacesAreWithin =
    (N : ℕ) (layout : Layout) (count : ℕ) (p : Place) (b : Block) → IsLayout N layout count → IsPlaced N layout p b
    → b.first + size N b.of ≤ count

-- where a list holds the cells in scope, it has the value of a place of simple type at its number
abbrev pub ValuesAreThere : Type 0
ValuesAreThere =
    (N : ℕ) (layout : Layout) (values : List Value) (cells : Cells) (p : Place) (b : Block) (type : Simple)
    → Holds N layout values cells → IsPlaced N layout p b → b.of ≡ t.Simple type
    → slice_get values b.first ≡ Some (cell_at cells p)

-- and with another value there it holds the cells in which that one is written
abbrev pub ValuesAreWritten : Type 0
ValuesAreWritten =
    (N : ℕ) (layout : Layout) (values : List Value) (cells : Cells) (p : Place) (b : Block) (type : Simple) (v : Value)
    → IsLayout N layout (length values) → Holds N layout values cells → IsPlaced N layout p b → b.of ≡ t.Simple type
    → Holds N layout (slice_set values b.first v) (written cells p (only v))

-- its stretch holds the cells under a place
abbrev pub ContentsAreThere : Type 0
ContentsAreThere =
    (N : ℕ) (layout : Layout) (values : List Value) (cells : Cells) (p : Place) (b : Block) → Holds N layout values cells
    → IsPlaced N layout p b → HoldsAlone N b.of (take (size N b.of) (drop b.first values)) (contents_at cells p)

-- and with another stretch there, that holds contents, it holds the cells in which these are written
abbrev pub ContentsAreWritten : Type 0
ContentsAreWritten =
    (N : ℕ) (layout : Layout) (values new : List Value) (cells : Cells) (p : Place) (b : Block) (contents : Contents)
    → IsLayout N layout (length values) → Holds N layout values cells → IsPlaced N layout p b
    → length new ≡ size N b.of → HoldsAlone N b.of new contents
    → Holds N layout (with_stretch b.first new values) (written cells p contents)

-- What it means that a list holds the cells of the variables in scope.
use Rattle.std.specs.Prelude.{◌≡◌, ℕ, ◌+◌, ◌≤◌, ◌⊎◌, true, false, List, Option, Some, slice_get}
use Rattle.term_core.specs.declared.value.Value.{Value}
use Rattle.murphi_typed.specs.declared.types.AnyType.{AnyType}
use Rattle.murphi_typed.specs.Families.{Path}
use Rattle.murphi_typed.specs.Store.{Owner, same_owner, Contents, Cells}
use Rattle.murphi_run.specs.Layout.{size, has_cell, offset}

-- the values of the cells in scope, by their numbers
abbrev pub Values : Type 0
Values = List Value

-- the place of a variable in the list: the number of its first cell, and its type
pub record Block : Type 0 where
  pub first : ℕ
  pub of : AnyType

-- the blocks of the variables in scope
abbrev pub Layout : Type 0
Layout = Owner → Option Block

-- the number of a cell in the list
abbrev pub number_in : ℕ → Block → Path → List Value → ℕ
number_in N b path at = b.first + offset N b.of path at

-- the list has the value of each cell of a variable at its number
abbrev pub HoldsVariable : ℕ → Block → List Value → Contents → Type 0
HoldsVariable N b values contents =
    (path : Path) (at : List Value) → has_cell N b.of path at ≡ true
    → slice_get values (number_in N b path at) ≡ Some (contents path at)

-- and so for each variable in scope
abbrev pub Holds : ℕ → Layout → List Value → Cells → Type 0
Holds N layout values cells = (owner : Owner) (b : Block) → layout owner ≡ Some b → HoldsVariable N b values (cells owner)

-- the blocks lie within a list of this length, and those of two variables have no cell in common
pub record IsLayout (N : ℕ) (layout : Layout) (count : ℕ) : Type 0 where
  pub within : (owner : Owner) (b : Block) → layout owner ≡ Some b → b.first + size N b.of ≤ count
  pub apart : (owner other : Owner) (b c : Block) → layout owner ≡ Some b → layout other ≡ Some c
      → same_owner owner other ≡ false → (b.first + size N b.of ≤ c.first) ⊎ (c.first + size N c.of ≤ b.first)

-- What contracts see of a frame and of a state that a program holds.
use Rattle.std.specs.Prelude.{◌≡◌, ℕ, ◌+◌, ◌^◌, ◌<◌, List, [], ◌∷◌, length}
use Rattle.term_core.specs.declared.machine.CellFamily.{CellFamily}
use Rattle.term_core.specs.Meaning.{Cells}
use Rattle.term_core.specs.Cells.{State, cell_value}

-- a frame: the nodes of its variables, and how many variables it has room for
pub record Bindings : Type 0 where
  pub nodes : List ℕ
  pub room : ℕ

-- a state with the number of nodes and the families that its cells are of
pub record Situation : Type 0 where
  pub nodes : ℕ
  pub families : List CellFamily
  pub values : State

-- the values of its cells
abbrev pub cells_of : Situation → Cells
cells_of s = cell_value s.nodes s.families s.values

-- where the cells of each family begin, the first of them at this place
abbrev pub places_from : ℕ → ℕ → List CellFamily → List ℕ
places_from N place [] = []
places_from N place (f ∷ fs) = place ∷ places_from N (place + N ^ f.axes) fs

-- how many cells there are
abbrev pub cell_count : ℕ → List CellFamily → ℕ
cell_count N [] = 0
cell_count N (f ∷ fs) = N ^ f.axes + cell_count N fs

-- what a state in memory keeps: where each family begins, and a value for each cell
pub record IsStored (nodes : ℕ) (families : List CellFamily) (firsts : List ℕ) (values : State) : Type 0 where
  pub places : firsts ≡ places_from nodes 0 families
  pub count : length values ≡ cell_count nodes families
  pub small : length values < 2 ^ 32

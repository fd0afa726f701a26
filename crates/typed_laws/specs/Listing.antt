-- States are lists in the order in which cells are printed, and execution goes by variable, field names and indices:
-- which place a cell has in the list, and what a change of a cell does there.
use Rattle.std.specs.Prelude.{◌≡◌, ℕ, zero, suc, List, [], ◌∷◌, Option, None, Some, option_map, if◌then◌else◌, slice_get, IsTrue}
use Rattle.term_core.specs.declared.value.Value.{Value}
use Rattle.murphi_typed.specs.declared.protocol.Typed.{Typed}
use Rattle.murphi_typed.specs.Families.{Path, Cell, cells, path_of}
use Rattle.murphi_typed.specs.Store.{Owner, Global, Cells, written, only}
use Rattle.murphi_typed.specs.Steps.{is_cell, state_of}
use Rattle.murphi_typed.specs.WellTyped.{is_well_typed}

-- the place of a cell in a list of cells, counted from 0
abbrev pub place_in : List Cell → Owner → Path → List Value → Option ℕ
place_in [] owner path at = None
place_in (c ∷ cs) owner path at =
    if is_cell c owner path at then Some zero else option_map suc (place_in cs owner path at)

-- the list in which the value at a place is another
abbrev pub changed : ℕ → Value → List Value → List Value
changed k v [] = []
changed zero v (x ∷ xs) = v ∷ xs
changed (suc k) v (x ∷ xs) = x ∷ changed k v xs

-- the k-th of the cells of a well-typed protocol is the cell whose place is k: no cell is listed twice
abbrev pub CellsHavePlaces : Type 0
CellsHavePlaces =
    (N : ℕ) (T : Typed) (k : ℕ) (c : Cell) → IsTrue (is_well_typed T) → slice_get (cells N T) k ≡ Some c
    → place_in (cells N T) (Global c.global) (path_of c.way.steps) c.at ≡ Some k

-- where one cell has another value, the state has it at the place of the cell, and nothing else changes
abbrev pub ChangesAreListed : Type 0
ChangesAreListed =
    (N : ℕ) (T : Typed) (now : Cells) (owner : Owner) (path : Path) (at : List Value) (v : Value) (k : ℕ)
    → IsTrue (is_well_typed T) → place_in (cells N T) owner path at ≡ Some k
    → state_of N T (written now (record { owner = owner; path = path; at = at }) (only v))
    ≡ changed k v (state_of N T now)

-- The cells of a machine with N nodes, and its states, which have one value for each cell.
use Rattle.std.specs.Prelude.{◌≡◌, ℕ, zero, suc, ◌+◌, ◌-◌, ◌*◌, ◌^◌, Bool, false, ◌&&◌, nat_eq, pos, List, [], ◌∷◌, ◌++◌, map, replicate, length, if◌then◌else◌, slice_get, slice_set, unwrap_or, IsTrue}
use Rattle.std.specs.List.{flat_map, list_all}
use Rattle.std.specs.Option.{option_map_or}
use Rattle.term_core.specs.declared.value.Value.{Value}
use Rattle.term_core.specs.declared.value.Value.TheVariants as value
use Rattle.term_core.specs.declared.machine.CellFamily.{CellFamily}
use Rattle.term_core.specs.Nodes.{is_node, choices}
use Rattle.term_core.specs.Values.{is_of_sort, values_of_sort}

-- a cell of a family, which goes by its number, at node indices
pub record Cell : Type 0 where
  pub family : ℕ
  pub at : List ℕ

-- the cells of families, the first of which has this number
abbrev pub cells_from : ℕ → ℕ → List CellFamily → List Cell
cells_from N first [] = []
cells_from N first (f ∷ fs) = map (λ at. record { family = first; at = at }) (choices N f.axes) ++ cells_from N (suc first) fs

-- the cells of a machine's families: family by family in order, and within a family by the node
-- indices, the first slowest
abbrev pub cells : ℕ → List CellFamily → List Cell
cells N families = cells_from N 0 families

-- whether a family has a cell at these indices
abbrev pub is_cell : ℕ → List CellFamily → ℕ → List ℕ → Bool
is_cell N families f at = option_map_or (λ family. nat_eq (length at) family.axes && list_all (is_node N) at) (slice_get families f) false

-- how many cells the families before this one have
abbrev pub first_place : ℕ → List CellFamily → ℕ → ℕ
first_place N [] f = 0
first_place N (g ∷ gs) zero = 0
first_place N (g ∷ gs) (suc f) = N ^ g.axes + first_place N gs f

-- how many lists of as many nodes stand before this one, the first node slowest
abbrev pub choice_place : ℕ → List ℕ → ℕ
choice_place N [] = 0
choice_place N (n ∷ ns) = (n - 1) * N ^ length ns + choice_place N ns

-- the place of a cell among all cells
abbrev pub place_of : ℕ → List CellFamily → ℕ → List ℕ → ℕ
place_of N families f at = first_place N families f + choice_place N at

-- A table has a value of any type for each cell, in the order of the cells.

-- the table that gives each cell the value of a function
abbrev pub table : {X : Type 0} → ℕ → List CellFamily → (ℕ → List ℕ → X) → List X
table N families g = map (λ c. g c.family c.at) (cells N families)

-- the value of a table at a cell: that at the cell's place, and another value where there is no such cell
abbrev pub table_value : {X : Type 0} → ℕ → List CellFamily → X → List X → ℕ → List ℕ → X
table_value N families none s f at = if is_cell N families f at then unwrap_or (slice_get s (place_of N families f at)) none else none

-- the table in which one cell has another value
abbrev pub table_with : {X : Type 0} → ℕ → List CellFamily → List X → ℕ → List ℕ → X → List X
table_with N families s f at new = slice_set s (place_of N families f at) new

-- a state: the values of the cells, in the order of the cells
abbrev pub State : Type 0
State = List Value

-- the value of a cell in a state: that at the cell's place, and undefined where there is no such cell
abbrev pub cell_value : ℕ → List CellFamily → State → ℕ → List ℕ → Value
cell_value N families s f at = table_value N families value.Undefined s f at

-- the state in which one cell has another value
abbrev pub with_cell : ℕ → List CellFamily → State → ℕ → List ℕ → Value → State
with_cell N families s f at new = table_with N families s f at new

-- the state that gives each cell the value of a function
abbrev pub filled : ℕ → List CellFamily → (ℕ → List ℕ → Value) → State
filled N families g = table N families g

-- whether a cell of a family may have a value
abbrev pub family_may_have : ℕ → CellFamily → Value → Bool
family_may_have N family value.Undefined = family.undefined
family_may_have N family v = is_of_sort N family.sort v

-- the values that a cell of a family may have: undefined first, if it may be that
abbrev pub family_values : ℕ → CellFamily → List Value
family_values N family = (if family.undefined then value.Undefined ∷ [] else []) ++ values_of_sort N family.sort

-- whether the cells of the family of this number may have a value
abbrev pub may_have : ℕ → List CellFamily → ℕ → Value → Bool
may_have N families f v = option_map_or (λ family. family_may_have N family v) (slice_get families f) false

-- the value of a cell before anything is written: undefined, or 0 where it cannot be undefined
abbrev pub blank_value : CellFamily → Value
blank_value family = if family.undefined then value.Undefined else value.Number (pos 0)

-- the state before anything is written
abbrev pub blank_state : ℕ → List CellFamily → State
blank_state N families = flat_map (λ family. replicate (N ^ family.axes) (blank_value family)) families

-- a state has a value for each cell, and each is one that the cell may have
pub record IsState (N : ℕ) (families : List CellFamily) (s : State) : Type 0 where
  pub count : length s ≡ length (cells N families)
  pub values : (f : ℕ) (at : List ℕ) → IsTrue (is_cell N families f at) → IsTrue (may_have N families f (cell_value N families s f at))

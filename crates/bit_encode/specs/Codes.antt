-- Codes. A cell's value is coded by its position in the list of the values that the cell may have, and the
-- position by bits, the lowest first.
use Rattle.std.specs.Prelude.{ℕ, zero, suc, ◌+◌, ◌*◌, ◌/◌, ◌%◌, ◌^◌, Bool, true, false, ◌&&◌, not, nat_eq, nat_le, nat_lt, List, [], ◌∷◌, ◌++◌, length, replicate, if◌then◌else◌}
use Rattle.std.specs.List.{slice_index_or, flat_map}
use Rattle.term_core.specs.declared.machine.CellFamily.{CellFamily}
use Rattle.other_abstract.specs.declared.value.AbsValue.{AbsValue}
use Rattle.other_abstract.specs.declared.value.AbsValue.TheVariants.{Undefined}
use Rattle.other_abstract.specs.Windows.{Window, size}
use Rattle.other_abstract.specs.May.{AbsCells}
use Rattle.other_abstract.specs.Tests.{values_of}

-- the values that a cell of a family may have in a window: undefined first, if it may be that
abbrev pub cell_values : Window → CellFamily → List AbsValue
cell_values W family = (if family.undefined then Undefined ∷ [] else []) ++ values_of W family.sort

-- the least b from this one on, and at most so many more, such that 2^b is at least n
abbrev pub width_from : ℕ → ℕ → ℕ → ℕ
width_from zero b n = b
width_from (suc more) b n = if nat_le n (2 ^ b) then b else width_from more (suc b) n

-- how many bits code one of n values: the least b such that 2^b is at least n
abbrev pub width : ℕ → ℕ
width n = width_from n 0 n

abbrev pub bit_number : Bool → ℕ
bit_number true = 1
bit_number false = 0

-- the number that bits stand for, the lowest first
abbrev pub number_of : List Bool → ℕ
number_of [] = 0
number_of (b ∷ bs) = bit_number b + 2 * number_of bs

-- so many bits of a number
abbrev pub bits_of : ℕ → ℕ → List Bool
bits_of zero n = []
bits_of (suc w) n = nat_eq (n % 2) 1 ∷ bits_of w (n / 2)

-- whether bits are those of a number
abbrev pub matches : ℕ → List Bool → Bool
matches n [] = nat_eq n 0
matches n (b ∷ bs) = (if nat_eq (n % 2) 1 then b else not b) && matches (n / 2) bs

-- so many inputs, from this one on
abbrev pub bits_at : (ℕ → Bool) → ℕ → ℕ → List Bool
bits_at x first zero = []
bits_at x first (suc n) = x first ∷ bits_at x (suc first) n

-- whether a value stands at a position, and it passes
abbrev pub picked : (AbsValue → Bool) → List AbsValue → ℕ → Bool
picked p [] n = false
picked p (v ∷ vs) zero = p v
picked p (v ∷ vs) (suc n) = picked p vs n

-- States. Each cell is given by the list of its values; the codes of the cells stand one after the other.

-- the lists of values of the cells of a window, family by family
abbrev pub cell_lists : Window → List (List AbsValue)
cell_lists W = flat_map (λ (family : CellFamily). replicate (size W ^ family.axes) (cell_values W family)) W.families

-- how many bits the cells take
abbrev pub bit_count : List (List AbsValue) → ℕ
bit_count [] = 0
bit_count (values ∷ rest) = width (length values) + bit_count rest

-- the position that inputs from this one on code, for a cell with these values
abbrev pub coded_place : (ℕ → Bool) → ℕ → List AbsValue → ℕ
coded_place x first values = number_of (bits_at x first (width (length values)))

-- the state that inputs from this one on code
abbrev pub coded_state : (ℕ → Bool) → ℕ → List (List AbsValue) → AbsCells
coded_state x first [] = []
coded_state x first (values ∷ rest) =
    slice_index_or values (coded_place x first values) Undefined ∷ coded_state x (first + width (length values)) rest

-- whether the code is legal: each position is one of the cell's list
abbrev pub is_legal : (ℕ → Bool) → ℕ → List (List AbsValue) → Bool
is_legal x first [] = true
is_legal x first (values ∷ rest) =
    nat_lt (coded_place x first values) (length values) && is_legal x (first + width (length values)) rest

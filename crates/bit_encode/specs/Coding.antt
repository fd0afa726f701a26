-- What sets of values with edges say of the state of a window, and of a term in it.
use Rattle.std.specs.Prelude.{ℕ, ◌≡◌, ◌<◌, ◌+◌, Bool, true, List, [], ◌∷◌, length, All}
use Rattle.std.specs.List.{slice_index_or, list_all}
use Rattle.term_core.specs.declared.term.Term.{Term}
use Rattle.circuit_core.specs.declared.edge.Edge.{Edge}
use Rattle.circuit_core.specs.Network.{Network}
use Rattle.other_abstract.specs.declared.node.AbsNode.{AbsNode}
use Rattle.other_abstract.specs.declared.value.AbsValue.{AbsValue}
use Rattle.other_abstract.specs.declared.value.AbsValue.TheVariants.{Undefined}
use Rattle.other_abstract.specs.Windows.{Window}
use Rattle.other_abstract.specs.May.{AbsCells}
use Rattle.other_abstract.specs.Tests.{may}
use Rattle.bit_encode.specs.declared.set.Possible.{Possible}
use Rattle.bit_encode.specs.Codes.{width, picked, coded_place}
use Rattle.bit_encode.specs.MaySets.{HasEdges, held}

-- a set with edges for each cell
abbrev pub HasCells : Network → List (List Possible) → Type 0
HasCells c cells = All (HasEdges c) cells

-- one value is possible, and no other
abbrev pub IsExactly : (Edge → Bool) → List Possible → AbsValue → Type 0
IsExactly val s v = (p : AbsValue → Bool) → held val p s ≡ p v

-- The edges code a state: there is a set for each cell, in which the cell's value alone is possible.
pub record Shows (val : Edge → Bool) (cells : List (List Possible)) (w : AbsCells) : Type 0 where
  pub count : length cells ≡ length w
  pub cell : (k : ℕ) → k < length w → IsExactly val (slice_index_or cells k []) (slice_index_or w k Undefined)

-- The set is that of what a term may be: whatever state the edges of the cells code, the edges of the set are true
-- exactly for the values that the term may have in that state, with these nodes for its variables.
unfoldable pub IsMay : (Edge → Bool) → List (List Possible) → Window → List AbsNode → Term → List Possible → Type 0
IsMay val cells W env t s = (w : AbsCells) → Shows val cells w → (p : AbsValue → Bool) → held val p s ≡ may W w env t p

-- The cells are coded by inputs from this one on, one cell after the other: in the set of each cell the value at the
-- coded position alone is possible, and none where there is no such position.
abbrev pub AreCoded : (Edge → Bool) → (ℕ → Bool) → ℕ → List (List AbsValue) → List (List Possible) → Type 0
AreCoded val x first [] [] = Unit {0}
AreCoded val x first (values ∷ rest) (s ∷ ss) =
    ((p : AbsValue → Bool) → held val p s ≡ picked p values (coded_place x first values))
    × AreCoded val x (first + width (length values)) rest ss
AreCoded val x first _ _ = ⊥

-- whether each cell has some value
abbrev pub legal_edges : (Edge → Bool) → List (List Possible) → Bool
legal_edges val cells = list_all (held val (λ v. true)) cells

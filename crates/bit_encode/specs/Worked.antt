-- Codes worked by hand.
use Rattle.std.specs.Prelude.{◌≡◌, ℕ, Bool, true, false, List, [], ◌∷◌, map}
use Rattle.std.specs.List.{slice_index_or}
use Rattle.term_core.specs.declared.value.Sort.{Sort}
use Rattle.term_core.specs.declared.value.Sort.TheVariants as sort
use Rattle.term_core.specs.declared.machine.CellFamily.{CellFamily}
use Rattle.other_abstract.specs.declared.node.AbsNode.TheVariants.{Kept, Other}
use Rattle.other_abstract.specs.declared.value.AbsValue.TheVariants.{Undefined, Truth, Node}
use Rattle.other_abstract.specs.Windows.{Window}
use Rattle.bit_encode.specs.Codes.{width, bits_of, bit_count, cell_lists, coded_state, is_legal}

-- the inputs have these values, and the rest are false
abbrev pub inputs_of : List Bool → ℕ → Bool
inputs_of bits k = slice_index_or bits k false

-- a family whose cells may be undefined
abbrev pub family : Sort → ℕ → CellFamily
family of axes = record { name = []; sort = of; axes = axes; undefined = true }

-- a truth value and a node, with one kept node
abbrev pub flag_and_node : Window
flag_and_node = record { kept = 1; fired = 0; families = family sort.Truth 0 ∷ family sort.Node 0 ∷ [] }

-- One value takes no bit, two take one; a sort of 256 values that may be undefined takes nine.
abbrev pub WidthsAreAsWorked : Type 0
WidthsAreAsWorked =
    (map width (0 ∷ 1 ∷ 2 ∷ 3 ∷ 4 ∷ 5 ∷ 256 ∷ 257 ∷ []) ≡ 0 ∷ 0 ∷ 1 ∷ 2 ∷ 2 ∷ 3 ∷ 8 ∷ 9 ∷ [])
    × (bits_of 4 6 ≡ false ∷ true ∷ true ∷ false ∷ [])

-- The flag is undefined, false or true, in two bits; the node is undefined, the kept one or Other, in two more.
abbrev pub CodesAreAsWorked : Type 0
CodesAreAsWorked =
    (cell_lists flag_and_node
    ≡ (Undefined ∷ Truth false ∷ Truth true ∷ []) ∷ (Undefined ∷ Node (Kept 1) ∷ Node Other ∷ []) ∷ [])
    × (bit_count (cell_lists flag_and_node) ≡ 4)
    × (coded_state (inputs_of (true ∷ false ∷ false ∷ true ∷ [])) 0 (cell_lists flag_and_node) ≡ Truth false ∷ Node Other ∷ [])
    × (coded_state (inputs_of (true ∷ true ∷ false ∷ true ∷ true ∷ false ∷ [])) 2 (cell_lists flag_and_node) ≡ Truth true ∷ Node (Kept 1) ∷ [])
    × (is_legal (inputs_of (true ∷ false ∷ false ∷ true ∷ [])) 0 (cell_lists flag_and_node) ≡ true)
    × (is_legal (inputs_of (true ∷ false ∷ true ∷ true ∷ [])) 0 (cell_lists flag_and_node) ≡ false)

-- German's protocol: state and data of each node's cache, command and data of its three channels, two sets; and for
-- all nodes a flag, a command, a pointer and two data
abbrev pub german : ℕ → Window
german fired = record {
  kept = 2;
  fired = fired;
  families =
      family (sort.Members 0 3) 1
      ∷ family (sort.Members 1 2) 1
      ∷ family (sort.Members 2 7) 1
      ∷ family (sort.Members 1 2) 1
      ∷ family (sort.Members 2 7) 1
      ∷ family (sort.Members 1 2) 1
      ∷ family (sort.Members 2 7) 1
      ∷ family (sort.Members 1 2) 1
      ∷ family sort.Truth 1
      ∷ family sort.Truth 1
      ∷ family sort.Truth 0
      ∷ family (sort.Members 2 7) 0
      ∷ family sort.Node 0
      ∷ family (sort.Members 1 2) 0
      ∷ family (sort.Members 1 2) 0
      ∷ [];
}

-- Its two kept nodes take 57 bits, and with a fired node 81, since the pointer then takes one more.
abbrev pub BitsAreAsCounted : Type 0
BitsAreAsCounted = (bit_count (cell_lists (german 0)) ≡ 57) × (bit_count (cell_lists (german 1)) ≡ 81)

-- A choice of nodes, and what a state is in its window.
use Rattle.std.specs.Prelude.{ℕ, zero, suc, ◌-◌, ◌≤◌, Bool, true, ◌&&◌, nat_eq, nat_lt, List, [], ◌∷◌, ◌++◌, map, length, if◌then◌else◌, IsTrue}
use Rattle.std.specs.List.{slice_index_or}
use Rattle.term_core.specs.declared.value.Value.{Value}
use Rattle.term_core.specs.declared.value.Value.TheVariants as v
use Rattle.term_core.specs.declared.machine.CellFamily.{CellFamily}
use Rattle.term_core.specs.Nodes.{AreNodes}
use Rattle.term_core.specs.Meaning.{Cells}
use Rattle.other_abstract.specs.declared.node.AbsNode.{AbsNode}
use Rattle.other_abstract.specs.declared.value.AbsValue.{AbsValue}
use Rattle.other_abstract.specs.declared.value.AbsValue.TheVariants.{Node}
use Rattle.other_abstract.specs.Windows.{Window, numbered_node, constant}
use Rattle.term_core.specs.Cells.{table}
use Rattle.other_abstract.specs.May.{AbsCells}

-- the place of a node in a list, from 1 on, and 0 where it is not there
abbrev pub later : ℕ → ℕ
later zero = zero
later (suc k) = suc (suc k)

abbrev pub place_in : List ℕ → ℕ → ℕ
place_in [] n = 0
place_in (x ∷ xs) n = if nat_eq n x then 1 else later (place_in xs n)

-- whether a node is in a list
abbrev pub is_chosen : List ℕ → ℕ → Bool
is_chosen c n = nat_lt 0 (place_in c n)

-- no node stands twice
abbrev pub are_distinct : List ℕ → Bool
are_distinct [] = true
are_distinct (x ∷ xs) = nat_eq (place_in xs x) 0 && are_distinct xs

-- a choice of nodes, the first m of which are kept
pub record IsChoice (N m : ℕ) (c : List ℕ) : Type 0 where
  pub nodes : AreNodes N c
  pub once : IsTrue (are_distinct c)
  pub kept : m ≤ length c

-- the node that stands at a place, from 1 on
abbrev pub node_at : List ℕ → ℕ → ℕ
node_at c k = slice_index_or c (k - 1) 0

-- what a node is called in the window of a choice, of which the first m are kept
abbrev pub renamed_node : ℕ → List ℕ → ℕ → AbsNode
renamed_node m c n = numbered_node m (place_in c n)

abbrev pub renamed : ℕ → List ℕ → Value → AbsValue
renamed m c (v.Node n) = Node (renamed_node m c n)
renamed m c x = constant x

-- the window of a choice
abbrev pub window_of : ℕ → List CellFamily → List ℕ → Window
window_of m families c = record { kept = m; fired = length c - m; families = families }

-- the cells at chosen nodes, with their values renamed
abbrev pub image : ℕ → List CellFamily → List ℕ → Cells → AbsCells
image m families c cells = table (length c) families (λ f at. renamed m c (cells f (map (node_at c) at)))

-- a choice, and after it the nodes that it lacks, in the order of their first use
abbrev pub extended : List ℕ → List ℕ → List ℕ
extended c [] = c
extended c (n ∷ ns) = if nat_eq (place_in c n) 0 then extended (c ++ n ∷ []) ns else extended c ns

-- the pattern of a firing under kept nodes
abbrev pub pattern_of : ℕ → List ℕ → List ℕ → List AbsNode
pattern_of m c p = map (renamed_node m (extended c p)) p

-- Windows: m kept nodes and some fired ones. Every node that is none of them is Other.
use Rattle.std.specs.Prelude.{ℕ, zero, suc, ◌+◌, ◌-◌, Bool, true, false, ◌&&◌, not, nat_eq, nat_lt, int_le, ℤ, pos, List, [], ◌∷◌, if◌then◌else◌, slice_get}
use Rattle.std.specs.List.{list_any}
use Rattle.std.specs.Option.{option_map_or}
use Rattle.term_core.specs.declared.value.Value.{Value}
use Rattle.term_core.specs.declared.value.Value.TheVariants as v
use Rattle.term_core.specs.declared.value.Sort.{Sort}
use Rattle.term_core.specs.declared.value.Sort.TheVariants as sort
use Rattle.term_core.specs.declared.machine.CellFamily.{CellFamily}
use Rattle.term_core.specs.Nodes.{is_node}
use Rattle.term_core.specs.Values.{same_truth, same_number}
use Rattle.other_abstract.specs.declared.node.AbsNode.{AbsNode}
use Rattle.other_abstract.specs.declared.node.AbsNode.TheVariants.{Kept, Fired, Other}
use Rattle.other_abstract.specs.declared.value.AbsValue.{AbsValue}
use Rattle.other_abstract.specs.declared.value.AbsValue.TheVariants.{Undefined, Truth, Number, Member, Node}

pub record Window : Type 0 where
  pub kept : ℕ
  pub fired : ℕ
  pub families : List CellFamily

-- how many nodes a window has
abbrev pub size : Window → ℕ
size W = W.kept + W.fired

-- the number of a node in a window of so many kept nodes: kept ones from 1 up, fired ones after them, 0 for Other
abbrev pub node_number : ℕ → AbsNode → ℕ
node_number m (Kept k) = k
node_number m (Fired k) = m + k
node_number m Other = 0

-- the node of a number
abbrev pub numbered_node : ℕ → ℕ → AbsNode
numbered_node m zero = Other
numbered_node m (suc k) = if nat_lt k m then Kept (suc k) else Fired (suc k - m)

-- whether this is a node of the window, and whether it is one of them or Other
abbrev pub is_in_window : Window → AbsNode → Bool
is_in_window W (Kept k) = is_node W.kept k
is_in_window W (Fired k) = is_node W.fired k
is_in_window W Other = false

abbrev pub is_abs_node : Window → AbsNode → Bool
is_abs_node W (Kept k) = is_node W.kept k
is_abs_node W (Fired k) = is_node W.fired k
is_abs_node W Other = true

abbrev pub truth : AbsValue → Bool
truth (Truth b) = b
truth _ = false

abbrev pub number : AbsValue → ℤ
number (Number z) = z
number _ = pos 0

abbrev pub same_node : AbsNode → AbsNode → Bool
same_node (Kept a) (Kept b) = nat_eq a b
same_node (Fired a) (Fired b) = nat_eq a b
same_node Other Other = true
same_node _ _ = false

abbrev pub same_value : AbsValue → AbsValue → Bool
same_value Undefined Undefined = true
same_value (Truth a) (Truth b) = same_truth a b
same_value (Number a) (Number b) = same_number a b
same_value (Member kind a) (Member other b) = nat_eq kind other && nat_eq a b
same_value (Node a) (Node b) = same_node a b
same_value _ _ = false

-- whether each value stands once in a list
abbrev pub each_once : List AbsValue → Bool
each_once [] = true
each_once (x ∷ xs) = not (list_any (same_value x) xs) && each_once xs

-- a constant; no constant of a term is a node
abbrev pub constant : Value → AbsValue
constant v.Undefined = Undefined
constant (v.Truth b) = Truth b
constant (v.Number z) = Number z
constant (v.Member kind index) = Member kind index
constant (v.Node n) = Undefined

-- whether a value is of a sort, in a window
abbrev pub is_of_sort : Window → Sort → AbsValue → Bool
is_of_sort W sort.Truth (Truth b) = true
is_of_sort W (sort.Range low high) (Number z) = int_le low z && int_le z high
is_of_sort W (sort.Members kind count) (Member other index) = nat_eq kind other && nat_lt index count
is_of_sort W sort.Node (Node n) = is_abs_node W n
is_of_sort W _ _ = false

-- whether a cell of the family of this number may have a value
abbrev pub family_may_have : Window → CellFamily → AbsValue → Bool
family_may_have W family Undefined = family.undefined
family_may_have W family x = is_of_sort W family.sort x

abbrev pub may_have : Window → ℕ → AbsValue → Bool
may_have W f x = option_map_or (λ family. family_may_have W family x) (slice_get W.families f) false

-- whether a value is undefined or of the sort of the family
abbrev pub is_any_value : Window → ℕ → AbsValue → Bool
is_any_value W f Undefined = true
is_any_value W f x = option_map_or (λ family. is_of_sort W family.sort x) (slice_get W.families f) false

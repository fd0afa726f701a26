-- Values, and what operators make of them. A value of a wrong kind counts as false or as 0.
use Rattle.std.specs.Prelude.{ℕ, suc, Bool, true, false, ◌&&◌, not, nat_eq, nat_lt, ◌^◌, ℤ, pos, negsuc, ◌+ℤ◌, ◌-ℤ◌, ◌*ℤ◌, int_le, int_div, int_rem, if◌then◌else◌, List, [], ◌∷◌, map}
use Rattle.term_core.specs.declared.value.Value.{Value}
use Rattle.term_core.specs.declared.value.Value.TheVariants.{Undefined, Truth, Number, Member, Node}
use Rattle.term_core.specs.declared.value.Sort.{Sort}
use Rattle.term_core.specs.declared.value.Sort.TheVariants as sort
use Rattle.term_core.specs.declared.value.ArithOp.{ArithOp}
use Rattle.term_core.specs.declared.value.ArithOp.TheVariants.{Add, Subtract, Times, Divide, Modulo}
use Rattle.term_core.specs.Nodes.{is_node, nodes_from, nodes}

-- the truth of a value
abbrev pub truth : Value → Bool
truth (Truth b) = b
truth _ = false

-- the number of a value
abbrev pub number : Value → ℤ
number (Number z) = z
number _ = pos 0

abbrev pub same_truth : Bool → Bool → Bool
same_truth true b = b
same_truth false b = not b

abbrev pub same_number : ℤ → ℤ → Bool
same_number (pos a) (pos b) = nat_eq a b
same_number (negsuc a) (negsuc b) = nat_eq a b
same_number _ _ = false

-- whether two values are one: undefined is the same as undefined
abbrev pub same_value : Value → Value → Bool
same_value Undefined Undefined = true
same_value (Truth a) (Truth b) = same_truth a b
same_value (Number a) (Number b) = same_number a b
same_value (Member kind a) (Member other b) = nat_eq kind other && nat_eq a b
same_value (Node a) (Node b) = nat_eq a b
same_value _ _ = false

-- whether a result is one that a number may have, from -32,768 to 32,767
abbrev pub is_number : ℤ → Bool
is_number (pos a) = nat_lt a (2 ^ 15)
is_number (negsuc a) = nat_lt a (2 ^ 15)

-- a result, where it is one that a number may have; else 0
abbrev pub in_range : ℤ → ℤ
in_range z = if is_number z then z else pos 0

abbrev pub is_zero : ℤ → Bool
is_zero z = same_number z (pos 0)

-- the result of an operator; quotients go toward 0, and a zero divisor gives 0
abbrev pub arith : ArithOp → ℤ → ℤ → ℤ
arith Add a b = in_range (a +ℤ b)
arith Subtract a b = in_range (a -ℤ b)
arith Times a b = in_range (a *ℤ b)
arith Divide a b = if is_zero b then pos 0 else in_range (int_div a b)
arith Modulo a b = if is_zero b then pos 0 else in_range (int_rem a b)

-- whether a value is of a sort, with N nodes
abbrev pub is_of_sort : ℕ → Sort → Value → Bool
is_of_sort N sort.Truth (Truth b) = true
is_of_sort N (sort.Range low high) (Number z) = int_le low z && int_le z high
is_of_sort N (sort.Members kind count) (Member other index) = nat_eq kind other && nat_lt index count
is_of_sort N sort.Node (Node n) = is_node N n
is_of_sort N _ _ = false

-- the numbers from 0 up, below this one
abbrev pub below : ℕ → List ℕ
below count = nodes_from 0 count

-- how many whole numbers there are from one to another, given the second less the first
abbrev pub spanned : ℤ → ℕ
spanned (pos n) = suc n
spanned (negsuc n) = 0

-- the values of a sort in order, with N nodes: false and true, the numbers of a range, the members of a kind,
-- the nodes
abbrev pub values_of_sort : ℕ → Sort → List Value
values_of_sort N sort.Truth = Truth false ∷ Truth true ∷ []
values_of_sort N (sort.Range low high) = map (λ k. Number (low +ℤ pos k)) (below (spanned (high -ℤ low)))
values_of_sort N (sort.Members kind count) = map (λ index. Member kind index) (below count)
values_of_sort N sort.Node = map (λ n. Node n) (nodes N)

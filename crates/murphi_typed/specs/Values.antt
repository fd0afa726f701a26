-- Values of simple types, with N nodes.
use Rattle.std.specs.Prelude.{ℕ, zero, suc, Bool, true, false, List, [], ◌∷◌, map, ℤ, pos, negsuc, ◌+ℤ◌, ◌-ℤ◌}
use Rattle.term_core.specs.declared.value.Value.{Value}
use Rattle.term_core.specs.declared.value.Value.TheVariants as value
use Rattle.term_core.specs.declared.value.Sort.{Sort}
use Rattle.term_core.specs.declared.value.Sort.TheVariants as sort
use Rattle.term_core.specs.Nodes.{nodes, nodes_from}
use Rattle.term_core.specs.Values.{is_of_sort}
use Rattle.murphi_typed.specs.declared.types.Simple.{Simple}
use Rattle.murphi_typed.specs.declared.types.Simple.TheVariants as simple

-- what the cells of a simple type hold besides undefined: an enum and a scalarset of a written size are
-- kinds of members alike
abbrev pub sort_of : Simple → Sort
sort_of simple.Truth = sort.Truth
sort_of (simple.Range low high) = sort.Range low high
sort_of (simple.Listed kind count) = sort.Members kind count
sort_of (simple.Scalarset kind count) = sort.Members kind count
sort_of simple.Node = sort.Node

-- whether a value is one of a simple type; undefined is none
abbrev pub is_value : ℕ → Simple → Value → Bool
is_value N type v = is_of_sort N (sort_of type) v

-- whether a cell of a simple type may have a value: undefined, or one of the type
abbrev pub may_hold : ℕ → Simple → Value → Bool
may_hold N type value.Undefined = true
may_hold N type v = is_value N type v

-- so many whole numbers upward, from this one on
abbrev pub numbers_from : ℤ → ℕ → List ℤ
numbers_from low zero = []
numbers_from low (suc count) = low ∷ numbers_from (low +ℤ pos 1) count

-- how many whole numbers there are up to a bound, by how far the bound is from the first of them
abbrev pub numbers_within : ℤ → ℕ
numbers_within (pos far) = suc far
numbers_within (negsuc far) = 0

-- the members of a kind in order: they are numbered from 0
abbrev pub members : ℕ → ℕ → List Value
members kind count = map (λ index. value.Member kind index) (nodes_from 0 count)

-- the values of a simple type in their order: `false` then `true`, numbers upward, enum names in order,
-- members and nodes from 1 upward
abbrev pub values : ℕ → Simple → List Value
values N simple.Truth = value.Truth false ∷ value.Truth true ∷ []
values N (simple.Range low high) = map value.Number (numbers_from low (numbers_within (high -ℤ low)))
values N (simple.Listed kind count) = members kind count
values N (simple.Scalarset kind count) = members kind count
values N simple.Node = map value.Node (nodes N)

-- what `clear` gives a cell: `false`, the low bound or the first enum name; a cell of a scalarset becomes
-- undefined
abbrev pub cleared_value : Simple → Value
cleared_value simple.Truth = value.Truth false
cleared_value (simple.Range low high) = value.Number low
cleared_value (simple.Listed kind count) = value.Member kind 0
cleared_value (simple.Scalarset kind count) = value.Undefined
cleared_value simple.Node = value.Undefined

-- The nodes of a machine: with N nodes they are the numbers from 1 to N.
use Rattle.std.specs.Prelude.{ℕ, zero, suc, Bool, ◌&&◌, nat_le, List, [], ◌∷◌, map, IsTrue}
use Rattle.std.specs.List.{flat_map, list_all}

-- whether this is one of N nodes
abbrev pub is_node : ℕ → ℕ → Bool
is_node N n = nat_le 1 n && nat_le n N

-- each of these is one of N nodes
abbrev pub AreNodes : ℕ → List ℕ → Type 0
AreNodes N ns = IsTrue (list_all (is_node N) ns)

-- so many nodes in order, from this one on
abbrev pub nodes_from : ℕ → ℕ → List ℕ
nodes_from first zero = []
nodes_from first (suc count) = first ∷ nodes_from (suc first) count

-- the nodes in order
abbrev pub nodes : ℕ → List ℕ
nodes N = nodes_from 1 N

-- the lists of so many nodes, the first node slowest
abbrev pub choices : ℕ → ℕ → List (List ℕ)
choices N zero = [] ∷ []
choices N (suc count) = flat_map (λ n. map (λ ns. n ∷ ns) (choices N count)) (nodes N)

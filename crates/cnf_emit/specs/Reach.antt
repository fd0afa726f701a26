-- Which nodes the roots of a circuit stand on, as sets of nodes and as marks.
use Rattle.std.specs.Prelude.{◌≡◌, ℕ, ◌+◌, ◌*◌, ◌<◌, ◌≤◌, ◌&&◌, Bool, true, false, List, [], ◌∷◌, length, All}
use Rattle.std.specs.List.{slice_index_or}
use Rattle.circuit_core.specs.declared.edge.Edge.{Edge}
use Rattle.circuit_core.specs.declared.edge.Gate.{Gate}
use Rattle.circuit_core.specs.declared.edge.Gate.TheVariants.{Input, And}
use Rattle.circuit_core.specs.Edges.{node_of}

-- whether a node is marked
abbrev pub is_marked : List Bool → ℕ → Bool
is_marked marks n = slice_index_or marks n false

-- the node that an edge comes from is marked
abbrev pub IsMarked : List Bool → Edge → Type 0
IsMarked marks e = is_marked marks (node_of e) ≡ true

-- a set of nodes has those that a gate stands on
abbrev pub HasNodes : (ℕ → Bool) → Gate → Type 0
HasNodes p (Input k) = Unit {0}
HasNodes p (And a b) = (p (node_of a) ≡ true) × (p (node_of b) ≡ true)

-- A set of nodes has, with each of its gates, those that the gate stands on. The gate at place n is
-- node n + 1.
abbrev pub IsClosedSet : List Gate → (ℕ → Bool) → Type 0
IsClosedSet gates p =
    (n : ℕ) (d : Gate) → n < length gates → p (n + 1) ≡ true → HasNodes p (slice_index_or gates n d)

-- a set of nodes has those that edges come from
abbrev pub HasRoots : (ℕ → Bool) → List Edge → Type 0
HasRoots p roots = All (λ e. p (node_of e) ≡ true) roots

-- a set of nodes has all that are marked
abbrev pub IsWithin : List Bool → (ℕ → Bool) → Type 0
IsWithin marks p = (n : ℕ) → is_marked marks n ≡ true → p n ≡ true

-- Whether a gate needs a variable of its own: a conjunction does, and an input has one.
abbrev pub is_conjunction : Gate → Bool
is_conjunction (Input k) = false
is_conjunction (And a b) = true

abbrev pub one_if : Bool → ℕ
one_if true = 1
one_if false = 0

-- how many of these gates are conjunctions of a set of nodes, where the first is node n
abbrev pub conjunctions_in : (ℕ → Bool) → ℕ → List Gate → ℕ
conjunctions_in p n [] = 0
conjunctions_in p n (g ∷ gates) = one_if (p n && is_conjunction g) + conjunctions_in p (n + 1) gates

-- how many nodes of a set need a variable of their own: the constant, and each conjunction
unfoldable pub own_variables : (ℕ → Bool) → List Gate → ℕ
own_variables p gates = one_if (p 0) + conjunctions_in p 1 gates

-- how many clauses define the nodes of a set: one the constant, and three each conjunction
unfoldable pub own_clauses : (ℕ → Bool) → List Gate → ℕ
own_clauses p gates = one_if (p 0) + 3 * conjunctions_in p 1 gates

-- the nodes that a gate stands on are marked
abbrev pub HasMarks : List Bool → Gate → Type 0
HasMarks marks g = HasNodes (is_marked marks) g

-- With each marked gate from the place i on, the nodes that it stands on are marked. The gate at
-- place n is node n + 1.
abbrev pub IsClosedFrom : ℕ → List Gate → List Bool → Type 0
IsClosedFrom i gates marks =
    (n : ℕ) (d : Gate) → i ≤ n → n < length gates → is_marked marks (n + 1) ≡ true → HasMarks marks (slice_index_or gates n d)

-- a gate stands on nodes up to n alone
abbrev pub StandsOnUpTo : ℕ → Gate → Type 0
StandsOnUpTo n (Input k) = Unit {0}
StandsOnUpTo n (And a b) = (node_of a ≤ n) × (node_of b ≤ n)

-- marks only come in, and those above a node stay
pub record Marks (old new : List Bool) (n : ℕ) : Type 0 where
  pub kept : (k : ℕ) → is_marked old k ≡ true → is_marked new k ≡ true
  pub above : (k : ℕ) → n < k → is_marked new k ≡ is_marked old k

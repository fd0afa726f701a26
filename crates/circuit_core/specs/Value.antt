-- The values of nodes and edges under an assignment of the inputs, which gives input k the value x k.
-- (And-inverter graphs: Kuehlmann and Krohm.)
use Rattle.std.specs.Prelude.{ℕ, ◌<◌, Bool, false, not, ◌&&◌, ◌≡◌, List, [], ◌∷◌, ◌++◌, fold, if◌then◌else◌}
use Rattle.std.specs.List.{slice_index_or}
use Rattle.circuit_core.specs.declared.edge.Edge.{Edge}
use Rattle.circuit_core.specs.declared.edge.Gate.{Gate}
use Rattle.circuit_core.specs.declared.edge.Gate.TheVariants.{Input, And}
use Rattle.circuit_core.specs.Edges.{node_of, is_negated}
use Rattle.circuit_core.specs.Network.{Network}

-- the value of an edge, by the values of the nodes from 0 on
abbrev pub edge_among : List Bool → Edge → Bool
edge_among values e =
    if is_negated e then not (slice_index_or values (node_of e) false) else slice_index_or values (node_of e) false

-- the value of a gate, by the values of the earlier nodes
abbrev pub gate_among : (ℕ → Bool) → List Bool → Gate → Bool
gate_among x values (Input k) = x k
gate_among x values (And a b) = edge_among values a && edge_among values b

-- the value of one more gate, after those of the earlier nodes
abbrev pub with_gate : (ℕ → Bool) → List Bool → Gate → List Bool
with_gate x values g = values ++ gate_among x values g ∷ []

-- The values of all nodes, in order: that of node 0 is false, and each gate has its own from the
-- nodes before it.
abbrev pub node_values : (ℕ → Bool) → List Gate → List Bool
node_values x gates = fold (with_gate x) (false ∷ []) gates

-- the values of a node, of an edge and of a gate of a circuit
unfoldable pub node_value : Network → (ℕ → Bool) → ℕ → Bool
node_value c x n = slice_index_or (node_values x c.gates) n false

unfoldable pub edge_value : Network → (ℕ → Bool) → Edge → Bool
edge_value c x e = edge_among (node_values x c.gates) e

abbrev pub gate_value : Network → (ℕ → Bool) → Gate → Bool
gate_value c x (Input k) = x k
gate_value c x (And a b) = edge_value c x a && edge_value c x b

-- two assignments agree on the inputs below n
abbrev pub SameBelow : ℕ → (ℕ → Bool) → (ℕ → Bool) → Type 0
SameBelow n x y = (k : ℕ) → k < n → x k ≡ y k

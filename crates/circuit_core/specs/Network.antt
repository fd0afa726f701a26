-- What callers see of a circuit, and what each circuit keeps.
use Rattle.std.specs.Prelude.{ℕ, ◌^◌, ◌<◌, ◌≤◌, List, length}
use Rattle.std.specs.List.{slice_index_or}
use Rattle.circuit_core.specs.declared.edge.Edge.{Edge}
use Rattle.circuit_core.specs.declared.edge.Gate.{Gate}
use Rattle.circuit_core.specs.declared.edge.Gate.TheVariants.{Input, And}
use Rattle.circuit_core.specs.Edges.{node_of}

-- A circuit: how many inputs it has, and its gates in order. Node 0 is the constant false, and the
-- gate at place n is node n + 1.
pub record Network : Type 0 where
  pub inputs : ℕ
  pub gates : List Gate

-- the edge comes from a node of the circuit
abbrev pub IsEdge : Network → Edge → Type 0
IsEdge c e = node_of e ≤ length c.gates

-- what a gate may name at the place n: an input of the circuit, or edges of earlier nodes
abbrev pub IsGateAt : ℕ → ℕ → Gate → Type 0
IsGateAt inputs n (Input k) = k < inputs
IsGateAt inputs n (And a b) = (node_of a ≤ n) × (node_of b ≤ n)

-- What each circuit keeps: gates name inputs of the circuit and earlier nodes, each input has a gate,
-- and each edge a code of 32 bits.
pub record IsNetwork (inputs : ℕ) (gates : List Gate) : Type 0 where
  pub earlier : (n : ℕ) (d : Gate) → n < length gates → IsGateAt inputs n (slice_index_or gates n d)
  pub few : inputs ≤ length gates
  pub count : length gates < 2 ^ 31

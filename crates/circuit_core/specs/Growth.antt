-- What a call leaves of the circuit that was there, and what a choice can give.
use Rattle.std.specs.Prelude.{ℕ, ◌≤◌, ◌<◌, ◌≡◌, Bool, length, take}
use Rattle.circuit_core.specs.declared.edge.Edge.{Edge}
use Rattle.circuit_core.specs.Network.{Network, IsEdge}
use Rattle.circuit_core.specs.Value.{edge_value}

-- The old edges are edges of the new circuit, and keep their values.
pub record KeepsEdges (old new : Network) : Type 0 where
  pub edges : (e : Edge) → IsEdge old e → IsEdge new e
  pub values : (x : ℕ → Bool) (e : Edge) → IsEdge old e → edge_value new x e ≡ edge_value old x e

-- The old gates stand first in the new circuit, and its inputs are still there.
pub record Grows (old new : Network) : Type 0 where
  pub gates : take (length old.gates) new.gates ≡ old.gates
  pub inputs : old.inputs ≤ new.inputs

-- two assignments agree on the inputs from n on and below m
abbrev pub SameBetween : ℕ → ℕ → (ℕ → Bool) → (ℕ → Bool) → Type 0
SameBetween n m x y = (k : ℕ) → n ≤ k → k < m → x k ≡ y k

-- Where the new inputs are as y has them, r has the value of the old edge e, whatever the old inputs are.
abbrev pub Picks : Network → Network → Edge → (ℕ → Bool) → Edge → Type 0
Picks old new r y e =
    (x : ℕ → Bool) → SameBetween old.inputs new.inputs x y → edge_value new x r ≡ edge_value old x e

-- for some values of the new inputs r has the value of e, whatever the old inputs are
abbrev pub CanBe : Network → Network → Edge → Edge → Type 0
CanBe old new r e = (y : ℕ → Bool) × Picks old new r y e

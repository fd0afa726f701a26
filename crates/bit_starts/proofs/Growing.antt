-- What stays as a circuit grows.
use Rattle.std.proofs.Common.{ℕ, Bool, List, refl, ◌∙◌}
use Rattle.circuit_core.specs.declared.edge.Edge.{Edge}
use Rattle.circuit_core.specs.Network.{Network, IsEdge}
use Rattle.circuit_core.specs.Growth.{KeepsEdges}
use Rattle.bit_encode.specs.declared.set.Possible.{Possible}
use Rattle.bit_encode.specs.MaySets.{Agrees, HasEdges}

pub keeps_all : (a b c : Network) → KeepsEdges a b → KeepsEdges b c → KeepsEdges a c
keeps_all a b c k l = record {
  edges = λ e h. l.edges e (k.edges e h);
  values = λ x e h. l.values x e (k.edges e h) ∙ k.values x e h;
}

pub keeps_self : (a : Network) → KeepsEdges a a
keeps_self a = record { edges = λ e h. h; values = λ x e h. refl }

pub agrees_before : (old new : Network) (x : ℕ → Bool) (val : Edge → Bool) → KeepsEdges old new → Agrees new x val → Agrees old x val
agrees_before old new x val k a = record { at = λ e h. a.at e (k.edges e h) ∙ k.values x e h }

pub edges_after : (old new : Network) (s : List Possible) → KeepsEdges old new → HasEdges old s → HasEdges new s
edges_after old new s k h n d l = k.edges _ (h n d l)

pub edge_after : (old new : Network) (e : Edge) → KeepsEdges old new → IsEdge old e → IsEdge new e
edge_after old new e k h = k.edges e h

pub ruleset growing = (keeps_all, keeps_self, agrees_before, edges_after, edge_after)

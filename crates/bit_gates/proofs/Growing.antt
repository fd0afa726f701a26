-- What stays as a circuit grows.
use Rattle.std.proofs.Common.{◌≡◌, ℕ, Bool, true, false, not, cond, ◌&&◌, ◌||◌, List, refl, sym, ap, ◌∙◌}
use Rattle.term_core.specs.Values.{same_truth}
use Rattle.circuit_core.specs.Value.{edge_value}
use Rattle.circuit_core.specs.declared.edge.Edge.{Edge}
use Rattle.circuit_core.specs.Network.{Network, IsEdge}
use Rattle.circuit_core.specs.Growth.{KeepsEdges}
use Rattle.bit_encode.specs.declared.set.Possible.{Possible}
use Rattle.bit_encode.specs.MaySets.{Agrees, HasEdges}

pub keeps_all : (a b c : Network) → KeepsEdges a b → KeepsEdges b c → KeepsEdges a c
keeps_all a b c k l = record {
  edges = λ e h. l.edges e (k.edges e h);
  values = λ x e h. l.values x e (k.edges e h) ∙ k.values x e h;
}

pub keeps_self : (a : Network) → KeepsEdges a a
keeps_self a = record { edges = λ e h. h; values = λ x e h. refl }

pub agrees_before : (old new : Network) (x : ℕ → Bool) (val : Edge → Bool) → KeepsEdges old new → Agrees new x val → Agrees old x val
agrees_before old new x val k a = record { at = λ e h. a.at e (k.edges e h) ∙ k.values x e h }

pub edges_after : (old new : Network) (s : List Possible) → KeepsEdges old new → HasEdges old s → HasEdges new s
edges_after old new s k h n d l = k.edges _ (h n d l)

pub edge_after : (old new : Network) (e : Edge) → KeepsEdges old new → IsEdge old e → IsEdge new e
edge_after old new e k h = k.edges e h

-- two edges of one value
pub same_told : (old new : Network) (a b n e : Edge) → KeepsEdges old new → IsEdge old a → IsEdge old b → IsEdge new e → ((x : ℕ → Bool) → edge_value new x e ≡ cond (edge_value old x a) (edge_value old x b) (edge_value old x n))
    → ((c : Network) (x : ℕ → Bool) → edge_value c x n ≡ not (edge_value c x b)) → (x : ℕ → Bool) (val : Edge → Bool) → Agrees new x val → val e ≡ same_truth (val a) (val b)
same_told old new a b n e k ea eb ee value opposite x val agrees =
    let before : Agrees old x val = agrees_before old new x val k agrees in
    agrees.at e ee ∙ value x ∙ ap (cond (edge_value old x a) (edge_value old x b)) (opposite old x) ∙ go (edge_value old x a) (edge_value old x b)
    ∙ sym (ap (λ v. same_truth v (val b)) (before.at a ea) ∙ ap (same_truth (edge_value old x a)) (before.at b eb))
  where
    go : (u v : Bool) → cond u v (not v) ≡ same_truth u v
    go true v = refl
    go false v = refl

-- one more choice
pub choice_told : (c0 c1 c2 c3 : Network) (any holds here one e : Edge) (m : (Edge → Bool) → Bool) → KeepsEdges c1 c2 → KeepsEdges c2 c3
    → ((x : ℕ → Bool) (val : Edge → Bool) → Agrees c1 x val → val here ≡ m val) → ((x : ℕ → Bool) (val : Edge → Bool) → Agrees c2 x val → val one ≡ (val holds && val here))
    → ((x : ℕ → Bool) (val : Edge → Bool) → Agrees c3 x val → val e ≡ (val any || val one)) → (x : ℕ → Bool) (val : Edge → Bool) → Agrees c3 x val → val e ≡ (val any || (val holds && m val))
choice_told c0 c1 c2 c3 any holds here one e m k l is both either x val a3 =
    let a2 : Agrees c2 x val = agrees_before c2 c3 x val l a3 in
    either x val a3 ∙ ap (λ b. val any || b) (both x val a2 ∙ ap (λ b. val holds && b) (is x val (agrees_before c1 c2 x val k a2)))

pub ruleset growing = (keeps_all, keeps_self, agrees_before, edges_after, edge_after)

-- The values of edges: their negations, the constant, and the edges of gates.
use Rattle.std.proofs.Common.{◌≡◌, ℕ, ◌+◌, ◌*◌, ◌/◌, ◌%◌, ◌<◌, ◌≤◌, ◌&&◌, Bool, true, false, not, [], ◌∷◌, ◌++◌, length, get_or, take, cond, eqb, refl, sym, ◌∙◌, ap, arith}
use Rattle.std.proofs.lemmas.List.{length-take}
use Rattle.std.proofs.Math.Seq.{take-append_seam}
use Rattle.std.proofs.lemmas.Bool.Decides.{nat_tests}
use Rattle.circuit_core.specs.declared.edge.Edge.{Edge}
use Rattle.circuit_core.specs.declared.edge.Gate.{Gate}
use Rattle.circuit_core.specs.declared.edge.Gate.TheVariants.{Input, And}
use Rattle.circuit_core.specs.Edges.{node_of, is_negated}
use Rattle.circuit_core.specs.Network.{Network, IsNetwork}
use Rattle.circuit_core.specs.Value.{edge_among, gate_among, node_values, node_value, edge_value, gate_value, SameBelow}
use Rattle.circuit_core.specs.Growth.{KeepsEdges, Grows}
use Rattle.circuit_core.proofs.ValueLemmas.{kept_value, kept_edge, last_value, value_at, same_values}

not_cond : (b v : Bool) → cond (not b) (not v) v ≡ not (cond b (not v) v)
not_cond true true = refl
not_cond true false = refl
not_cond false true = refl
not_cond false false = refl

-- the negation of an edge
pub negated_value : (e r : Edge) → node_of r ≡ node_of e → is_negated r ≡ not (is_negated e) → (c : Network) (x : ℕ → Bool) → edge_value c x r ≡ not (edge_value c x e)
unfolding edge_value
negated_value e r node sign c x =
    let v : Bool = get_or (node_values x c.gates) (node_of e) false in
    ap (λ n. cond (is_negated r) (not (get_or (node_values x c.gates) n false)) (get_or (node_values x c.gates) n false)) node
    ∙ ap (λ b. cond b (not v) v) sign
    ∙ not_cond (is_negated e) v

-- node 0 is false
pub constant_value : (c : Network) (x : ℕ → Bool) → node_value c x 0 ≡ false
unfolding node_value
constant_value c x = kept_value x [] c.gates 0 refl (omega arith)

-- an edge that is not negated has its node's value
pub plain_value : (c : Network) (x : ℕ → Bool) (e : Edge) → is_negated e ≡ false → edge_value c x e ≡ node_value c x (node_of e)
unfolding edge_value node_value
plain_value c x e sign = ap (λ b. cond b (not (get_or (node_values x c.gates) (node_of e) false)) (get_or (node_values x c.gates) (node_of e) false)) sign

pub falsity_value : (c : Network) (x : ℕ → Bool) (e : Edge) → e.code ≡ 0 → edge_value c x e ≡ false
falsity_value c x e zero_code =
    let node : node_of e ≡ 0 = ap (λ k. k / 2) zero_code in
    plain_value c x e (ap (λ k. eqb (k % 2) 1) zero_code) ∙ ap (node_value c x) node ∙ constant_value c x

pub truth_value : (c : Network) (x : ℕ → Bool) (e : Edge) → e.code ≡ 1 → edge_value c x e ≡ true
truth_value c x e one_code =
    let falsity : Edge = record { code = 0 } in
    negated_value falsity e (ap (λ k. k / 2) one_code) (ap (λ k. eqb (k % 2) 1) one_code) c x
    ∙ ap not (falsity_value c x falsity refl)

-- What keeps the old gates in place keeps the old edges and their values.
pub keeps_edges : (old new : Network) → Grows old new → KeepsEdges old new
unfolding edge_value
keeps_edges old new g = record {
  edges = λ e h. omega (arith, length-take (length old.gates) new.gates, ap length g.gates);
  values = λ x e h. kept_edge x old.gates new.gates e g.gates h;
}

-- Keeping edges goes on.
pub keeps_same : (c : Network) → KeepsEdges c c
keeps_same c = record { edges = λ e h. h; values = λ x e h. refl }

pub keeps_more : (old mid new : Network) → KeepsEdges old mid → KeepsEdges mid new → KeepsEdges old new
keeps_more old mid new k l = record {
  edges = λ e h. l.edges e (k.edges e h);
  values = λ x e h. l.values x e (k.edges e h) ∙ k.values x e h;
}

-- the value of a gate that stands at a place
pub placed_value : (c : Network) (x : ℕ → Bool) → IsNetwork c.inputs c.gates → (n : ℕ) (d : Gate) → n < length c.gates → node_value c x (n + 1) ≡ gate_value c x (get_or c.gates n d)
unfolding edge_value node_value
placed_value c x net n d h = value_at x c.inputs c.gates net n d h ∙ among c x (get_or c.gates n d)
  where
    among : (c : Network) (x : ℕ → Bool) (g : Gate) → gate_among x (node_values x c.gates) g ≡ gate_value c x g
    among c x (Input k) = refl
    among c x (And a b) = refl

-- only the inputs of the circuit bear on its values
pub same_value : (c : Network) → IsNetwork c.inputs c.gates → (x y : ℕ → Bool) → SameBelow c.inputs x y → (e : Edge) → edge_value c x e ≡ edge_value c y e
unfolding edge_value
same_value c net x y same e = ap (λ vs. edge_among vs e) (same_values x y c.inputs c.gates net same)

-- the edge of a node, by its code
even_sign : (e : Edge) (n : ℕ) → e.code ≡ 2 * n → is_negated e ≡ false
even_sign e n h = let odd : e.code % 2 ≡ 0 = omega arith in ap (λ k. eqb k 1) odd

even_node : (e : Edge) (n : ℕ) → e.code ≡ 2 * n → node_of e ≡ n
even_node e n h = omega arith

pub even_value : (c : Network) (x : ℕ → Bool) (e : Edge) (n : ℕ) → e.code ≡ 2 * n → edge_value c x e ≡ node_value c x n
even_value c x e n h = plain_value c x e (even_sign e n h) ∙ ap (node_value c x) (even_node e n h)

-- the edge of a gate that stands at a place
pub found_value : (c : Network) → IsNetwork c.inputs c.gates → (n : ℕ) (e a b : Edge) → n < length c.gates → get_or c.gates n (And a b) ≡ And a b → e.code ≡ 2 * (n + 1) → (x : ℕ → Bool) → edge_value c x e ≡ (edge_value c x a && edge_value c x b)
found_value c net n e a b h g code x =
    even_value c x e (n + 1) code ∙ placed_value c x net n (And a b) h ∙ ap (gate_value c x) g

-- one more gate: its edge, and the edges that were there
pub pushed_value : (old new : Network) (g : Gate) (e : Edge) → new.gates ≡ old.gates ++ g ∷ [] → e.code ≡ 2 * (length old.gates + 1) → (x : ℕ → Bool) → edge_value new x e ≡ gate_value old x g
unfolding node_value edge_value
pushed_value old new g e more code x =
    even_value new x e (length old.gates + 1) code
    ∙ ap (λ gs. get_or (node_values x gs) (length old.gates + 1) false) more
    ∙ last_value x old.gates g
    ∙ among old x g
  where
    among : (c : Network) (x : ℕ → Bool) (g : Gate) → gate_among x (node_values x c.gates) g ≡ gate_value c x g
    among c x (Input k) = refl
    among c x (And a b) = refl

pub pushed_grows : (old new : Network) (g : Gate) → new.gates ≡ old.gates ++ g ∷ [] → old.inputs ≤ new.inputs → Grows old new
pushed_grows old new g more inputs = record {
  gates = ap (take (length old.gates)) more ∙ take-append_seam old.gates (g ∷ []);
  inputs = inputs;
}

-- conjunctions that need no gate
pub folds_false : (a b : Bool) → a ≡ false → a ≡ (a && b)
folds_false a b h = h ∙ ap (λ v. v && b) (sym h)

pub folds_true : (a b : Bool) → b ≡ true → a ≡ (a && b)
folds_true true b h = sym h
folds_true false b h = refl

pub folds_same : (a b : Bool) → a ≡ b → a ≡ (a && b)
folds_same true b h = h
folds_same false b h = refl

pub folds_opposite : (a b : Bool) → a ≡ not b → false ≡ (a && b)
folds_opposite a true h = ap (λ v. v && true) (sym h)
folds_opposite true false h = refl
folds_opposite false false h = refl

pub same_code : (a b : Edge) → a.code ≡ b.code → (c : Network) (x : ℕ → Bool) → edge_value c x a ≡ edge_value c x b
same_code a b h c x = let at : ℕ → Edge = λ k. record { code = k } in ap (λ k. edge_value c x (at k)) h

-- two edges of one node that are not the same
opposite_sign : (a b : Edge) → node_of a ≡ node_of b → (a.code ≡ b.code → ⊥) → is_negated a ≡ not (is_negated b)
opposite_sign a b node apart = grind (arith, nat_tests)

pub opposite_value : (a b : Edge) → node_of a ≡ node_of b → (a.code ≡ b.code → ⊥) → (c : Network) (x : ℕ → Bool) → edge_value c x a ≡ not (edge_value c x b)
opposite_value a b node apart = negated_value b a node (opposite_sign a b node apart)

-- The values of nodes, as a list of gates grows.
use Rattle.std.proofs.Common.{◌≡◌, ℕ, ◌+◌, ◌<◌, ◌≤◌, ◌&&◌, Bool, false, not, suc, List, [], ◌∷◌, ◌++◌, length, get_or, take, drop, fold, cond, refl, sym, ◌∙◌, ap, subst, arith}
use Rattle.std.proofs.lemmas.List.{length-append, length-take-le, get_or_append_left, take-append-drop}
use Rattle.std.proofs.Math.Seq.{get_or-append_seam}
use Rattle.std.proofs.lemmas.List.Sums.{fold-append, fold_more}
use Rattle.circuit_core.specs.declared.edge.Edge.{Edge}
use Rattle.circuit_core.specs.declared.edge.Gate.{Gate}
use Rattle.circuit_core.specs.declared.edge.Gate.TheVariants.{Input, And}
use Rattle.circuit_core.specs.Edges.{node_of, is_negated}
use Rattle.circuit_core.specs.Network.{IsGateAt, IsNetwork}
use Rattle.circuit_core.specs.Value.{edge_among, gate_among, with_gate, node_values, SameBelow}

-- the values of gates after those of earlier nodes
abbrev values_from : (ℕ → Bool) → List Bool → List Gate → List Bool
values_from x values gs = fold (with_gate x) values gs

values_front : (x : ℕ → Bool) (gs : List Gate) (values : List Bool) (n : ℕ) → n < length values → get_or (values_from x values gs) n false ≡ get_or values n false
values_front x [] values n h = refl
values_front x (g ∷ gs) values n h =
    values_front x gs (with_gate x values g) n (omega (arith, length-append values (gate_among x values g ∷ [])))
    ∙ get_or_append_left values (gate_among x values g ∷ []) false n h

values_length : (x : ℕ → Bool) (gs : List Gate) (values : List Bool) → length (values_from x values gs) ≡ length values + length gs
values_length x [] values = omega arith
values_length x (g ∷ gs) values =
    let e : length (with_gate x values g) ≡ length values + 1 = length-append values (gate_among x values g ∷ []) in
    values_length x gs (with_gate x values g) ∙ omega arith

-- one value a node
pub length-node_values : (x : ℕ → Bool) (gs : List Gate) → length (node_values x gs) ≡ length gs + 1
length-node_values x gs = values_length x gs (false ∷ []) ∙ omega arith

-- the values of the nodes that were there
kept_append : (x : ℕ → Bool) (gs more : List Gate) (n : ℕ) → n ≤ length gs → get_or (node_values x (gs ++ more)) n false ≡ get_or (node_values x gs) n false
kept_append x gs more n h =
    ap (λ vs. get_or vs n false) (fold-append (with_gate x) (false ∷ []) gs more)
    ∙ values_front x more (node_values x gs) n (omega (arith, length-node_values x gs))

pub kept_value : (x : ℕ → Bool) (old new : List Gate) (n : ℕ) → take (length old) new ≡ old → n ≤ length old → get_or (node_values x new) n false ≡ get_or (node_values x old) n false
kept_value x old new n t h =
    let e : old ++ drop (length old) new ≡ new = ap (λ gs. gs ++ drop (length old) new) (sym t) ∙ take-append-drop (length old) new in
    ap (λ gs. get_or (node_values x gs) n false) (sym e) ∙ kept_append x old (drop (length old) new) n h

pub kept_edge : (x : ℕ → Bool) (old new : List Gate) (e : Edge) → take (length old) new ≡ old → node_of e ≤ length old → edge_among (node_values x new) e ≡ edge_among (node_values x old) e
kept_edge x old new e t h = ap (λ v. cond (is_negated e) (not v) v) (kept_value x old new (node_of e) t h)

pub kept_gate : (x : ℕ → Bool) (inputs : ℕ) (old new : List Gate) (g : Gate) → take (length old) new ≡ old → IsGateAt inputs (length old) g → gate_among x (node_values x new) g ≡ gate_among x (node_values x old) g
kept_gate x inputs old new (Input k) t h = refl
kept_gate x inputs old new (And a b) t h =
    ap (λ v. v && edge_among (node_values x new) b) (kept_edge x old new a t h.0)
    ∙ ap (λ v. edge_among (node_values x old) a && v) (kept_edge x old new b t h.1)

-- the value of the gate that has just been added
pub last_value : (x : ℕ → Bool) (gs : List Gate) (g : Gate) → get_or (node_values x (gs ++ g ∷ [])) (length gs + 1) false ≡ gate_among x (node_values x gs) g
last_value x gs g =
    ap (λ vs. get_or vs (length gs + 1) false) (fold-append (with_gate x) (false ∷ []) gs (g ∷ []))
    ∙ ap (λ n. get_or (node_values x gs ++ gate_among x (node_values x gs) g ∷ []) n false) (sym (length-node_values x gs))
    ∙ get_or-append_seam (node_values x gs) (gate_among x (node_values x gs) g) [] false

-- the value of a gate of a circuit
pub value_at : (x : ℕ → Bool) (inputs : ℕ) (gs : List Gate) → IsNetwork inputs gs → (n : ℕ) (d : Gate) → n < length gs → get_or (node_values x gs) (n + 1) false ≡ gate_among x (node_values x gs) (get_or gs n d)
value_at x inputs gs net n d h =
    let front : List Gate = take n gs in
    let g : Gate = get_or gs n d in
    let long : length front ≡ n = length-take-le n gs (omega arith) in
    let more : length (take (n + 1) gs) ≡ n + 1 = length-take-le (n + 1) gs (omega arith) in
    kept_value x (take (n + 1) gs) gs (n + 1) (ap (λ k. take k gs) more) (omega arith)
    ∙ ap (λ vs. get_or vs (n + 1) false) (fold_more (with_gate x) (false ∷ []) gs n d h)
    ∙ ap (λ k. get_or (with_gate x (node_values x front) g) k false) (sym (length-node_values x front ∙ ap (λ k. k + 1) long))
    ∙ get_or-append_seam (node_values x front) (gate_among x (node_values x front) g) [] false
    ∙ sym (kept_gate x inputs front gs g (ap (λ k. take k gs) long) (subst (λ k. IsGateAt inputs k g) (sym long) (net.earlier n d h)))

-- an assignment that agrees on the inputs
same_gate : (x y : ℕ → Bool) (inputs n : ℕ) (values : List Bool) (g : Gate) → SameBelow inputs x y → IsGateAt inputs n g → gate_among x values g ≡ gate_among y values g
same_gate x y inputs n values (Input k) same h = same k h
same_gate x y inputs n values (And a b) same h = refl

same_from : (x y : ℕ → Bool) (inputs : ℕ) (gs : List Gate) (values : List Bool) (m : ℕ) → SameBelow inputs x y → ((n : ℕ) (d : Gate) → n < length gs → IsGateAt inputs (m + n) (get_or gs n d)) → values_from x values gs ≡ values_from y values gs
same_from x y inputs [] values m same h = refl
same_from x y inputs (g ∷ gs) values m same h =
    ap (λ v. values_from x (values ++ v ∷ []) gs) (same_gate x y inputs (m + 0) values g same (h 0 g (omega arith)))
    ∙ same_from x y inputs gs (with_gate y values g) (m + 1) same
    (λ n d l. let e : m + suc n ≡ m + 1 + n = omega arith in subst (λ k. IsGateAt inputs k (get_or gs n d)) e (h (suc n) d (omega arith)))

pub same_values : (x y : ℕ → Bool) (inputs : ℕ) (gs : List Gate) → IsNetwork inputs gs → SameBelow inputs x y → node_values x gs ≡ node_values y gs
same_values x y inputs gs net same =
    same_from x y inputs gs (false ∷ []) 0 same
    (λ n d h. let e : n ≡ 0 + n = omega arith in subst (λ k. IsGateAt inputs k (get_or gs n d)) e (net.earlier n d h))

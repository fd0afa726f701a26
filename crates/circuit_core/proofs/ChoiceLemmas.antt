-- Choices: by a condition, and by fresh inputs.
use Rattle.std.proofs.Common.{◌≡◌, ℕ, ◌+◌, ◌<◌, ◌≤◌, Bool, true, false, zero, suc, List, [], ◌∷◌, ◌++◌, length, get_or, take, drop, ◌-◌, cond, eqb, refl, sym, ◌∙◌, ap, subst, arith}
use Rattle.std.specs.Prelude.{All, Any}
use Rattle.std.proofs.lemmas.Bool.{eq-eqb, ne_eqb}
use Rattle.std.proofs.lemmas.List.{length-append, length-take, length-drop, take-take, take_more, take_all, get_or-take, get_or_append_left}
use Rattle.std.proofs.lemmas.List.Elements.{All-append, All-weaker}
use Rattle.std.proofs.lemmas.Grind.{get_or_after_one}
use Rattle.std.proofs.Math.Seq.{get_or-append_seam, take-length}
use Rattle.circuit_core.specs.declared.edge.Edge.{Edge}
use Rattle.circuit_core.specs.Network.{Network, IsEdge}
use Rattle.circuit_core.specs.Value.{edge_value, SameBelow}
use Rattle.circuit_core.specs.Growth.{KeepsEdges, Grows, Picks, CanBe}
use Rattle.circuit_core.proofs.EdgeLemmas.{keeps_edges}

-- growth goes on
pub grows_more : (old mid new : Network) → Grows old mid → Grows mid new → Grows old new
grows_more old mid new g h =
    let short : length old.gates ≤ length mid.gates = omega (arith, length-take (length old.gates) mid.gates, ap length g.gates) in
    record {
      gates = sym (take-take (length old.gates) (length mid.gates) new.gates short) ∙ ap (take (length old.gates)) h.gates ∙ g.gates;
      inputs = omega (arith, g.inputs, h.inputs);
    }

-- an assignment with the value of one input changed
abbrev with_input : (ℕ → Bool) → ℕ → Bool → ℕ → Bool
with_input x n v = λ k. cond (eqb k n) v (x k)

with_input_same : (x : ℕ → Bool) (n : ℕ) (v : Bool) → SameBelow n x (with_input x n v)
with_input_same x n v k h = sym (ap (λ b. cond b v (x k)) (ne_eqb k n (λ e. absurd (omega arith))))

with_input_at : (x : ℕ → Bool) (n : ℕ) (v : Bool) → with_input x n v n ≡ v
with_input_at x n v = ap (λ b. cond b v (x n)) (eq-eqb n n refl)

-- a fresh input picks one of two edges
pub picked_by : (old mid new : Network) (fresh r a b : Edge)
    → ((x : ℕ → Bool) → edge_value mid x fresh ≡ x old.inputs)
    → KeepsEdges old mid
    → ((x : ℕ → Bool) → edge_value new x r ≡ cond (edge_value mid x fresh) (edge_value mid x a) (edge_value mid x b))
    → IsEdge old a → IsEdge old b → (x : ℕ → Bool) → edge_value new x r ≡ cond (x old.inputs) (edge_value old x a) (edge_value old x b)
picked_by old mid new fresh r a b at keep value ha hb x =
    value x ∙ ap (λ t. cond t (edge_value mid x a) (edge_value mid x b)) (at x)
    ∙ ap (λ t. cond (x old.inputs) t (edge_value mid x b)) (keep.values x a ha)
    ∙ ap (λ t. cond (x old.inputs) (edge_value old x a) t) (keep.values x b hb)

-- An edge whose value is that of any one of a list, as fresh inputs say.
pub record IsChoice (old now : Network) (e : Edge) (from : List Edge) : Type 0 where
  pub edge : IsEdge now e
  pub one : (y : ℕ → Bool) → Any (Picks old now e y) from
  pub each : All (CanBe old now e) from
  pub grows : Grows old now

choice_one_each : (c : Network) (f : Edge) → All (CanBe c c f) (f ∷ [])
choice_one_each c f zero d l = (λ k. false, λ x same. refl)
choice_one_each c f (suc k) d l = absurd (omega arith)

pub choice_one : (c : Network) (f : Edge) → IsEdge c f → IsChoice c c f (f ∷ [])
choice_one c f h = record {
  edge = h;
  one = λ y. (0, f, omega arith, refl, λ x same. refl);
  each = choice_one_each c f;
  grows = record { gates = take-length c.gates; inputs = omega arith };
}

-- one value or the other
by_value : (T : Type 0) (b : Bool) → (b ≡ true → T) → (b ≡ false → T) → T
by_value T true yes_case no_case = yes_case refl
by_value T false yes_case no_case = no_case refl

-- where the last input is true, the last edge is picked
picks_last : (old mid new : Network) (e f r : Edge) (y : ℕ → Bool) → old.inputs ≤ mid.inputs → mid.inputs < new.inputs → KeepsEdges old mid → IsEdge old f
    → ((x : ℕ → Bool) → edge_value new x r ≡ cond (x mid.inputs) (edge_value mid x f) (edge_value mid x e))
    → y mid.inputs ≡ true → Picks old new r y f
picks_last old mid new e f r y low high keep hf value is x same =
    value x ∙ ap (λ t. cond t (edge_value mid x f) (edge_value mid x e)) (same mid.inputs low high ∙ is) ∙ keep.values x f hf

-- where it is false, the one that was picked before
picks_earlier : (old mid new : Network) (e f g r : Edge) (y z : ℕ → Bool) → old.inputs ≤ mid.inputs → mid.inputs < new.inputs
    → ((x : ℕ → Bool) → edge_value new x r ≡ cond (x mid.inputs) (edge_value mid x f) (edge_value mid x e))
    → y mid.inputs ≡ false → SameBelow mid.inputs y z → Picks old mid e z g → Picks old new r y g
picks_earlier old mid new e f g r y z low high value is below picks x same =
    value x ∙ ap (λ t. cond t (edge_value mid x f) (edge_value mid x e)) (same mid.inputs low high ∙ is)
    ∙ picks x (λ k from to. same k from (omega arith) ∙ below k to)

can_still : (old mid new : Network) (e f g r : Edge) → old.inputs ≤ mid.inputs → mid.inputs < new.inputs
    → ((x : ℕ → Bool) → edge_value new x r ≡ cond (x mid.inputs) (edge_value mid x f) (edge_value mid x e))
    → CanBe old mid e g → CanBe old new r g
can_still old mid new e f g r low high value can =
    let y : ℕ → Bool = with_input can.0 mid.inputs false in
    (y, picks_earlier old mid new e f g r y can.0 low high value (with_input_at can.0 mid.inputs false) (λ k h. sym (with_input_same can.0 mid.inputs false k h)) can.1)

each_one : (P : Edge → Type 0) (f : Edge) → P f → All P (f ∷ [])
each_one P f h zero d l = h
each_one P f h (suc k) d l = absurd (omega arith)

-- one more edge that can be chosen
pub choice_more : (old mid new : Network) (e f r : Edge) (from : List Edge) → IsChoice old mid e from → IsEdge old f
    → IsEdge new r → ((x : ℕ → Bool) → edge_value new x r ≡ cond (x mid.inputs) (edge_value mid x f) (edge_value mid x e))
    → new.inputs ≡ mid.inputs + 1 → Grows mid new → IsChoice old new r (from ++ f ∷ [])
choice_more old mid new e f r from had hf edge value more grows =
    let keep : KeepsEdges old mid = keeps_edges old mid had.grows in
    let low : old.inputs ≤ mid.inputs = had.grows.inputs in
    let high : mid.inputs < new.inputs = omega arith in
    record {
      edge = edge;
      one = λ y. by_value (Any (Picks old new r y) (from ++ f ∷ [])) (y mid.inputs)
          (λ is. (length from, f, omega (arith, length-append from (f ∷ [])), get_or-append_seam from f [] f, picks_last old mid new e f r y low high keep hf value is))
          (λ is.
          let was : Any (Picks old mid e y) from = had.one y in (
            was.0,
            was.1,
            omega (arith, length-append from (f ∷ []), was.2),
            get_or_append_left from (f ∷ []) was.1 was.0 was.2 ∙ was.3,
            picks_earlier old mid new e f was.1 r y y low high value is (λ k h. refl) was.4,
          ));
      each = All-append (CanBe old new r) from (f ∷ [])
          (All-weaker (CanBe old mid e) (CanBe old new r) (λ g. can_still old mid new e f g r low high value) from had.each)
          (each_one (CanBe old new r) f (λ k. true, picks_last old mid new e f r (λ k. true) low high keep hf value refl));
      grows = grows_more old mid new had.grows grows;
    }

-- the edges after the first, as a slice of code
abbrev pub rest_of : List Edge → List Edge
rest_of from = take (length from - 1) (drop 1 from)

length-rest_of : (from : List Edge) → length (rest_of from) ≡ length from - 1
length-rest_of from = omega (arith, length-take (length from - 1) (drop 1 from), length-drop 1 from)

rest_item : (from : List Edge) (i : ℕ) (d : Edge) → i < length (rest_of from) → get_or (rest_of from) i d ≡ get_or from (i + 1) d
rest_item from i d h =
    let e : 1 + i ≡ i + 1 = omega arith in
    get_or-take (length from - 1) (drop 1 from) i d (omega (arith, length-rest_of from)) ∙ get_or_after_one from i d ∙ ap (λ n. get_or from n d) e

pub rest_edge : (old mid : Network) (from : List Edge) (i : ℕ) (d : Edge) → All (IsEdge old) from → Grows old mid → i < length (rest_of from) → IsEdge mid (get_or (rest_of from) i d)
rest_edge old mid from i d all grows h =
    subst (IsEdge mid) (sym (rest_item from i d h))
    ((keeps_edges old mid grows).edges (get_or from (i + 1) d) (all (i + 1) d (omega (arith, length-rest_of from))))

pub first_choice : (c : Network) (from : List Edge) (d : Edge) → All (IsEdge c) from → 0 < length from → IsChoice c c (get_or from 0 d) (take 1 from)
first_choice c from d all h = subst (IsChoice c c (get_or from 0 d)) (sym (take_more from 0 d h)) (choice_one c (get_or from 0 d) (all 0 d h))

pub next_choice : (old mid new : Network) (e r : Edge) (from : List Edge) (i : ℕ) (d : Edge) → IsChoice old mid e (take (i + 1) from) → All (IsEdge old) from → i < length (rest_of from)
    → IsEdge new r → ((x : ℕ → Bool) → edge_value new x r ≡ cond (x mid.inputs) (edge_value mid x (get_or (rest_of from) i d)) (edge_value mid x e))
    → new.inputs ≡ mid.inputs + 1 → Grows mid new → IsChoice old new r (take (i + 1 + 1) from)
next_choice old mid new e r from i d had all h edge value more grows =
    let item : get_or (rest_of from) i d ≡ get_or from (i + 1) d = rest_item from i d h in
    let inside : i + 1 < length from = omega (arith, length-rest_of from) in
    subst (IsChoice old new r) (ap (λ f. take (i + 1) from ++ f ∷ []) item ∙ sym (take_more from (i + 1) d inside))
    (choice_more old mid new e (get_or (rest_of from) i d) r (take (i + 1) from) had (subst (IsEdge old) (sym item) (all (i + 1) d inside)) edge value more grows)

pub whole_choice : (old new : Network) (e : Edge) (from : List Edge) (i : ℕ) → IsChoice old new e (take (i + 1) from) → length (rest_of from) ≤ i → IsChoice old new e from
whole_choice old new e from i had h =
    subst (IsChoice old new e) (take_all (i + 1) from (omega (arith, length-rest_of from))) had

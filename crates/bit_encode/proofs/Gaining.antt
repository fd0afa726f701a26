-- Steps of loops that add members to sets, and that join edges.
use Rattle.std.proofs.Common.{◌≡◌, ℕ, ◌+◌, ◌<◌, ◌≤◌, ◌&&◌, ◌||◌, Bool, true, false, List, [], ◌∷◌, ◌++◌, length, get_or, take, refl, sym, ◌∙◌, ap, subst}
use Rattle.std.specs.List.{list_any}
use Rattle.std.proofs.lemmas.List.{take_more, take_all}
use Rattle.circuit_core.specs.declared.edge.Edge.{Edge}
use Rattle.circuit_core.specs.Network.{Network, IsEdge}
use Rattle.circuit_core.specs.Growth.{KeepsEdges}
use Rattle.other_abstract.specs.declared.value.AbsValue.{AbsValue}
use Rattle.bit_encode.specs.declared.set.Possible.{Possible}
use Rattle.bit_encode.specs.MaySets.{Agrees, HasEdges, held}
use Rattle.bit_encode.proofs.Growing.{keeps_all, keeps_self, agrees_before}
use Rattle.bit_encode.proofs.SetLemmas.{or_assoc, or_false, and_false, and_true}

-- what each of some items adds to a set, under a valuation and for a test
abbrev pub Rule : Type 0 → Type 0
Rule T = (Edge → Bool) → (AbsValue → Bool) → T → Bool

-- what a loop that adds to a set has gained of some items
pub record Gains {T : Type 0} (old new : Network) (before after : List Possible) (g : Rule T) (s : List T) : Type 0 where
  pub keeps : KeepsEdges old new
  pub edges : HasEdges new after
  pub value : (x : ℕ → Bool) (val : Edge → Bool) (p : AbsValue → Bool) → Agrees new x val → held val p after ≡ (held val p before || list_any (g val p) s)

-- an edge that is true where some of these items pass
pub record IsAny {T : Type 0} (old new : Network) (e : Edge) (g : (Edge → Bool) → T → Bool) (s : List T) : Type 0 where
  pub keeps : KeepsEdges old new
  pub edge : IsEdge new e
  pub value : (x : ℕ → Bool) (val : Edge → Bool) → Agrees new x val → val e ≡ list_any (g val) s

pub any_push : {T : Type 0} (f : T → Bool) (s : List T) (t : T) → list_any f (s ++ t ∷ []) ≡ (list_any f s || f t)
any_push f [] t = or_false (f t)
any_push f (o ∷ s) t = ap (λ b. f o || b) (any_push f s t) ∙ sym (or_assoc (f o) (list_any f s) (f t))

any_more : {T : Type 0} (f : T → Bool) (s : List T) (i : ℕ) (d : T) → i < length s → list_any f (take (i + 1) s) ≡ (list_any f (take i s) || f (get_or s i d))
any_more f s i d h = ap (list_any f) (take_more s i d h) ∙ any_push f (take i s) (get_or s i d)

pub gains_none : {T : Type 0} (c : Network) (out : List Possible) (g : Rule T) → HasEdges c out → Gains c c out out g []
gains_none c out g h = record { keeps = keeps_self c; edges = h; value = λ x val p a. sym (or_false (held val p out)) }

pub gains_more : {T : Type 0} (old mid new : Network) (before out after : List Possible) (g : Rule T) (s : List T) (i : ℕ) (d : T) → i < length s
    → Gains old mid before out g (take i s) → KeepsEdges mid new → HasEdges new after
    → ((x : ℕ → Bool) (val : Edge → Bool) (p : AbsValue → Bool) → Agrees new x val → held val p after ≡ (held val p out || g val p (get_or s i d)))
    → Gains old new before after g (take (i + 1) s)
gains_more old mid new before out after g s i d h had keeps edges value = record {
  keeps = keeps_all old mid new had.keeps keeps;
  edges = edges;
  value = λ x val p a.
      value x val p a
      ∙ ap (λ b. b || g val p (get_or s i d)) (had.value x val p (agrees_before mid new x val keeps a))
      ∙ or_assoc (held val p before) (list_any (g val p) (take i s)) (g val p (get_or s i d))
      ∙ ap (λ b. held val p before || b) (sym (any_more (g val p) s i d h));
}

pub gains_all : {T : Type 0} (old new : Network) (before after : List Possible) (g : Rule T) (s : List T) (i : ℕ) → length s ≤ i → Gains old new before after g (take i s) → Gains old new before after g s
gains_all old new before after g s i h had = subst (Gains old new before after g) (take_all i s h) had

pub any_none : {T : Type 0} (c : Network) (e : Edge) (g : (Edge → Bool) → T → Bool) → IsEdge c e → ((x : ℕ → Bool) (val : Edge → Bool) → Agrees c x val → val e ≡ false) → IsAny c c e g []
any_none c e g h f = record { keeps = keeps_self c; edge = h; value = f }

pub any_one_more : {T : Type 0} (old mid new : Network) (e f : Edge) (g : (Edge → Bool) → T → Bool) (s : List T) (i : ℕ) (d : T) → i < length s
    → IsAny old mid e g (take i s) → KeepsEdges mid new → IsEdge new f
    → ((x : ℕ → Bool) (val : Edge → Bool) → Agrees new x val → val f ≡ (val e || g val (get_or s i d)))
    → IsAny old new f g (take (i + 1) s)
any_one_more old mid new e f g s i d h had keeps edge value = record {
  keeps = keeps_all old mid new had.keeps keeps;
  edge = edge;
  value = λ x val a.
      value x val a
      ∙ ap (λ b. b || g val (get_or s i d)) (had.value x val (agrees_before mid new x val keeps a))
      ∙ sym (any_more (g val) s i d h);
}

pub any_all : {T : Type 0} (old new : Network) (e : Edge) (g : (Edge → Bool) → T → Bool) (s : List T) (i : ℕ) → length s ≤ i → IsAny old new e g (take i s) → IsAny old new e g s
any_all old new e g s i h had = subst (IsAny old new e g) (take_all i s h) had

none_under : {T : Type 0} (f : T → Bool) (s : List T) → list_any (λ o. f o && false) s ≡ false
none_under f [] = refl
none_under f (o ∷ s) = ap (λ b. b || list_any (λ o. f o && false) s) (and_false (f o)) ∙ none_under f s

all_under : {T : Type 0} (f : T → Bool) (s : List T) → list_any (λ o. f o && true) s ≡ list_any f s
all_under f [] = refl
all_under f (o ∷ s) = ap (λ b. b || list_any (λ o. f o && true) s) (and_true (f o)) ∙ ap (λ b. f o || b) (all_under f s)

-- one condition on all members, and on all values
pub under_all : (val : Edge → Bool) (p : AbsValue → Bool) (u : Bool) (s : List Possible) → list_any (λ (o : Possible). p o.value && (u && val o.edge)) s ≡ (held val p s && u)
under_all val p true s = sym (and_true (held val p s))
under_all val p false s = none_under (λ (o : Possible). p o.value) s ∙ sym (and_false (held val p s))

pub under_values : (p : AbsValue → Bool) (u : Bool) (s : List AbsValue) → list_any (λ v. p v && u) s ≡ (list_any p s && u)
under_values p true s = all_under p s ∙ sym (and_true (list_any p s))
under_values p false s = none_under p s ∙ sym (and_false (list_any p s))

pub ruleset gaining = (gains_none, gains_more, gains_all, any_none, any_one_more, any_all)

-- The tables hold what they are to hold: what a form may begin with, and what may carry on a whole one.
use Rattle.std.specs.Prelude.{nat_eq, ◌&&◌, ◌||◌, not}
use Rattle.std.proofs.Common.{◌≡◌, ℕ, Bool, true, false, List, [], ◌∷◌, ◌++◌, ◌⊎◌, inl, inr, refl, sym, ap, ◌∙◌}
use Rattle.std.proofs.lemmas.Bool.{eq-eqb}
use Rattle.grammar_core.specs.Forms.{Tree, Grammar, FormOf}
use Rattle.grammar_core.specs.Spelling.{Room, Spells, Begins}
use Rattle.grammar_core.specs.Test.{is_in, within, nullable, firsts, nexts, decides, fits, Tables, key}
use Rattle.grammar_core.specs.Spelling.{Spells as s}
use Rattle.grammar_core.specs.Spelling.{Begins as b}
use Rattle.grammar_core.proofs.Sets.{both, or_left, or_right, in_left, in_right, in_given, in_within}

-- the first of a list that is cut
cut : {A : Type 0} (x : A) (vs ps qs : List A) → x ∷ vs ≡ ps ++ qs → ((ps ≡ []) × (qs ≡ x ∷ vs)) ⊎ ((d : List A) × (ps ≡ x ∷ d) × (vs ≡ d ++ qs))
cut x vs [] qs e = inl (refl, sym e)
cut x vs (p ∷ ps) qs e = inr (ps, cc, cc)

-- both parts of an empty list
empty_parts : {A : Type 0} (ps qs : List A) → [] ≡ ps ++ qs → (ps ≡ []) × (qs ≡ [])
empty_parts [] qs e = (refl, sym e)
empty_parts (p ∷ ps) qs e = absurd (cc)

-- what the test says of each named form
pub record Fit (g : Grammar) (tab : Tables g) (n : g.Name) : Type 0 where
  pub decided : decides tab (g.rule n) ≡ true
  pub empty : nullable tab (g.rule n) ≡ true → tab.can_be_empty n ≡ true
  pub first : within (firsts tab (g.rule n)) (tab.starts n) ≡ true
  pub next : within (nexts tab (g.rule n)) (tab.goes_on n) ≡ true

pub implied : (a b : Bool) → not a || b ≡ true → a ≡ true → b ≡ true
implied true b h e = h
implied false b h e = absurd (cc)

pub fit_of : (g : Grammar) (tab : Tables g) (n : g.Name) → fits tab n ≡ true → Fit g tab n
fit_of g tab n h =
    let p = both (decides tab (g.rule n)) _ h in
    let q = both (not (nullable tab (g.rule n)) || tab.can_be_empty n) _ p.1 in
    let w = both (within (firsts tab (g.rule n)) (tab.starts n)) _ q.1 in
    record { decided = p.0; empty = implied _ _ q.0; first = w.0; next = w.1 }

and_true : (a b : Bool) → a ≡ true → b ≡ true → a && b ≡ true
and_true true b h k = k
and_true false b h k = h

own_first : (s t : ℕ) → s ≡ t → is_in s (t ∷ []) ≡ true
unfolding is_in
own_first s t e = or_left (nat_eq s t) false (eq-eqb s t e)

module _ (g : Grammar) (tab : Tables g) (fit : (n : g.Name) → fits tab n ≡ true) where
  pub null_sound : {r : Room} {f : FormOf g} {us : List g.Token} {t : Tree g f} → Spells g r f us t → us ≡ [] → nullable tab f ≡ true
  null_sound (s.token x h) e = absurd (cc)
  null_sound s.empty e = refl
  null_sound (s.seq {a = a} {vs = ps} {ws = qs} p q h) e = let k = empty_parts ps qs (sym e ∙ h) in and_true _ _ (null_sound p k.0) (null_sound q k.1)
  null_sound (s.left p) e = or_left _ _ (null_sound p e)
  null_sound (s.right {a = a} p) e = or_right (nullable tab a) _ (null_sound p e)
  null_sound s.none e = refl
  null_sound (s.more p q h) e = refl
  null_sound (s.nest x h i p) e = absurd (cc)
  null_sound (s.call {n = n} p h) e = (fit_of g tab n (fit n)).empty (null_sound p e)

  pub first_spelled : {r : Room} {f : FormOf g} {us : List g.Token} {t : Tree g f} → Spells g r f us t → (x : g.Token) (vs : List g.Token) → us ≡ x ∷ vs → is_in (key tab x) (firsts tab f) ≡ true
  first_spelled (s.token y h) x vs e = own_first _ _ (ap tab.number (ap g.symbol (cc) ∙ h))
  first_spelled s.empty x vs e = absurd (cc)
  first_spelled (s.seq {a = a} {b = c} {vs = ps} {ws = qs} p q h) x vs e =
      elim (cut x vs ps qs (sym e ∙ h)) [
        | inl (e1, e2) ↦ in_right _ (firsts tab a) _ (in_given _ (nullable tab a) _ (null_sound p e1) (first_spelled q x vs e2))
        | inr (d, e1, e2) ↦ in_left _ _ _ (first_spelled p x d e1)
      ]
  first_spelled (s.left p) x vs e = in_left _ _ _ (first_spelled p x vs e)
  first_spelled (s.right {a = a} p) x vs e = in_right _ (firsts tab a) _ (first_spelled p x vs e)
  first_spelled s.none x vs e = absurd (cc)
  first_spelled (s.more {vs = ps} {ws = qs} p q h) x vs e =
      elim (cut x vs ps qs (sym e ∙ h)) [ inl (e1, e2) ↦ first_spelled q x vs e2 | inr (d, e1, e2) ↦ first_spelled p x d e1 ]
  first_spelled (s.nest y h i p) x vs e = own_first _ _ (ap tab.number (ap g.symbol (cc) ∙ h))
  first_spelled (s.call {n = n} p h) x vs e = in_within _ _ _ ((fit_of g tab n (fit n)).first) (first_spelled p x vs e)

  pub first_begins : {r : Room} {f : FormOf g} {us : List g.Token} → Begins g r f us → (x : g.Token) (vs : List g.Token) → us ≡ x ∷ vs → is_in (key tab x) (firsts tab f) ≡ true
  first_begins b.nothing x vs e = absurd (cc)
  first_begins (b.token y h) x vs e = own_first _ _ (ap tab.number (ap g.symbol (cc) ∙ h))
  first_begins (b.first p) x vs e = in_left _ _ _ (first_begins p x vs e)
  first_begins (b.second {a = a} {b = c} {vs = ps} {ws = qs} p q h) x vs e =
      elim (cut x vs ps qs (sym e ∙ h)) [
        | inl (e1, e2) ↦ in_right _ (firsts tab a) _ (in_given _ (nullable tab a) _ (null_sound p e1) (first_begins q x vs e2))
        | inr (d, e1, e2) ↦ in_left _ _ _ (first_spelled p x d e1)
      ]
  first_begins (b.left p) x vs e = in_left _ _ _ (first_begins p x vs e)
  first_begins (b.right {a = a} p) x vs e = in_right _ (firsts tab a) _ (first_begins p x vs e)
  first_begins (b.some {vs = ps} {ws = qs} p q h) x vs e =
      elim (cut x vs ps qs (sym e ∙ h)) [ inl (e1, e2) ↦ first_begins q x vs e2 | inr (d, e1, e2) ↦ first_spelled p x d e1 ]
  first_begins (b.nest y h i p) x vs e = own_first _ _ (ap tab.number (ap g.symbol (cc) ∙ h))
  first_begins (b.call {n = n} p) x vs e = in_within _ _ _ ((fit_of g tab n (fit n)).first) (first_begins p x vs e)

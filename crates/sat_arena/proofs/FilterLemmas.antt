-- Clauses without the empty slots between them: where each stands afterwards.
use Rattle.std.proofs.Common.{◌≡◌, ℕ, ◌+◌, ◌<◌, ◌≤◌, zero, suc, Bool, true, false, not, List, [], ◌∷◌, length, get_or, eqb, refl, sym, ◌∙◌, ap, arith, Some}
use Rattle.std.specs.Prelude.{slice_get, filter}
use Rattle.std.proofs.lemmas.Bool.{eq-eqb, ne_eqb, cond-true, cond-false, both_ways}
use Rattle.std.proofs.lemmas.Option.{none-some, same_Some}
use Rattle.clause_core.specs.declared.literal.Lit.{Lit}
use Rattle.sat_arena.specs.declared.slot.Slot.{Slot}
use Rattle.sat_arena.specs.Live.{clauses_of, renamed}
use Rattle.sat_arena.specs.Linking.{lits_of, live_from, next_place, places_from, holds_clause}
use Rattle.sat_arena.proofs.LiveLemmas.{id_at, is_filled}

-- the clauses of slots that are not empty
pub holds_filled : (s : Slot) → holds_clause s ≡ is_filled s.lits.items
holds_filled s = go s.lits.items where
  go : (c : List Lit) → not (eqb (length c) 0) ≡ is_filled c
  go [] = refl
  go (l ∷ ls) = ap not (ne_eqb (length (l ∷ ls)) 0 (λ e. absurd (omega arith)))

pub lits_filter : (slots : List Slot) → lits_of (filter holds_clause slots) ≡ filter is_filled (lits_of slots)
lits_filter [] = refl
lits_filter (s ∷ ss) = go (lits_filter ss) (is_filled s.lits.items) refl where
  go : lits_of (filter holds_clause ss) ≡ filter is_filled (lits_of ss) → (b : Bool) → is_filled s.lits.items ≡ b → lits_of (filter holds_clause (s ∷ ss)) ≡ filter is_filled (lits_of (s ∷ ss))
  go ih true e =
      ap lits_of (cond-true (holds_clause s) (s ∷ filter holds_clause ss) (filter holds_clause ss) (holds_filled s ∙ e)) ∙ ap (λ cs. s.lits.items ∷ cs) ih
      ∙ sym (cond-true (is_filled s.lits.items) (s.lits.items ∷ filter is_filled (lits_of ss)) (filter is_filled (lits_of ss)) e)
  go ih false e =
      ap lits_of (cond-false (holds_clause s) (s ∷ filter holds_clause ss) (filter holds_clause ss) (holds_filled s ∙ e)) ∙ ih
      ∙ sym (cond-false (is_filled s.lits.items) (s.lits.items ∷ filter is_filled (lits_of ss)) (filter is_filled (lits_of ss)) e)

-- the places from n on are n and more
places_least : (cs : List (List Lit)) (n p : ℕ) → p < length cs → n ≤ get_or (places_from n cs) p 0
places_least [] n p h = absurd (omega arith)
places_least (c ∷ cs) n zero h = omega arith
places_least ([] ∷ cs) n (suc p) h = places_least cs n p (omega arith)
places_least ((l ∷ ls) ∷ cs) n (suc p) h = let m : n + 1 ≤ get_or (places_from (n + 1) cs) p 0 = places_least cs (n + 1) p (omega arith) in omega arith

filled_within : (cs : List (List Lit)) (p : ℕ) → is_filled (get_or cs p []) ≡ true → p < length cs
filled_within [] p e = cc
filled_within (c ∷ cs) zero e = omega arith
filled_within (c ∷ cs) (suc p) e = let h : p < length cs = filled_within cs p e in omega arith

-- a clause stands at the place that is said for it
pub kept_lits : (cs : List (List Lit)) (n p r : ℕ) → is_filled (get_or cs p []) ≡ true → get_or (places_from n cs) p 0 ≡ n + r → get_or (filter is_filled cs) r [] ≡ get_or cs p []
kept_lits [] n p r f e = cc
kept_lits ([] ∷ cs) n zero r f e = cc
kept_lits ([] ∷ cs) n (suc p) r f e = kept_lits cs n p r f e
kept_lits ((l ∷ ls) ∷ cs) n zero zero f e = refl
kept_lits ((l ∷ ls) ∷ cs) n zero (suc r) f e = absurd (omega arith)
kept_lits ((l ∷ ls) ∷ cs) n (suc p) zero f e = absurd (let m : n + 1 ≤ get_or (places_from (n + 1) cs) p 0 = places_least cs (n + 1) p (filled_within cs p f) in omega arith)
kept_lits ((l ∷ ls) ∷ cs) n (suc p) (suc r) f e = kept_lits cs (n + 1) p r f (e ∙ omega arith)

-- the clauses are the same
pub same_clauses : (cs : List (List Lit)) (k m : ℕ) → clauses_of (live_from m (filter is_filled cs)) ≡ clauses_of (live_from k cs)
same_clauses [] k m = refl
same_clauses ([] ∷ cs) k m = same_clauses cs (k + 1) m
same_clauses ((l ∷ ls) ∷ cs) k m = ap (λ ds. (l ∷ ls) ∷ ds) (same_clauses cs (k + 1) (m + 1))

-- an id gets the place that is said for its clause
renamed_from : (cs : List (List Lit)) (k m p q : ℕ) → q ≡ k + p → is_filled (get_or cs p []) ≡ true → renamed (live_from k cs) (live_from m (filter is_filled cs)) (id_at q) ≡ id_at (get_or (places_from m cs) p 0)
renamed_from [] k m p q e f = cc
renamed_from ([] ∷ cs) k m zero q e f = cc
renamed_from ([] ∷ cs) k m (suc p) q e f = renamed_from cs (k + 1) m p q (omega arith) f
renamed_from ((l ∷ ls) ∷ cs) k m zero q e f = cond-true (eqb k q) (id_at m) (renamed (live_from (k + 1) cs) (live_from (m + 1) (filter is_filled cs)) (id_at q)) (eq-eqb k q (omega arith))
renamed_from ((l ∷ ls) ∷ cs) k m (suc p) q e f =
    cond-false (eqb k q) (id_at m) (renamed (live_from (k + 1) cs) (live_from (m + 1) (filter is_filled cs)) (id_at q)) (ne_eqb k q (λ g. omega arith))
    ∙ renamed_from cs (k + 1) (m + 1) p q (omega arith) f

pub renamed_is : (cs : List (List Lit)) (p : ℕ) → is_filled (get_or cs p []) ≡ true → renamed (live_from 0 cs) (live_from 0 (filter is_filled cs)) (id_at p) ≡ id_at (get_or (places_from 0 cs) p 0)
renamed_is cs p f = renamed_from cs 0 0 p p (omega arith) f

-- the same for slots

skips : (s : Slot) (ss : List Slot) → is_filled s.lits.items ≡ false → filter holds_clause (s ∷ ss) ≡ filter holds_clause ss
skips s ss e = cond-false (holds_clause s) (s ∷ filter holds_clause ss) (filter holds_clause ss) (holds_filled s ∙ e)

keeps : (s : Slot) (ss : List Slot) → is_filled s.lits.items ≡ true → filter holds_clause (s ∷ ss) ≡ s ∷ filter holds_clause ss
keeps s ss e = cond-true (holds_clause s) (s ∷ filter holds_clause ss) (filter holds_clause ss) (holds_filled s ∙ e)

next_same : (n : ℕ) (c : List Lit) → is_filled c ≡ false → next_place n c ≡ n
next_same n [] e = refl
next_same n (l ∷ ls) e = cc

next_more : (n : ℕ) (c : List Lit) → is_filled c ≡ true → next_place n c ≡ n + 1
next_more n [] e = cc
next_more n (l ∷ ls) e = refl

slot_within : (slots : List Slot) (p : ℕ) (s : Slot) → slice_get slots p ≡ Some s → p < length (lits_of slots)
slot_within [] p s e = cc
slot_within (t ∷ ss) zero s e = omega arith
slot_within (t ∷ ss) (suc p) s e = let h : p < length (lits_of ss) = slot_within ss p s e in omega arith

-- each slot that holds a clause goes to the place that is said for it
abbrev pub Goes : List Slot → Type 0
Goes slots = (n p r : ℕ) (s : Slot) → slice_get slots p ≡ Some s → is_filled s.lits.items ≡ true → get_or (places_from n (lits_of slots)) p 0 ≡ n + r → slice_get (filter holds_clause slots) r ≡ Some s

goes_more : (t : Slot) (ss : List Slot) → Goes ss → Goes (t ∷ ss)
goes_more t ss ih n p r s g f e = go (is_filled t.lits.items) refl p r g e where
  go : (b : Bool) → is_filled t.lits.items ≡ b → (p r : ℕ) → slice_get (t ∷ ss) p ≡ Some s → get_or (places_from n (lits_of (t ∷ ss))) p 0 ≡ n + r → slice_get (filter holds_clause (t ∷ ss)) r ≡ Some s
  go false h zero r g e = absurd (both_ways (is_filled t.lits.items) h (ap (λ (u : Slot). is_filled u.lits.items) (same_Some t s g) ∙ f))
  go false h (suc p) r g e =
      ap (λ xs. slice_get xs r) (skips t ss h) ∙ ih n p r s g f (ap (λ m. get_or (places_from m (lits_of ss)) p 0) (sym (next_same n t.lits.items h)) ∙ e)
  go true h zero zero g e = ap (λ xs. slice_get xs 0) (keeps t ss h) ∙ g
  go true h zero (suc r) g e = absurd (omega arith)
  go true h (suc p) zero g e =
      absurd (let m : n + 1 ≤ get_or (places_from (n + 1) (lits_of ss)) p 0 = places_least (lits_of ss) (n + 1) p (slot_within ss p s g) in
      let k : get_or (places_from (n + 1) (lits_of ss)) p 0 ≡ n + 0 = ap (λ m. get_or (places_from m (lits_of ss)) p 0) (sym (next_more n t.lits.items h)) ∙ e in omega arith)
  go true h (suc p) (suc r) g e =
      ap (λ xs. slice_get xs (suc r)) (keeps t ss h)
      ∙ ih (n + 1) p r s g f (ap (λ m. get_or (places_from m (lits_of ss)) p 0) (sym (next_more n t.lits.items h)) ∙ e ∙ omega arith)

pub slot_goes : (slots : List Slot) → Goes slots
slot_goes [] = λ n p r s g f e. absurd (none-some s g)
slot_goes (t ∷ ss) = goes_more t ss (slot_goes ss)

-- and each came from such a place
abbrev pub Came : List Slot → Type 0
Came slots = (n r : ℕ) (s : Slot) → slice_get (filter holds_clause slots) r ≡ Some s → (p : ℕ) × (slice_get slots p ≡ Some s) × (get_or (places_from n (lits_of slots)) p 0 ≡ n + r)

came_more : (t : Slot) (ss : List Slot) → Came ss → Came (t ∷ ss)
came_more t ss ih n r s g = go (is_filled t.lits.items) refl r g where
  go : (b : Bool) → is_filled t.lits.items ≡ b → (r : ℕ) → slice_get (filter holds_clause (t ∷ ss)) r ≡ Some s → (p : ℕ) × (slice_get (t ∷ ss) p ≡ Some s) × (get_or (places_from n (lits_of (t ∷ ss))) p 0 ≡ n + r)
  go false h r g =
      let x : (p : ℕ) × (slice_get ss p ≡ Some s) × (get_or (places_from n (lits_of ss)) p 0 ≡ n + r) = ih n r s (ap (λ xs. slice_get xs r) (sym (skips t ss h)) ∙ g) in
      (suc x.0, x.1, ap (λ m. get_or (places_from m (lits_of ss)) x.0 0) (next_same n t.lits.items h) ∙ x.2)
  go true h zero g = (0, ap (λ xs. slice_get xs 0) (sym (keeps t ss h)) ∙ g, omega arith)
  go true h (suc r) g =
      let x : (p : ℕ) × (slice_get ss p ≡ Some s) × (get_or (places_from (n + 1) (lits_of ss)) p 0 ≡ n + 1 + r) = ih (n + 1) r s (ap (λ xs. slice_get xs (suc r)) (sym (keeps t ss h)) ∙ g) in
      (suc x.0, x.1, ap (λ m. get_or (places_from m (lits_of ss)) x.0 0) (next_more n t.lits.items h) ∙ x.2 ∙ omega arith)

pub slot_came : (slots : List Slot) → Came slots
slot_came [] = λ n r s g. absurd (none-some s g)
slot_came (t ∷ ss) = came_more t ss (slot_came ss)

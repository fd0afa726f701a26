-- What a change of one slot leaves of what clauses say.
use Rattle.std.proofs.Common.{◌≡◌, ℕ, ◌<◌, List, [], length, get_or, set, sym, ◌∙◌, ap, inl, inr, ◌⊎◌, Some}
use Rattle.std.specs.Prelude.{slice_get}
use Rattle.std.specs.Option.{option_and_then}
use Rattle.std.proofs.lemmas.Bool.{cases_eq}
use Rattle.std.proofs.lemmas.Option.{slice_get_within, slice_get-get_or, option_and_then_some}
use Rattle.std.proofs.lemmas.List.{map-set, set-get_or, get_or-map}
use Rattle.sat_arena.specs.declared.slot.Slot.{Slot}
use Rattle.sat_arena.specs.Linking.{lits_of, position, stands_at}
use Rattle.sat_arena.proofs.PlaceLemmas.{get_same, get_other}

pub stands_here : (slots : List Slot) (p c : ℕ) (s : Slot) → p < length slots → stands_at (set slots p s) c p ≡ position c s
stands_here slots p c s h = ap (option_and_then (position c)) (get_same slots p s h)

pub stands_other : (slots : List Slot) (p c q : ℕ) (s : Slot) → (q ≡ p → ⊥) → stands_at (set slots p s) c q ≡ stands_at slots c q
stands_other slots p c q s n = ap (option_and_then (position c)) (get_other slots q p s n)

pub lits_set : (slots : List Slot) (p : ℕ) (s : Slot) → lits_of (set slots p s) ≡ set (lits_of slots) p s.lits.items
lits_set slots p s = map-set (λ (s : Slot). s.lits.items) slots p s

-- a slot that keeps its literals
pub lits_same : (slots : List Slot) (p : ℕ) (s d : Slot) → p < length slots → s.lits ≡ (get_or slots p d).lits → lits_of (set slots p s) ≡ lits_of slots
lits_same slots p s d h l =
    lits_set slots p s
    ∙ ap (λ c. set (lits_of slots) p c) (ap (λ v. v.items) l ∙ sym (get_or-map (λ (s : Slot). s.lits.items) slots p d [] h))
    ∙ set-get_or (lits_of slots) p []

-- a clause that says something has a slot, and it is what the slot says
pub stands_within : (slots : List Slot) (c p i : ℕ) → stands_at slots c p ≡ Some i → p < length slots
stands_within slots c p i e = option_and_then_some (position c) (slice_get slots p) i e (λ s f g. slice_get_within slots p s f)

pub stands_is : (slots : List Slot) (c p : ℕ) (d : Slot) → p < length slots → stands_at slots c p ≡ position c (get_or slots p d)
stands_is slots c p d h = ap (option_and_then (position c)) (slice_get-get_or slots p d h)

-- a slot that says the same of a literal as before
pub stands_kept : (slots : List Slot) (p c q : ℕ) (d t : Slot) → p < length slots → position c t ≡ position c (get_or slots p d) → stands_at (set slots p t) c q ≡ stands_at slots c q
stands_kept slots p c q d t h k = go (cases_eq q p) where
  go : (q ≡ p) ⊎ (q ≡ p → ⊥) → stands_at (set slots p t) c q ≡ stands_at slots c q
  go (inl f) = ap (stands_at (set slots p t) c) f ∙ stands_here slots p c t h ∙ k ∙ sym (stands_is slots c p d h) ∙ ap (stands_at slots c) (sym f)
  go (inr n) = stands_other slots p c q t n

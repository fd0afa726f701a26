-- What a clause says, literal by literal.
use Rattle.std.proofs.Common.{◌≡◌, ℕ, ◌+◌, ◌<◌, ◌≤◌, ◌++◌, zero, suc, Bool, true, false, List, [], ◌∷◌, length, get_or, take, eqb, refl, sym, ◌∙◌, ap, subst, inl, inr, arith, Option, Some, None}
use Rattle.std.specs.Prelude.{not, All}
use Rattle.std.proofs.lemmas.Bool.{both_ways, cases_Bool, eq-eqb, eqb-true, or_cases, or_left, or_right}
use Rattle.std.proofs.lemmas.List.{take_more, take_all}
use Rattle.std.proofs.lemmas.List.Elements.{All-push, All-weaker, recursion_from_All}
use Rattle.std.specs.List.{AllByRecursion}
use Rattle.clause_core.specs.declared.literal.Lit.{Lit}
use Rattle.clause_core.specs.Members.{has}
use Rattle.sat_solver.specs.Assigned.{is_false, AllFalse, IsUnit, IsOpen, differs}
use Rattle.sat_solver.proofs.MarkLemmas.{has_push}
use Rattle.sat_solver.proofs.TrailLemmas.{lit_eq}

all_has_in : (P : Lit → Type 0) (c : List Lit) → AllByRecursion P c → (l : Lit) → has c l ≡ true → P l
all_has_in P [] a l h = cc
all_has_in P (x ∷ c) a l h = elim (or_cases (eqb x.code l.code) (has c l) h) [
  | inl e ↦ subst P (lit_eq x l (eqb-true x.code l.code e)) a.0
  | inr i ↦ all_has_in P c a.1 l i
]

-- what holds of each literal of a clause holds of one that the clause has
pub all_has : (P : Lit → Type 0) (c : List Lit) → All P c → (l : Lit) → has c l ≡ true → P l
all_has P c a l h = all_has_in P c (recursion_from_All P c a) l h

-- the literal at an index is one of the clause
pub has_at : (c : List Lit) (i : ℕ) (d : Lit) → i < length c → has c (get_or c i d) ≡ true
has_at [] i d h = absurd (omega arith)
has_at (x ∷ c) zero d h = or_left (eqb x.code x.code) (has c x) (eq-eqb x.code x.code refl)
has_at (x ∷ c) (suc i) d h = or_right (eqb x.code (get_or c i d).code) (has c (get_or c i d)) (has_at c i d (omega arith))

pub has_front : (c : List Lit) (i : ℕ) (l : Lit) → has (take i c) l ≡ true → has c l ≡ true
has_front c zero l h = cc
has_front [] (suc i) l h = h
has_front (x ∷ c) (suc i) l h = elim (or_cases (eqb x.code l.code) (has (take i c) l) h) [
  | inl e ↦ or_left (eqb x.code l.code) (has c l) e
  | inr t ↦ or_right (eqb x.code l.code) (has c l) (has_front c i l t)
]

-- what the first literals say: all are false but the free one
abbrev pub Scanned : List Lit → List Lit → Option Lit → Type 0
Scanned true_ones seen None = AllFalse true_ones seen
Scanned true_ones seen (Some l) = IsUnit true_ones seen l

-- a clause with a literal that is not false, and is true
pub open_true : (t c : List Lit) (l : Lit) → has c l ≡ true → has t l ≡ true → is_false t l ≡ false → IsOpen t c
open_true t c l here on off = record {
  not_forcing = λ k u. elim (cases_Bool (eqb l.code k.code)) [
    | inl e ↦ both_ways (has t k) u.free (ap (has t) (sym (lit_eq l k (eqb-true l.code k.code e))) ∙ on)
    | inr n ↦ both_ways (is_false t l) off (all_has (λ k'. eqb k'.code k.code ≡ false → is_false t k' ≡ true) c u.others l here n)
  ];
  not_false = λ a. both_ways (is_false t l) off (all_has (λ k. is_false t k ≡ true) c a l here);
}

-- a clause with two literals that are not false
pub open_two : (t c seen : List Lit) (free : Option Lit) (l : Lit) → ((k : Lit) → has seen k ≡ true → has c k ≡ true) → Scanned t seen free → differs free l ≡ true → has c l ≡ true → is_false t l ≡ false → IsOpen t c
open_two t c seen None l sub s d here off = cc
open_two t c seen (Some o) l sub s d here off = record {
  not_forcing = λ k u. elim (cases_Bool (eqb l.code k.code)) [
    | inl e ↦ both_ways (is_false t o) s.not_false (all_has (λ k'. eqb k'.code k.code ≡ false → is_false t k' ≡ true) c u.others o (sub o s.own)
        (subst (λ n. eqb o.code n ≡ false) (eqb-true l.code k.code e) (not_true (eqb o.code l.code) d)))
    | inr n ↦ both_ways (is_false t l) off (all_has (λ k'. eqb k'.code k.code ≡ false → is_false t k' ≡ true) c u.others l here n)
  ];
  not_false = λ a. both_ways (is_false t l) off (all_has (λ k. is_false t k ≡ true) c a l here);
} where
  not_true : (b : Bool) → not b ≡ true → b ≡ false
  not_true true h = cc
  not_true false h = refl

-- one more literal, that is false
pub scanned_false : (t seen : List Lit) (free : Option Lit) (l : Lit) → Scanned t seen free → is_false t l ≡ true → Scanned t (seen ++ l ∷ []) free
scanned_false t seen None l s f = All-push (λ k. is_false t k ≡ true) seen l s f
scanned_false t seen (Some o) l s f = record {
  own = has_push seen l o ∙ or_left (has seen o) (eqb l.code o.code) s.own;
  free = s.free;
  not_false = s.not_false;
  others = All-push (λ k. eqb k.code o.code ≡ false → is_false t k ≡ true) seen l s.others (λ n. f);
}

-- one more literal, that is the free one
pub scanned_free : (t seen : List Lit) (free : Option Lit) (l : Lit) → Scanned t seen free → differs free l ≡ false → has t l ≡ false → is_false t l ≡ false → Scanned t (seen ++ l ∷ []) (Some l)
scanned_free t seen free l s d off open_too = record {
  own = has_push seen l l ∙ or_right (has seen l) (eqb l.code l.code) (eq-eqb l.code l.code refl);
  free = off;
  not_false = open_too;
  others = All-push (λ k. eqb k.code l.code ≡ false → is_false t k ≡ true) seen l (before free s d) (λ n. absurd (both_ways (eqb l.code l.code) n (eq-eqb l.code l.code refl)));
} where
  not_false_is : (b : Bool) → not b ≡ false → b ≡ true
  not_false_is true h = refl
  not_false_is false h = cc

  before : (f : Option Lit) → Scanned t seen f → differs f l ≡ false → All (λ k. eqb k.code l.code ≡ false → is_false t k ≡ true) seen
  before None s d = All-weaker (λ k. is_false t k ≡ true) (λ k. eqb k.code l.code ≡ false → is_false t k ≡ true) (λ k h n. h) seen s
  before (Some o) s d = subst (λ n. All (λ k. eqb k.code n ≡ false → is_false t k ≡ true) seen) (eqb-true o.code l.code (not_false_is (eqb o.code l.code) d)) s.others

-- the same by the index of the literal
pub open_two_at : (t c : List Lit) (i : ℕ) (d : Lit) (free : Option Lit) → i < length c → Scanned t (take i c) free → differs free (get_or c i d) ≡ true → is_false t (get_or c i d) ≡ false → IsOpen t c
open_two_at t c i d free h s two off = open_two t c (take i c) free (get_or c i d) (has_front c i) s two (has_at c i d h) off

pub scanned_false_at : (t c : List Lit) (i : ℕ) (d : Lit) (free : Option Lit) → i < length c → Scanned t (take i c) free → is_false t (get_or c i d) ≡ true → Scanned t (take (i + 1) c) free
scanned_false_at t c i d free h s f = subst (λ seen. Scanned t seen free) (sym (take_more c i d h)) (scanned_false t (take i c) free (get_or c i d) s f)

pub scanned_free_at : (t c : List Lit) (i : ℕ) (d : Lit) (free : Option Lit) → i < length c → Scanned t (take i c) free → differs free (get_or c i d) ≡ false → has t (get_or c i d) ≡ false → is_false t (get_or c i d) ≡ false → Scanned t (take (i + 1) c) (Some (get_or c i d))
scanned_free_at t c i d free h s same off not_false = subst (λ seen. Scanned t seen (Some (get_or c i d))) (sym (take_more c i d h)) (scanned_free t (take i c) free (get_or c i d) s same off not_false)

pub scanned_none : (t c : List Lit) (i : ℕ) (free : Option Lit) → length c ≤ i → free ≡ None → Scanned t (take i c) free → AllFalse t c
scanned_none t c i free h e s = subst (AllFalse t) (take_all i c h) (subst (Scanned t (take i c)) e s)

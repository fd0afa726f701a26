-- A resolution step, from the clause to its marks.
use Rattle.std.proofs.Common.{◌≡◌, ℕ, ◌+◌, ◌*◌, ◌<◌, ◌≤◌, ◌&&◌, ◌||◌, Bool, true, false, List, length, cond, eqb, refl, sym, ◌∙◌, ap, subst, inl, inr, arith}
use Rattle.std.specs.Prelude.{not}
use Rattle.std.proofs.lemmas.Bool.{cases_eq, eq-eqb, ne_eqb, and_left, and_right}
use Rattle.std.proofs.lemmas.List.{get_or_past}
use Rattle.std.proofs.lemmas.List.Folds.{list_any_none}
use Rattle.std.proofs.lemmas.List.Elements.{All-weaker}
use Rattle.clause_core.specs.declared.literal.Lit.{Lit}
use Rattle.clause_core.specs.Literal.{positive, negative}
use Rattle.clause_derivation.specs.Resolution.{without, clash, others, chosen, resolvent}
use Rattle.clause_core.specs.Members.{has}
use Rattle.clause_derivation.specs.Marking.{mark_of, AreMarks, HavePlaces, LosesMark, Stepped}
use Rattle.clause_derivation.proofs.MarkLemmas.{has-append, has-without, AreMarkedToo}

eqb_comm : (a b : ℕ) → eqb a b ≡ eqb b a
eqb_comm a b = elim (cases_eq a b) [
  | inl e ↦ eq-eqb a b e ∙ sym (eq-eqb b a (sym e))
  | inr n ↦ ne_eqb a b n ∙ sym (ne_eqb b a (λ e. n (sym e)))
]

cond_and : (b h : Bool) → cond b false h ≡ (h && not b)
cond_and true true = refl
cond_and true false = refl
cond_and false true = refl
cond_and false false = refl

-- a literal loses its mark, and the others of a second clause gain theirs
pub replaced : (old mid new : List Bool) (d : List Lit) (l m : Lit) → LosesMark old mid l → AreMarkedToo mid new (without d m) → (c : List Lit) → AreMarks old c → AreMarks new (others c l d m)
replaced old mid new d l m lost more c given k =
    more k
    ∙ ap (λ b. b || has (without d m) k) (lost k ∙ ap (cond (eqb l.code k.code) false) (given k) ∙ cond_and (eqb l.code k.code) (has c k) ∙ ap (λ b. has c k && not b) (eqb_comm l.code k.code) ∙ sym (has-without c l k))
    ∙ sym (has-append (without c l) (without d m) k)

-- a literal that has no place is in no clause that has places
pub has_no_place : (n : ℕ) (d : List Lit) (l : Lit) → HavePlaces n d → n ≤ l.code → has d l ≡ false
has_no_place n d l h past = list_any_none (λ k. eqb k.code l.code) d
    (All-weaker (λ k. k.code < n) (λ k. eqb k.code l.code ≡ false) (λ k below. ne_eqb k.code l.code (λ e. absurd (omega arith))) d h)

-- what a step leaves, by the two ways in which the marks clash with the second clause
pub stepped_by : (old new : List Bool) (p : ℕ) (d : List Lit) (f b r : Bool) (c : List Lit) → AreMarks old c
    → f ≡ (mark_of old (positive p) && has d (negative p)) → b ≡ (mark_of old (negative p) && has d (positive p))
    → Stepped old new (chosen f b (others c (positive p) d (negative p)) (others c (negative p) d (positive p))) r
    → Stepped old new (resolvent p c d) r
stepped_by old new p d f b r c given forth back done =
    let one : f ≡ clash c (positive p) d (negative p) = forth ∙ ap (λ h. h && has d (negative p)) (given (positive p)) in
    let two : b ≡ clash c (negative p) d (positive p) = back ∙ ap (λ h. h && has d (positive p)) (given (negative p)) in
    let X : List Lit = others c (positive p) d (negative p) in
    let Y : List Lit = others c (negative p) d (positive p) in
    subst (λ v. Stepped old new (chosen v (clash c (negative p) d (positive p)) X Y) r) one
    (subst (λ v. Stepped old new (chosen f v X Y) r) two done)

-- no step on a variable whose negation has no place
pub past_step : (old : List Bool) (p : ℕ) (d : List Lit) → HavePlaces (length old) d → length old ≤ 2 * p + 1 → (c : List Lit) → AreMarks old c → Stepped old old (resolvent p c d) false
past_step old p d h past c given =
    stepped_by old old p d false false false c given
    (sym (and_right (mark_of old (positive p)) (has d (negative p)) (has_no_place (length old) d (negative p) h past)))
    (sym (and_left (mark_of old (negative p)) (has d (positive p)) (get_or_past old (2 * p + 1) false past)))
    refl

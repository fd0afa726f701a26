-- A resolution step with a reason, on marks.
use Rattle.std.proofs.Common.{◌≡◌, ℕ, ◌+◌, ◌-◌, ◌*◌, ◌/◌, ◌%◌, ◌&&◌, ◌||◌, ◌⊎◌, Bool, true, false, List, [], ◌∷◌, cond, eqb, refl, sym, ◌∙◌, ap, subst, inl, inr, arith}
use Rattle.std.specs.Prelude.{not, IsSomeAnd}
use Rattle.std.proofs.lemmas.Bool.{both_ways, cases_eq, eq-eqb, ne_eqb, and_right}
use Rattle.clause_core.specs.declared.literal.Lit.{Lit}
use Rattle.clause_core.specs.Literal.{positive, negative, variable_of, opposite}
use Rattle.clause_derivation.specs.Resolution.{without, clash, others, chosen, resolvent}
use Rattle.clause_core.specs.Members.{has}
use Rattle.clause_derivation.specs.Marking.{mark_of, AreMarks, LosesMark}
use Rattle.sat_solver.specs.Resolving.{IsStep}
use Rattle.sat_solver.specs.Naming.{IsReasonFor}
use Rattle.sat_solver.proofs.MarkLemmas.{has-append}
use Rattle.sat_solver.proofs.TrailLemmas.{lit_eq}

-- what is left without a literal
pub has-without : (c : List Lit) (l k : Lit) → has (without c l) k ≡ (has c k && not (eqb k.code l.code))
has-without [] l k = refl
has-without (x ∷ c) l k = grind (arith, has-without c l k)

eqb_comm : (a b : ℕ) → eqb a b ≡ eqb b a
eqb_comm a b = elim (cases_eq a b) [
  | inl e ↦ eq-eqb a b e ∙ sym (eq-eqb b a (sym e))
  | inr n ↦ ne_eqb a b n ∙ sym (ne_eqb b a (λ e. n (sym e)))
]

cond_and : (b h : Bool) → cond b false h ≡ (h && not b)
cond_and true true = refl
cond_and true false = refl
cond_and false true = refl
cond_and false false = refl

-- a literal loses its mark, and the others of a second clause gain theirs
replaced : (old mid new : List Bool) (d : List Lit) (l m : Lit) → LosesMark old mid l → ((k : Lit) → mark_of new k ≡ (mark_of mid k || has (without d m) k)) → (c : List Lit) → AreMarks old c → AreMarks new (others c l d m)
replaced old mid new d l m lost more c given k =
    more k
    ∙ ap (λ b. b || has (without d m) k) (lost k ∙ ap (cond (eqb l.code k.code) false) (given k) ∙ cond_and (eqb l.code k.code) (has c k) ∙ ap (λ b. has c k && not b) (eqb_comm l.code k.code) ∙ sym (has-without c l k))
    ∙ sym (has-append (without c l) (without d m) k)

chosen_forth : (P : List Lit → Type 0) (f b : Bool) (x y : List Lit) → f ≡ true → b ≡ false → P x → IsSomeAnd (chosen f b x y) P
chosen_forth P true false x y e g p = p
chosen_forth P true true x y e g p = absurd (both_ways true g refl)
chosen_forth P false b x y e g p = absurd (both_ways false refl e)

chosen_back : (P : List Lit → Type 0) (f b : Bool) (x y : List Lit) → f ≡ false → b ≡ true → P y → IsSomeAnd (chosen f b x y) P
chosen_back P false true x y e g p = p
chosen_back P false false x y e g p = absurd (both_ways false refl g)
chosen_back P true b x y e g p = absurd (both_ways true e refl)

and_both : (a b : Bool) → a ≡ true → b ≡ true → (a && b) ≡ true
and_both true b p q = q
and_both false b p q = absurd (both_ways false refl p)

-- The step on the variable of l, where the clause has the opposite of l, m, and the reason has l and
-- not m.
by_sign : (P : List Lit → Type 0) (c d : List Lit) (l m : Lit) (v : ℕ) → (((positive v ≡ l) × (negative v ≡ m)) ⊎ ((positive v ≡ m) × (negative v ≡ l))) → has c m ≡ true → has d l ≡ true → has d m ≡ false → P (others c m d l) → IsSomeAnd (resolvent v c d) P
by_sign P c d l m v (inl h) on own way p =
    chosen_back P (clash c (positive v) d (negative v)) (clash c (negative v) d (positive v)) (others c (positive v) d (negative v)) (others c (negative v) d (positive v))
    (and_right (has c (positive v)) (has d (negative v)) (ap (has d) h.1 ∙ way))
    (and_both (has c (negative v)) (has d (positive v)) (ap (has c) h.1 ∙ on) (ap (has d) h.0 ∙ own))
    (subst (λ x. P (others c x d (positive v))) (sym h.1) (subst (λ x. P (others c m d x)) (sym h.0) p))
by_sign P c d l m v (inr h) on own way p =
    chosen_forth P (clash c (positive v) d (negative v)) (clash c (negative v) d (positive v)) (others c (positive v) d (negative v)) (others c (negative v) d (positive v))
    (and_both (has c (positive v)) (has d (negative v)) (ap (has c) h.0 ∙ on) (ap (has d) h.1 ∙ own))
    (and_right (has c (negative v)) (has d (positive v)) (ap (has d) h.0 ∙ way))
    (subst (λ x. P (others c x d (negative v))) (sym h.0) (subst (λ x. P (others c m d x)) (sym h.1) p))

-- the two literals of a variable
signs : (l : Lit) → ((positive (variable_of l) ≡ l) × (negative (variable_of l) ≡ opposite l)) ⊎ ((positive (variable_of l) ≡ opposite l) × (negative (variable_of l) ≡ l))
signs l = elim (cases_eq (l.code % 2) 1) [
  | inl o ↦
      let less : 2 * (l.code / 2) ≡ l.code - 1 = omega arith in
      let more : 2 * (l.code / 2) + 1 ≡ l.code = omega arith in
      inr (lit_eq (positive (variable_of l)) (opposite l) (less ∙ sym (ap (λ b. cond b (l.code - 1) (l.code + 1)) (eq-eqb (l.code % 2) 1 o))), lit_eq (negative (variable_of l)) l more)
  | inr e ↦
      let same : 2 * (l.code / 2) ≡ l.code = omega arith in
      let next_one : 2 * (l.code / 2) + 1 ≡ l.code + 1 = omega arith in
      inl (lit_eq (positive (variable_of l)) l same, lit_eq (negative (variable_of l)) (opposite l) (next_one ∙ sym (ap (λ b. cond b (l.code - 1) (l.code + 1)) (ne_eqb (l.code % 2) 1 e))))
]

-- a step with a reason
pub step_taken : (old mid new : List Bool) (d : List Lit) (l : Lit) → mark_of old (opposite l) ≡ true → IsReasonFor d l → LosesMark old mid (opposite l) → ((k : Lit) → mark_of new k ≡ (mark_of mid k || has (without d l) k)) → IsStep old new (variable_of l) d
step_taken old mid new d l on reason lost more c given =
    by_sign (AreMarks new) c d l (opposite l) (variable_of l) (signs l) (sym (given (opposite l)) ∙ on) reason.own reason.one_way
    (replaced old mid new d (opposite l) l lost more c given)

-- Marks after a write, and the literals of clauses that grow.
use Rattle.std.proofs.Common.{◌≡◌, ℕ, ◌+◌, ◌<◌, ◌≤◌, ◌&&◌, ◌||◌, ◌++◌, Bool, true, false, List, [], ◌∷◌, length, get_or, set, take, cond, eqb, refl, sym, ◌∙◌, ap, subst, inl, inr, arith}
use Rattle.std.specs.Prelude.{not}
use Rattle.std.proofs.lemmas.Bool.{both_ways, cases_eq, cases_lt, eq-eqb, ne_eqb, eqb-true}
use Rattle.std.proofs.lemmas.List.{get_or-set_same, get_or-set_other, get_or_past}
use Rattle.std.proofs.lemmas.List.Folds.{list_any-append, list_any_more}
use Rattle.clause_core.specs.declared.literal.Lit.{Lit}
use Rattle.clause_core.specs.Members.{has, times}
use Rattle.std.proofs.lemmas.List.Sums.{sum_by-append}
use Rattle.std.proofs.lemmas.List.Elements.{All-push}
use Rattle.clause_derivation.specs.Marking.{mark_of, AreWithin, LosesMark, HavePlaces}

-- a mark after a write
pub mark_of-set : (m : List Bool) (at : ℕ) (b : Bool) (k : Lit) → at < length m → mark_of (set m at b) k ≡ cond (eqb at k.code) b (mark_of m k)
mark_of-set m at b k h =
    elim (cases_eq at k.code) as (λ _. mark_of (set m at b) k ≡ cond (eqb at k.code) b (mark_of m k)) [
      | inl e ↦ rw (eq-eqb at k.code e) (ap (λ n. get_or (set m at b) n false) (sym e) ∙ get_or-set_same m at b false h)
      | inr n ↦ rw (ne_eqb at k.code n) (get_or-set_other m at k.code b false (λ e. n (sym e)))
    ]

-- the literals of two clauses together
pub has-append : (c d : List Lit) (l : Lit) → has (c ++ d) l ≡ (has c l || has d l)
has-append c d l = list_any-append (λ k. eqb k.code l.code) c d

-- one more literal
pub has_more : (c : List Lit) (i : ℕ) (d k : Lit) → i < length c → has (take (i + 1) c) k ≡ (has (take i c) k || eqb (get_or c i d).code k.code)
has_more c i d k h = list_any_more (λ x. eqb x.code k.code) c i d h

or_false : (b : Bool) → (b || false) ≡ b
or_false true = refl
or_false false = refl

-- one more literal at the end
pub has_push : (c : List Lit) (x k : Lit) → has (c ++ x ∷ []) k ≡ (has c k || eqb x.code k.code)
has_push c x k = has-append c (x ∷ []) k ∙ ap (λ b. has c k || b) (or_false (eqb x.code k.code))

or_assoc : (a b c : Bool) → ((a || b) || c) ≡ (a || (b || c))
or_assoc true b c = refl
or_assoc false b c = refl

and_write : (b m h : Bool) → cond b false (m && not h) ≡ (m && not (h || b))
and_write true true true = refl
and_write true true false = refl
and_write true false h = refl
and_write false true true = refl
and_write false true false = refl
and_write false false h = refl

-- one more literal has lost its mark
pub unmarked_more : (m0 m n : List Bool) (lits : List Lit) (i : ℕ) (d : Lit) → i < length lits → ((k : Lit) → mark_of m k ≡ (mark_of m0 k && not (has (take i lits) k))) → LosesMark m n (get_or lits i d) → (k : Lit) → mark_of n k ≡ (mark_of m0 k && not (has (take (i + 1) lits) k))
unmarked_more m0 m n lits i d h given lost k =
    lost k ∙ ap (cond (eqb (get_or lits i d).code k.code) false) (given k)
    ∙ and_write (eqb (get_or lits i d).code k.code) (mark_of m0 k) (has (take i lits) k)
    ∙ ap (λ b. mark_of m0 k && not b) (sym (has_more lits i d k h))

-- one more literal is marked
pub marked_more : (m0 m n : List Bool) (lits : List Lit) (i : ℕ) (d : Lit) → i < length lits → ((k : Lit) → mark_of m k ≡ (mark_of m0 k || has (take i lits) k)) → ((k : Lit) → mark_of n k ≡ (mark_of m k || eqb (get_or lits i d).code k.code)) → (k : Lit) → mark_of n k ≡ (mark_of m0 k || has (take (i + 1) lits) k)
marked_more m0 m n lits i d h given more k =
    more k ∙ ap (λ b. b || eqb (get_or lits i d).code k.code) (given k)
    ∙ or_assoc (mark_of m0 k) (has (take i lits) k) (eqb (get_or lits i d).code k.code)
    ∙ ap (λ b. mark_of m0 k || b) (sym (has_more lits i d k h))

-- a place that is marked is there
pub marked_within : (m : List Bool) (l : Lit) → mark_of m l ≡ true → l.code < length m
marked_within m l t = elim (cases_lt l.code (length m)) [
  | inl h ↦ h
  | inr h ↦ absurd (both_ways (mark_of m l) (get_or_past m l.code false h) t)
]

-- one more literal at the end, counted
pub times_push : (c : List Lit) (x k : Lit) → times k (c ++ x ∷ []) ≡ times k c + cond (eqb x.code k.code) 1 0
times_push c x k = omega (arith, sum_by-append (λ (y : Lit). cond (eqb y.code k.code) 1 0) c (x ∷ []))

-- what gathering has done so far: each marked literal of before is marked still, or has come out
-- once, and what is marked still is among the rest
pub record Gathers (m0 m : List Bool) (out rest : List Lit) : Type 0 where
  pub within : AreWithin m rest
  pub marks : (k : Lit) → mark_of m0 k ≡ (mark_of m k || has out k)
  pub once : (k : Lit) → times k out + cond (mark_of m k) 1 0 ≤ 1
  pub places : HavePlaces (length m0) out

same_code : (m : List Bool) (x k : Lit) → eqb x.code k.code ≡ true → mark_of m k ≡ mark_of m x
same_code m x k e = ap (λ n. get_or m n false) (sym (eqb-true x.code k.code e))

within_one : (m : List Bool) (x : Lit) (rest : List Lit) → AreWithin m (x ∷ rest) → (k : Lit) (e : Bool) → e ≡ eqb x.code k.code → (e ≡ true → mark_of m k ≡ false) → mark_of m k ≡ true → has rest k ≡ true
within_one m x rest w k true e f t = absurd (both_ways (mark_of m k) (f refl) t)
within_one m x rest w k false e f t = ap (λ b. b || has rest k) e ∙ w k t

taken_mark : (e mk h m0 : Bool) → m0 ≡ (mk || h) → (e ≡ true → mk ≡ true) → m0 ≡ (cond e false mk || (h || e))
taken_mark true true true m0 g f = g
taken_mark true true false m0 g f = g
taken_mark true false h m0 g f = absurd (both_ways false refl (f refl))
taken_mark false true h m0 g f = g
taken_mark false false true m0 g f = g
taken_mark false false false m0 g f = g

once_taken : (e mk : Bool) (n : ℕ) → (e ≡ true → mk ≡ true) → n + cond mk 1 0 ≤ 1 → (n + cond e 1 0) + cond (cond e false mk) 1 0 ≤ 1
once_taken true true n f h = omega arith
once_taken true false n f h = absurd (both_ways false refl (f refl))
once_taken false true n f h = omega arith
once_taken false false n f h = omega arith

-- a marked literal comes out
pub gathers_one : (m0 m n : List Bool) (out rest : List Lit) (x : Lit) → length m ≡ length m0 → mark_of m x ≡ true → LosesMark m n x → Gathers m0 m out (x ∷ rest) → Gathers m0 n (out ++ x ∷ []) rest
gathers_one m0 m n out rest x same t lost g = record {
  within = λ k h. within_left k h;
  marks = λ k. taken_mark (eqb x.code k.code) (mark_of m k) (has out k) (mark_of m0 k) (g.marks k) (λ e. same_code m x k e ∙ t) ∙ ap (λ b. b || (has out k || eqb x.code k.code)) (sym (lost k)) ∙ ap (λ b. mark_of n k || b) (sym (has_push out x k));
  once = λ k. subst (λ v. times k (out ++ x ∷ []) + cond v 1 0 ≤ 1) (sym (lost k)) (subst (λ v. v + cond (cond (eqb x.code k.code) false (mark_of m k)) 1 0 ≤ 1) (sym (times_push out x k)) (once_taken (eqb x.code k.code) (mark_of m k) (times k out) (λ e. same_code m x k e ∙ t) (g.once k)));
  places = All-push (λ l. l.code < length m0) out x g.places (subst (λ v. x.code < v) same (marked_within m x t));
} where
  left_of : (e mk h r : Bool) → (cond e false mk) ≡ true → (mk ≡ true → (e || r) ≡ true) → r ≡ true
  left_of true mk h r a f = cc
  left_of false mk h r a f = f a

  within_left : (k : Lit) → mark_of n k ≡ true → has rest k ≡ true
  within_left k h = left_of (eqb x.code k.code) (mark_of m k) true (has rest k) (sym (lost k) ∙ h) (g.within k)

-- a literal that is not marked is passed by
pub gathers_none : (m0 m : List Bool) (out rest : List Lit) (x : Lit) → mark_of m x ≡ false → Gathers m0 m out (x ∷ rest) → Gathers m0 m out rest
gathers_none m0 m out rest x f g = record {
  within = λ k t. within_one m x rest g.within k (eqb x.code k.code) refl (λ e. same_code m x k e ∙ f) t;
  marks = g.marks;
  once = g.once;
  places = g.places;
}

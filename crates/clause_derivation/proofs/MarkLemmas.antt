-- Marks after a write, and the literals of clauses that are put together.
use Rattle.std.proofs.Common.{◌≡◌, ℕ, ◌+◌, ◌<◌, ◌&&◌, ◌||◌, ◌++◌, Bool, true, false, List, [], ◌∷◌, length, get_or, set, take, cond, eqb, refl, sym, ◌∙◌, ap, inl, inr, arith}
use Rattle.std.specs.Prelude.{not}
use Rattle.std.proofs.lemmas.Bool.{both_ways, cases_eq, cases_lt, eq-eqb, ne_eqb, eqb-true, or_cases, or_left, or_right, and_from}
use Rattle.std.proofs.lemmas.List.{get_or-set_same, get_or-set_other, get_or_past}
use Rattle.std.proofs.lemmas.List.Folds.{list_any-append, list_any_more}
use Rattle.clause_core.specs.declared.literal.Lit.{Lit}
use Rattle.clause_derivation.specs.Resolution.{without}
use Rattle.clause_core.specs.Members.{has}
use Rattle.clause_derivation.specs.Marking.{mark_of, Unmarks}

-- a mark after a write
pub mark_of-set : (m : List Bool) (at : ℕ) (b : Bool) (k : Lit) → at < length m → mark_of (set m at b) k ≡ cond (eqb at k.code) b (mark_of m k)
mark_of-set m at b k h =
    elim (cases_eq at k.code) as (λ _. mark_of (set m at b) k ≡ cond (eqb at k.code) b (mark_of m k)) [
      | inl e ↦ rw (eq-eqb at k.code e) (ap (λ n. get_or (set m at b) n false) (sym e) ∙ get_or-set_same m at b false h)
      | inr n ↦ rw (ne_eqb at k.code n) (get_or-set_other m at k.code b false (λ e. n (sym e)))
    ]

-- the literals of two clauses together
pub has-append : (c d : List Lit) (l : Lit) → has (c ++ d) l ≡ (has c l || has d l)
has-append c d l = list_any-append (λ k. eqb k.code l.code) c d

-- what is left without a literal
pub has-without : (c : List Lit) (l k : Lit) → has (without c l) k ≡ (has c k && not (eqb k.code l.code))
has-without [] l k = refl
has-without (x ∷ c) l k = grind (arith, has-without c l k)

-- one more literal
pub has_more : (c : List Lit) (i : ℕ) (d k : Lit) → i < length c → has (take (i + 1) c) k ≡ (has (take i c) k || eqb (get_or c i d).code k.code)
has_more c i d k h = list_any_more (λ x. eqb x.code k.code) c i d h

or_false : (b : Bool) → (b || false) ≡ b
or_false true = refl
or_false false = refl

-- one more literal at the end
pub has_push : (c : List Lit) (x k : Lit) → has (c ++ x ∷ []) k ≡ (has c k || eqb x.code k.code)
has_push c x k = has-append c (x ∷ []) k ∙ ap (λ b. has c k || b) (or_false (eqb x.code k.code))

-- the marks m are those of m0 and those of a clause
abbrev pub AreMarkedToo : List Bool → List Bool → List Lit → Type 0
AreMarkedToo m0 m c = (l : Lit) → mark_of m l ≡ (mark_of m0 l || has c l)

or_assoc : (a b c : Bool) → (a || b || c) ≡ (a || (b || c))
or_assoc true b c = refl
or_assoc false b c = refl

or_write : (b m h : Bool) → cond b true (m || h) ≡ (m || (h || b))
or_write true true h = refl
or_write true false true = refl
or_write true false false = refl
or_write false true h = refl
or_write false false true = refl
or_write false false false = refl

-- one more literal is marked
pub marked_more : (m0 m : List Bool) (c : List Lit) (x : Lit) → x.code < length m → AreMarkedToo m0 m c → AreMarkedToo m0 (set m x.code true) (c ++ x ∷ [])
marked_more m0 m c x h given l =
    mark_of-set m x.code true l h ∙ ap (cond (eqb x.code l.code) true) (given l)
    ∙ or_write (eqb x.code l.code) (mark_of m0 l) (has c l)
    ∙ ap (λ b. mark_of m0 l || b) (sym (has_push c x l))

-- a mark and its absence cannot both be
clash_of : {A : Type 0} (b : Bool) → b ≡ true → b ≡ false → A
clash_of b p q = absurd (both_ways b q p)

-- a mark that is left has a mark that was there
pub left_was : (a h b : Bool) → b ≡ (a && not h) → b ≡ true → (a ≡ true) × (h ≡ false)
left_was true true b e t = clash_of b t e
left_was true false b e t = (refl, refl)
left_was false true b e t = clash_of b t e
left_was false false b e t = clash_of b t e

-- the marks of one literal are the marks of its code
same_mark : (m : List Bool) (x l : Lit) → eqb x.code l.code ≡ true → mark_of m l ≡ mark_of m x
same_mark m x l e = ap (λ n. get_or m n false) (sym (eqb-true x.code l.code e))

and_write : (b m h : Bool) → cond b false (m && not h) ≡ (m && not (h || b))
and_write true true true = refl
and_write true true false = refl
and_write true false h = refl
and_write false true true = refl
and_write false true false = refl
and_write false false h = refl

-- nothing changes where a literal that has no mark is counted too
passed : (b h old mid : Bool) → mid ≡ (old && not h) → (b ≡ true → mid ≡ false) → mid ≡ (old && not (h || b))
passed true true old mid e f = e
passed true false true mid e f = f refl
passed true false false mid e f = e
passed false true old mid e f = e
passed false false old mid e f = e

-- what has no mark now, and was none of the clean ones, had none
unmarked : (h old mid : Bool) → mid ≡ (old && not h) → mid ≡ false → (h ≡ true → old ≡ false) → old ≡ false
unmarked true old mid e f g = g refl
unmarked false true mid e f g = cc
unmarked false false mid e f g = refl

-- a place that is marked is there
pub marked_within : (m : List Bool) (l : Lit) → mark_of m l ≡ true → l.code < length m
marked_within m l t = elim (cases_lt l.code (length m)) [
  | inl h ↦ h
  | inr h ↦ clash_of (mark_of m l) t (get_or_past m l.code false h)
]

-- Taking one more mark away, that was there.
pub unmarks_one : (old mid : List Bool) (c : List Lit) (r : Bool) (x : Lit) → Unmarks old mid c r → mark_of mid x ≡ true → Unmarks old (set mid x.code false) (c ++ x ∷ []) false
unmarks_one old mid c r x u t = record {
  cleared = λ l. mark_of-set mid x.code false l (marked_within mid x t) ∙ ap (cond (eqb x.code l.code) false) (u.cleared l) ∙ and_write (eqb x.code l.code) (mark_of old l) (has c l) ∙ ap (λ b. mark_of old l && not b) (sym (has_push c x l));
  clean = λ f. cc;
  found = λ f. clash_of (mark_of old x) (left_was (mark_of old x) (has c x) (mark_of mid x) (u.cleared x) t).0 (f x (has_push c x x ∙ or_right (has c x) (eqb x.code x.code) (eq-eqb x.code x.code refl)));
}

-- A literal that has no mark is passed by.
pub unmarks_none : (old mid : List Bool) (c : List Lit) (r : Bool) (x : Lit) → Unmarks old mid c r → mark_of mid x ≡ false → Unmarks old mid (c ++ x ∷ []) r
unmarks_none old mid c r x u f = record {
  cleared = λ l. passed (eqb x.code l.code) (has c l) (mark_of old l) (mark_of mid l) (u.cleared l) (λ e. same_mark mid x l e ∙ f) ∙ ap (λ b. mark_of old l && not b) (sym (has_push c x l));
  clean = λ t l h. elim (or_cases (has c l) (eqb x.code l.code) (sym (has_push c x l) ∙ h)) [
    | inl i ↦ u.clean t l i
    | inr e ↦ unmarked (has c l) (mark_of old l) (mark_of mid l) (u.cleared l) (same_mark mid x l e ∙ f) (u.clean t l)
  ];
  found = λ g. u.found (λ l i. g l (has_push c x l ∙ or_left (has c l) (eqb x.code l.code) i));
}

pub and_split : (a b : Bool) → (a && b) ≡ true → (a ≡ true) × (b ≡ true)
and_split true b h = (refl, h)
and_split false b h = cc

and_nor : (o h k : Bool) → (o && not h && not k) ≡ (o && not (h || k))
and_nor true true k = refl
and_nor true false k = refl
and_nor false h k = refl

-- The literals of one clause lose their marks, and then those of another.
pub unmarks_then : (old mid new : List Bool) (c d : List Lit) (r s : Bool) → Unmarks old mid c r → Unmarks mid new d s → Unmarks old new (c ++ d) (r && s)
unmarks_then old mid new c d r s u v = record {
  cleared = λ l. v.cleared l ∙ ap (λ b. b && not (has d l)) (u.cleared l) ∙ and_nor (mark_of old l) (has c l) (has d l) ∙ ap (λ b. mark_of old l && not b) (sym (has-append c d l));
  clean = λ t l h.
      let both : (r ≡ true) × (s ≡ true) = and_split r s t in
      elim (or_cases (has c l) (has d l) (sym (has-append c d l) ∙ h)) [
        | inl i ↦ u.clean both.0 l i
        | inr j ↦ unmarked (has c l) (mark_of old l) (mark_of mid l) (u.cleared l) (v.clean both.1 l j) (u.clean both.0 l)
      ];
  found = λ g.
      let one : r ≡ true = u.found (λ l i. g l (has-append c d l ∙ or_left (has c l) (has d l) i)) in
      let two : s ≡ true = v.found (λ l j. u.cleared l ∙ ap (λ b. b && not (has c l)) (g l (has-append c d l ∙ or_right (has c l) (has d l) j))) in
      and_from r s one two;
}

and_true : (b : Bool) → (b && true) ≡ b
and_true true = refl
and_true false = refl

-- The literals of no clause.
pub unmarks_all : (old : List Bool) → Unmarks old old [] true
unmarks_all old = record { cleared = λ l. sym (and_true (mark_of old l)); clean = λ t l h. cc; found = λ g. refl }

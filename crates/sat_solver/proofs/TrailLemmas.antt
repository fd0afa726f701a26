-- Trails that gain an entry or lose one, and what their values say.
use Rattle.std.proofs.Common.{◌≡◌, ℕ, ◌+◌, ◌-◌, ◌<◌, ◌≤◌, ◌/◌, ◌%◌, ◌*◌, ◌^◌, ◌++◌, zero, suc, Bool, true, false, List, [], ◌∷◌, length, get_or, set, take, cond, eqb, refl, sym, ◌∙◌, ap, subst, inl, inr, arith}
use Rattle.std.specs.Prelude.{not, count_by, ◌==◌, if◌then◌else◌}
use Rattle.std.proofs.lemmas.Bool.{both_ways, cases_Bool, cases_eq, eq-eqb, ne_eqb, eqb-true, or_left, or_right}
use Rattle.std.proofs.lemmas.List.{length-append, map_push, length-set}
use Rattle.std.proofs.Math.Seq.{take-append_seam}
use Rattle.std.proofs.lemmas.List.Sums.{sum_by-cons, sum_by-set, count_by-le-length}
use Rattle.clause_core.specs.declared.literal.Lit.{Lit}
use Rattle.clause_core.specs.Literal.{variable_of, is_negated, opposite}
use Rattle.clause_core.specs.Truth.{value_of, literal_true}
use Rattle.clause_core.specs.Members.{has, times}
use Rattle.clause_derivation.specs.Marking.{mark_of}
use Rattle.sat_solver.specs.declared.entry.Entry.{Entry}
use Rattle.sat_solver.specs.Assigned.{IsTrail, literals_of, is_false}
use Rattle.sat_solver.proofs.MarkLemmas.{mark_of-set, times_push, marked_within}

-- two literals of one code are one
pub lit_eq : (a b : Lit) → a.code ≡ b.code → a ≡ b
lit_eq a b e = let f : ℕ → Lit = λ n. record { code = n } in ap f e

-- the code of the opposite literal
abbrev flipped : ℕ → ℕ
flipped n = if n % 2 == 1 then n - 1 else n + 1

flipped_odd : (n : ℕ) → n % 2 ≡ 1 → flipped n ≡ n - 1
flipped_odd n h = rw (eq-eqb (n % 2) 1 h) refl

flipped_even : (n : ℕ) → n % 2 ≡ 0 → flipped n ≡ n + 1
flipped_even n h = rw (ne_eqb (n % 2) 1 (λ e. absurd (omega arith))) refl

flipped_twice : (n : ℕ) → flipped (flipped n) ≡ n
flipped_twice n = elim (cases_eq (n % 2) 1) [
  | inl o ↦
      let back : (n - 1) % 2 ≡ 0 = omega arith in
      ap flipped (flipped_odd n o) ∙ flipped_even (n - 1) back ∙ omega arith
  | inr e ↦
      let even : n % 2 ≡ 0 = omega arith in
      let back : (n + 1) % 2 ≡ 1 = omega arith in
      ap flipped (flipped_even n even) ∙ flipped_odd (n + 1) back ∙ omega arith
]

flipped_half : (n : ℕ) → flipped n / 2 ≡ n / 2
flipped_half n = elim (cases_eq (n % 2) 1) [
  | inl o ↦ ap (λ k. k / 2) (flipped_odd n o) ∙ omega arith
  | inr e ↦ let even : n % 2 ≡ 0 = omega arith in ap (λ k. k / 2) (flipped_even n even) ∙ omega arith
]

flipped_differs : (n : ℕ) → flipped n ≡ n → ⊥
flipped_differs n e = elim (cases_eq (n % 2) 1) [
  | inl o ↦ let k : n - 1 ≡ n = sym (flipped_odd n o) ∙ e in omega arith
  | inr o ↦ let even : n % 2 ≡ 0 = omega arith in let k : n + 1 ≡ n = sym (flipped_even n even) ∙ e in omega arith
]

pub opposite_twice : (l : Lit) → opposite (opposite l) ≡ l
opposite_twice l = lit_eq (opposite (opposite l)) l (flipped_twice l.code)

pub opposite_variable : (l : Lit) → variable_of (opposite l) ≡ variable_of l
opposite_variable l = flipped_half l.code

times_cons : (x : Lit) (c : List Lit) (l : Lit) → times l (x ∷ c) ≡ cond (eqb x.code l.code) 1 0 + times l c
times_cons x c l = sum_by-cons (λ (y : Lit). cond (eqb y.code l.code) 1 0) x c

-- a literal stands in a clause exactly where it is counted there
has_none : (c : List Lit) (l : Lit) → times l c ≡ 0 → has c l ≡ false
has_none [] l h = refl
has_none (x ∷ c) l h = elim (cases_Bool (eqb x.code l.code)) [
  | inl t ↦ absurd (counted_one (eqb x.code l.code) (times l c) t (sym (times_cons x c l) ∙ h))
  | inr f ↦ rw f (has_none c l (counted_none (eqb x.code l.code) (times l c) f (sym (times_cons x c l) ∙ h)))
] where
  counted_one : (b : Bool) (n : ℕ) → b ≡ true → cond b 1 0 + n ≡ 0 → ⊥
  counted_one true n t h = omega arith
  counted_one false n t h = both_ways false refl t

  counted_none : (b : Bool) (n : ℕ) → b ≡ false → cond b 1 0 + n ≡ 0 → n ≡ 0
  counted_none true n f h = absurd (both_ways true f refl)
  counted_none false n f h = omega arith

has_some : (c : List Lit) (l : Lit) → 1 ≤ times l c → has c l ≡ true
has_some [] l h = absurd (omega arith)
has_some (x ∷ c) l h = elim (cases_Bool (eqb x.code l.code)) [
  | inl t ↦ rw t refl
  | inr f ↦ rw f (has_some c l (counted_rest (eqb x.code l.code) (times l c) f (subst (λ n. 1 ≤ n) (times_cons x c l) h)))
] where
  counted_rest : (b : Bool) (n : ℕ) → b ≡ false → 1 ≤ cond b 1 0 + n → 1 ≤ n
  counted_rest true n f h = absurd (both_ways true f refl)
  counted_rest false n f h = omega arith

pub has_by_times : (c : List Lit) (l : Lit) (b : Bool) → times l c ≡ cond b 1 0 → has c l ≡ b
has_by_times c l true h = has_some c l (omega arith)
has_by_times c l false h = has_none c l h

-- the values say which literals are on the trail
pub has_mark : (n : ℕ) (es : List Entry) (m : List Bool) → IsTrail n es m → (l : Lit) → has (literals_of es) l ≡ mark_of m l
has_mark n es m t l = has_by_times (literals_of es) l (mark_of m l) (t.once l)

pub false_mark : (n : ℕ) (es : List Entry) (m : List Bool) → IsTrail n es m → (l : Lit) → is_false (literals_of es) l ≡ mark_of m (opposite l)
false_mark n es m t l = has_mark n es m t (opposite l)

times_entry : (es : List Entry) (e : Entry) (k : Lit) → times k (literals_of (es ++ e ∷ [])) ≡ times k (literals_of es) + cond (eqb e.lit.code k.code) 1 0
times_entry es e k = ap (times k) (map_push (λ (x : Entry). x.lit) es e) ∙ times_push (literals_of es) e.lit k

one_more : (b mk : Bool) (t : ℕ) → t ≡ cond mk 1 0 → (b ≡ true → mk ≡ false) → t + cond b 1 0 ≡ cond (cond b true mk) 1 0
one_more true true t h f = absurd (both_ways true (f refl) refl)
one_more true false t h f = omega arith
one_more false true t h f = omega arith
one_more false false t h f = omega arith

one_less : (b mk : Bool) (t : ℕ) → t + cond b 1 0 ≡ cond mk 1 0 → t ≡ cond (cond b false mk) 1 0
one_less true true t h = omega arith
one_less true false t h = absurd (omega arith)
one_less false true t h = omega arith
one_less false false t h = omega arith

same_mark : (m : List Bool) (x l : Lit) → eqb x.code l.code ≡ true → mark_of m l ≡ mark_of m x
same_mark m x l e = ap (mark_of m) (sym (lit_eq x l (eqb-true x.code l.code e)))

-- a literal and its opposite after one becomes true
consistent_more : (m : List Bool) (x : Lit) → x.code < length m → mark_of m x ≡ false → mark_of m (opposite x) ≡ false → ((l : Lit) → mark_of m l ≡ true → mark_of m (opposite l) ≡ false) → (l : Lit) → mark_of (set m x.code true) l ≡ true → mark_of (set m x.code true) (opposite l) ≡ false
consistent_more m x h f g given l t = mark_of-set m x.code true (opposite l) h ∙ elim (cases_Bool (eqb x.code (opposite l).code)) [
  | inl e ↦
      let back : opposite x ≡ l = ap opposite (lit_eq x (opposite l) (eqb-true x.code (opposite l).code e)) ∙ opposite_twice l in
      absurd (clash (eqb x.code l.code) (mark_of m l) (ap (mark_of m) (sym back) ∙ g)
      (λ u. flipped_differs l.code (sym (eqb-true x.code (opposite l).code e) ∙ eqb-true x.code l.code u))
      (sym (mark_of-set m x.code true l h) ∙ t))
  | inr n ↦ rw n (elim (cases_Bool (eqb x.code l.code)) [
    | inl e ↦ ap (λ y. mark_of m (opposite y)) (sym (lit_eq x l (eqb-true x.code l.code e))) ∙ g
    | inr k ↦ given l (stays (eqb x.code l.code) (mark_of m l) k (sym (mark_of-set m x.code true l h) ∙ t))
  ])
] where
  clash : (b mk : Bool) → mk ≡ false → (b ≡ true → ⊥) → cond b true mk ≡ true → ⊥
  clash true mk k u t = u refl
  clash false mk k u t = both_ways mk k t

  stays : (b mk : Bool) → b ≡ false → cond b true mk ≡ true → mk ≡ true
  stays true mk k t = absurd (both_ways true k refl)
  stays false mk k t = t

-- a true literal that is taken off
consistent_less : (m : List Bool) (x : Lit) → x.code < length m → ((l : Lit) → mark_of m l ≡ true → mark_of m (opposite l) ≡ false) → (l : Lit) → mark_of (set m x.code false) l ≡ true → mark_of (set m x.code false) (opposite l) ≡ false
consistent_less m x h given l t =
    let was : mark_of m l ≡ true = kept (eqb x.code l.code) (mark_of m l) (sym (mark_of-set m x.code false l h) ∙ t) in
    mark_of-set m x.code false (opposite l) h ∙ lower (eqb x.code (opposite l).code) (mark_of m (opposite l)) (given l was) where
      kept : (b mk : Bool) → cond b false mk ≡ true → mk ≡ true
      kept true mk t = absurd (both_ways false refl t)
      kept false mk t = t

      lower : (b mk : Bool) → mk ≡ false → cond b false mk ≡ false
      lower true mk f = refl
      lower false mk f = f

count_set : (m : List Bool) (x : Lit) (b old : Bool) → x.code < length m → mark_of m x ≡ old → count_by (λ y. y) (set m x.code b) + cond old 1 0 ≡ count_by (λ y. y) m + cond b 1 0
count_set m x b old h e = subst (λ v. count_by (λ y. y) (set m x.code b) + cond v 1 0 ≡ count_by (λ y. y) m + cond b 1 0) e (sum_by-set (λ y. cond y 1 0) m x.code b false h)

-- a trail that gains an entry whose literal has no value
pub trail_pushed : (n : ℕ) (es : List Entry) (m : List Bool) (e : Entry) → IsTrail n es m → variable_of e.lit < n → mark_of m e.lit ≡ false → mark_of m (opposite e.lit) ≡ false → IsTrail n (es ++ e ∷ []) (set m e.lit.code true)
trail_pushed n es m e t range free apart =
    let inside : e.lit.code < length m = omega (arith, t.places) in
    record {
      few = t.few;
      places = length-set m e.lit.code true ∙ t.places;
      once = λ l. times_entry es e l ∙ one_more (eqb e.lit.code l.code) (mark_of m l) (times l (literals_of es)) (t.once l) (λ u. same_mark m e.lit l u ∙ free) ∙ ap (λ b. cond b 1 0) (sym (mark_of-set m e.lit.code true l inside));
      consistent = consistent_more m e.lit inside free apart t.consistent;
      count = omega (arith, count_set m e.lit true false inside free, t.count, length-append es (e ∷ []));
    }

abbrev one_if : Bool → ℕ
one_if b = cond b 1 0

own_count : (k : ℕ) → one_if (eqb k k) ≡ one_if true
own_count k = ap one_if (eq-eqb k k refl)

entry_counted : (es : List Entry) (e : Entry) → 1 ≤ times e.lit (literals_of (es ++ e ∷ []))
entry_counted es e =
    let n : ℕ = times e.lit (literals_of es) in
    let k : times e.lit (literals_of (es ++ e ∷ [])) ≡ n + 1 = times_entry es e e.lit ∙ ap (λ m. n + m) (own_count e.lit.code) in
    omega arith

-- a trail that loses its last entry
pub trail_popped : (n : ℕ) (es : List Entry) (m : List Bool) (e : Entry) → IsTrail n (es ++ e ∷ []) m → IsTrail n es (set m e.lit.code false)
trail_popped n es m e t =
    let here : mark_of m e.lit ≡ true = sym (has_mark n (es ++ e ∷ []) m t e.lit) ∙ has_some (literals_of (es ++ e ∷ [])) e.lit (entry_counted es e) in
    let inside : e.lit.code < length m = marked_within m e.lit here in
    record {
      few = t.few;
      places = length-set m e.lit.code false ∙ t.places;
      once = λ l. one_less (eqb e.lit.code l.code) (mark_of m l) (times l (literals_of es)) (sym (times_entry es e l) ∙ t.once l) ∙ ap (λ b. cond b 1 0) (sym (mark_of-set m e.lit.code false l inside));
      consistent = consistent_less m e.lit inside t.consistent;
      count = omega (arith, count_set m e.lit false true inside here, t.count, length-append es (e ∷ []));
    }

-- the empty trail
pub trail_empty : (n k : ℕ) (m : List Bool) → n ≤ 2 ^ 31 → length m ≡ 2 * n → ((l : Lit) → mark_of m l ≡ false) → count_by (λ b. b) m ≡ 0 → IsTrail n [] m
trail_empty n k m few places clear count = record {
  few = few;
  places = places;
  once = λ l. ap (λ b. cond b 1 0) (sym (clear l));
  consistent = λ l t. absurd (both_ways (mark_of m l) (clear l) t);
  count = count;
}

-- there are no more entries than literals
pub trail_bound : (n : ℕ) (es : List Entry) (m : List Bool) → IsTrail n es m → length es ≤ 2 * n
trail_bound n es m t = omega (arith, t.count, t.places, count_by-le-length (λ (b : Bool). b) m)

take_take : (k i : ℕ) (xs : List Entry) → k ≤ i → take k (take i xs) ≡ take k xs
take_take zero i xs h = refl
take_take (suc k) zero xs h = absurd (omega arith)
take_take (suc k) (suc i) [] h = refl
take_take (suc k) (suc i) (x ∷ xs) h = ap (λ ys. x ∷ ys) (take_take k i xs (omega arith))

-- a front of a list that loses its last element
pub take_popped : (all xs ys : List Entry) (e : Entry) (i k : ℕ) → xs ≡ take i all → xs ≡ ys ++ e ∷ [] → length ys ≡ k → k ≤ i → ys ≡ take k all
take_popped all xs ys e i k front split same h =
    sym (subst (λ n. take n (ys ++ e ∷ []) ≡ ys) same (take-append_seam ys (e ∷ [])))
    ∙ ap (take k) (sym split ∙ front)
    ∙ take_take k i all h

-- a vector whose elements were written through a slice
pub put_back : (n : ℕ) (ws rest : List Bool) → length ws ≡ n → take n (ws ++ rest) ≡ ws
put_back n ws rest e = subst (λ k. take k (ws ++ rest) ≡ ws) e (take-append_seam ws rest)

literals_at : (es : List Entry) (i : ℕ) (d : Entry) → i < length es → has (literals_of es) (get_or es i d).lit ≡ true
literals_at [] i d h = absurd (omega arith)
literals_at (e ∷ es) zero d h = or_left (eqb e.lit.code e.lit.code) (has (literals_of es) e.lit) (eq-eqb e.lit.code e.lit.code refl)
literals_at (e ∷ es) (suc i) d h = or_right (eqb e.lit.code (get_or es i d).lit.code) (has (literals_of es) (get_or es i d).lit) (literals_at es i d (omega arith))

-- the variable of each entry is in range
pub entry_range : (n : ℕ) (es : List Entry) (m : List Bool) (i : ℕ) (d : Entry) → IsTrail n es m → i < length es → variable_of (get_or es i d).lit < n
entry_range n es m i d t h =
    let here : (get_or es i d).lit.code < length m = marked_within m (get_or es i d).lit (sym (has_mark n es m t (get_or es i d).lit) ∙ literals_at es i d h) in
    omega (arith, t.places)

value_positive : (l : Lit) (a : List Bool) → is_negated l ≡ false → value_of a (variable_of l) ≡ true → literal_true a l ≡ true
value_positive l a e h = rw e h

value_negative : (l : Lit) (a : List Bool) → is_negated l ≡ true → value_of a (variable_of l) ≡ false → literal_true a l ≡ true
value_negative l a e h = rw e (ap not h)

-- the assignment of the values makes each literal of the trail true
pub assigned_true : (n : ℕ) (es : List Entry) (m a : List Bool) → IsTrail n es m → ((k : ℕ) → k < n → get_or a k false ≡ get_or m (2 * k) false) → (l : Lit) → has (literals_of es) l ≡ true → literal_true a l ≡ true
assigned_true n es m a t same l h =
    let on : mark_of m l ≡ true = sym (has_mark n es m t l) ∙ h in
    let here : l.code < length m = marked_within m l on in
    let inside : l.code / 2 < n = omega (arith, t.places) in
    elim (cases_eq (l.code % 2) 1) [
      | inl o ↦
          let code : 2 * (l.code / 2) ≡ l.code - 1 = omega arith in
          value_negative l a (eq-eqb (l.code % 2) 1 o) (same (l.code / 2) inside ∙ ap (λ k. get_or m k false) (code ∙ sym (flipped_odd l.code o)) ∙ t.consistent l on)
      | inr e ↦
          let even : l.code % 2 ≡ 0 = omega arith in
          let code : 2 * (l.code / 2) ≡ l.code = omega arith in
          value_positive l a (ne_eqb (l.code % 2) 1 e) (same (l.code / 2) inside ∙ ap (λ k. get_or m k false) code ∙ on)
    ]

-- the same, through a slice of the values
pub trail_written : (n k : ℕ) (es : List Entry) (ws rest : List Bool) → length ws ≡ k → IsTrail n es ws → IsTrail n es (take k (ws ++ rest))
trail_written n k es ws rest e t = subst (IsTrail n es) (sym (put_back k ws rest e)) t

flipped_sign : (n : ℕ) → eqb (flipped n % 2) 1 ≡ not (eqb (n % 2) 1)
flipped_sign n = elim (cases_eq (n % 2) 1) [
  | inl o ↦
      let even : flipped n % 2 ≡ 0 = ap (λ k. k % 2) (flipped_odd n o) ∙ omega arith in
      ne_eqb (flipped n % 2) 1 (λ e. absurd (omega arith)) ∙ ap not (sym (eq-eqb (n % 2) 1 o))
  | inr e ↦
      let even : n % 2 ≡ 0 = omega arith in
      let odd : flipped n % 2 ≡ 1 = ap (λ k. k % 2) (flipped_even n even) ∙ omega arith in
      eq-eqb (flipped n % 2) 1 odd ∙ ap not (sym (ne_eqb (n % 2) 1 e))
]

turned_by : (b c v w : Bool) → c ≡ not b → w ≡ v → (if c then not w else w) ≡ not (if b then not v else v)
turned_by true true v w e f = absurd (both_ways true e refl)
turned_by true false v w e f = f ∙ twice v where
  twice : (x : Bool) → x ≡ not (not x)
  twice true = refl
  twice false = refl
turned_by false true v w e f = ap not f
turned_by false false v w e f = absurd (both_ways false refl e)

-- the opposite literal is true where the literal is false
pub opposite_turned : (a : List Bool) (l : Lit) → literal_true a (opposite l) ≡ not (literal_true a l)
opposite_turned a l = turned_by (is_negated l) (is_negated (opposite l)) (value_of a (variable_of l)) (value_of a (variable_of (opposite l))) (flipped_sign l.code) (ap (value_of a) (opposite_variable l))

-- The opposite literal, and clauses that say of one list of literals what others say of another.
use Rattle.std.proofs.Common.{◌≡◌, ℕ, ◌+◌, ◌-◌, ◌/◌, ◌%◌, ◌||◌, Bool, true, false, List, [], ◌∷◌, map, eqb, refl, sym, ◌∙◌, ap, inl, inr, arith}
use Rattle.std.specs.Prelude.{not, ◌==◌, if◌then◌else◌}
use Rattle.std.specs.List.{list_all}
use Rattle.std.proofs.lemmas.Bool.{both_ways, cases_eq, eq-eqb, ne_eqb, eqb-true, or_left, or_right, or_cases, and_parts, and_from, or_from, or_parts}
use Rattle.clause_core.specs.declared.literal.Lit.{Lit}
use Rattle.clause_core.specs.Literal.{variable_of, is_negated, opposite}
use Rattle.clause_core.specs.Truth.{value_of, literal_true, clause_true, all_true}
use Rattle.clause_core.specs.Members.{has}
use Rattle.clause_derivation.specs.Derivation.{singles}
use Rattle.inductive_check.specs.Paths.{bits}
use Rattle.inductive_check.specs.Certificates.{is_over, renamed}

abbrev flipped : ℕ → ℕ
flipped n = if n % 2 == 1 then n - 1 else n + 1

flipped_odd : (n : ℕ) → n % 2 ≡ 1 → flipped n ≡ n - 1
flipped_odd n h = rw (eq-eqb (n % 2) 1 h) refl

flipped_even : (n : ℕ) → n % 2 ≡ 0 → flipped n ≡ n + 1
flipped_even n h = rw (ne_eqb (n % 2) 1 (λ e. absurd (omega arith))) refl

flipped_sign : (n : ℕ) → eqb (flipped n % 2) 1 ≡ not (eqb (n % 2) 1)
flipped_sign n = elim (cases_eq (n % 2) 1) [
  | inl o ↦
      let even : flipped n % 2 ≡ 0 = ap (λ k. k % 2) (flipped_odd n o) ∙ omega arith in
      ne_eqb (flipped n % 2) 1 (λ e. absurd (omega arith)) ∙ ap not (sym (eq-eqb (n % 2) 1 o))
  | inr e ↦
      let even : n % 2 ≡ 0 = omega arith in
      let odd : flipped n % 2 ≡ 1 = ap (λ k. k % 2) (flipped_even n even) ∙ omega arith in
      eq-eqb (flipped n % 2) 1 odd ∙ ap not (sym (ne_eqb (n % 2) 1 e))
]

pub flipped_half : (n : ℕ) → flipped n / 2 ≡ n / 2
flipped_half n = elim (cases_eq (n % 2) 1) [
  | inl o ↦ ap (λ k. k / 2) (flipped_odd n o) ∙ omega arith
  | inr e ↦
      let even : n % 2 ≡ 0 = omega arith in
      ap (λ k. k / 2) (flipped_even n even) ∙ omega arith
]

turned_by : (b c v w : Bool) → c ≡ not b → w ≡ v → (if c then not w else w) ≡ not (if b then not v else v)
turned_by true true v w e f = absurd (both_ways true e refl)
turned_by true false v w e f = f ∙ twice v where
  twice : (x : Bool) → x ≡ not (not x)
  twice true = refl
  twice false = refl
turned_by false true v w e f = ap not f
turned_by false false v w e f = absurd (both_ways false refl e)

-- the opposite literal is true where the literal is false
pub opposite_turned : (a : List Bool) (l : Lit) → literal_true a (opposite l) ≡ not (literal_true a l)
opposite_turned a l = turned_by (is_negated l) (is_negated (opposite l)) (value_of a (variable_of l)) (value_of a (variable_of (opposite l))) (flipped_sign l.code) (ap (value_of a) (flipped_half l.code))

pub same_lit : (a : List Bool) (k l : Lit) → eqb k.code l.code ≡ true → literal_true a k ≡ literal_true a l
same_lit a k l e = let f : ℕ → Bool = λ n. literal_true a (record { code = n }) in ap f (eqb-true k.code l.code e)

twice_not : (x y : Bool) → x ≡ not y → not x ≡ y
twice_not true true e = sym e
twice_not true false e = refl
twice_not false true e = refl
twice_not false false e = sym e

head_eq : (x y : Bool) (xs ys : List Bool) → (x ∷ xs) ≡ (y ∷ ys) → x ≡ y
head_eq x y xs ys e = ap first e where
  first : List Bool → Bool
  first [] = false
  first (z ∷ zs) = z

tail_eq : (x y : Bool) (xs ys : List Bool) → (x ∷ xs) ≡ (y ∷ ys) → xs ≡ ys
tail_eq x y xs ys e = ap rest e where
  rest : List Bool → List Bool
  rest [] = []
  rest (z ∷ zs) = zs

-- where two lists of literals have the same bits, the renamed literal has the value of the literal
pub renamed_same : (a b : List Bool) (cs ns : List Lit) (l : Lit) → bits b ns ≡ bits a cs → is_over cs l ≡ true → literal_true b (renamed cs ns l) ≡ literal_true a l
renamed_same a b [] ns l e h = cc
renamed_same a b (c ∷ cs) [] l e h = cc
renamed_same a b (c ∷ cs) (n ∷ ns) l e h = go (eqb c.code l.code) (eqb c.code (opposite l).code) refl refl (λ i. renamed_same a b cs ns l (tail_eq (literal_true b n) (literal_true a c) (bits b ns) (bits a cs) e) i) where
  first : literal_true b n ≡ literal_true a c
  first = head_eq (literal_true b n) (literal_true a c) (bits b ns) (bits a cs) e

  later : (x y : Bool) → eqb c.code l.code ≡ x → eqb c.code (opposite l).code ≡ y → x ≡ false → y ≡ false → is_over cs l ≡ true
  later x y f g p q = elim (or_cases (eqb c.code l.code || has cs l) (eqb c.code (opposite l).code || has cs (opposite l)) h) [
    | inl i ↦ elim (or_cases (eqb c.code l.code) (has cs l) i) [
      | inl u ↦ absurd (both_ways (eqb c.code l.code) (f ∙ p) u)
      | inr u ↦ or_left (has cs l) (has cs (opposite l)) u
    ]
    | inr i ↦ elim (or_cases (eqb c.code (opposite l).code) (has cs (opposite l)) i) [
      | inl u ↦ absurd (both_ways (eqb c.code (opposite l).code) (g ∙ q) u)
      | inr u ↦ or_right (has cs l) (has cs (opposite l)) u
    ]
  ]

  go : (x y : Bool) → eqb c.code l.code ≡ x → eqb c.code (opposite l).code ≡ y → (is_over cs l ≡ true → literal_true b (renamed cs ns l) ≡ literal_true a l) → literal_true b (if x then n else if y then opposite n else renamed cs ns l) ≡ literal_true a l
  go true y f g k = first ∙ same_lit a c l f
  go false true f g k = opposite_turned b n ∙ ap not first ∙ ap not (same_lit a c (opposite l) g) ∙ twice_not (literal_true a (opposite l)) (literal_true a l) (opposite_turned a l)
  go false false f g k = k (later false false f g refl refl)

pub clause_same : (a b : List Bool) (cs ns : List Lit) (c : List Lit) → bits b ns ≡ bits a cs → list_all (is_over cs) c ≡ true → clause_true b (map (renamed cs ns) c) ≡ clause_true a c
clause_same a b cs ns [] e h = refl
clause_same a b cs ns (l ∷ c) e h =
    let p : (is_over cs l ≡ true) × (list_all (is_over cs) c ≡ true) = and_parts (is_over cs l) (list_all (is_over cs) c) h in
    ap (λ x. x || clause_true b (map (renamed cs ns) c)) (renamed_same a b cs ns l e p.0) ∙ ap (λ x. literal_true a l || x) (clause_same a b cs ns c e p.1)

or_false : (x : Bool) → (x || false) ≡ x
or_false true = refl
or_false false = refl

-- a clause is false where all opposites hold
pub opposites_hold : (a : List Bool) (c : List Lit) → clause_true a c ≡ false → all_true a (singles (map opposite c)) ≡ true
opposites_hold a [] h = refl
opposites_hold a (l ∷ c) h =
    let p : (literal_true a l ≡ false) × (clause_true a c ≡ false) = or_parts (literal_true a l) (clause_true a c) h in
    and_from (literal_true a (opposite l) || false) (all_true a (singles (map opposite c))) (or_false (literal_true a (opposite l)) ∙ opposite_turned a l ∙ ap not p.0) (opposites_hold a c p.1)

-- and none is true where it is true
pub opposites_fail : (a : List Bool) (c : List Lit) → all_true a (singles (map opposite c)) ≡ true → clause_true a c ≡ false
opposites_fail a [] h = refl
opposites_fail a (l ∷ c) h =
    let p : ((literal_true a (opposite l) || false) ≡ true) × (all_true a (singles (map opposite c)) ≡ true) = and_parts (literal_true a (opposite l) || false) (all_true a (singles (map opposite c))) h in
    or_from (literal_true a l) (clause_true a c) (sym (twice_not (literal_true a (opposite l)) (literal_true a l) (opposite_turned a l)) ∙ ap not (sym (or_false (literal_true a (opposite l))) ∙ p.0)) (opposites_fail a c p.1)

-- a literal over some is true where the bits say so
lit_at : (a b : List Bool) (cs : List Lit) (l : Lit) → bits b cs ≡ bits a cs → is_over cs l ≡ true → literal_true b l ≡ literal_true a l
lit_at a b cs l e h = sym (renamed_same b b cs cs l refl h) ∙ renamed_same a b cs cs l e h

pub clause_at : (a b : List Bool) (cs c : List Lit) → bits b cs ≡ bits a cs → list_all (is_over cs) c ≡ true → clause_true b c ≡ clause_true a c
clause_at a b cs c e h = sym (clause_same b b cs cs c refl h) ∙ clause_same a b cs cs c e h

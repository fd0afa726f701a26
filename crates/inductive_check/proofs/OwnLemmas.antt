-- Clauses without a literal twice, and how long they can be.
use Rattle.std.proofs.Common.{◌≡◌, ℕ, ◌+◌, ◌*◌, ◌/◌, ◌<◌, ◌≤◌, ◌⊎◌, ◌||◌, drop, zero, suc, Bool, true, false, List, [], ◌∷◌, length, get_or, take, cond, eqb, refl, sym, ◌∙◌, ap, subst, inl, inr, arith}
use Rattle.std.specs.Prelude.{not, All, filter, if◌then◌else◌}
use Rattle.std.specs.List.{list_any, AllByRecursion}
use Rattle.std.proofs.lemmas.Bool.{both_ways, cases_Bool, cases_eq, eqb-true, or_parts, cond-true, cond-false, or_cases}
use Rattle.std.proofs.lemmas.List.{take_all, drop_more}
use Rattle.std.proofs.lemmas.List.Elements.{recursion_from_All, All-weaker, All-filter, filter_passes}
use Rattle.std.proofs.lemmas.List.Filters.{length-filter_both}
use Rattle.std.proofs.lemmas.List.Sums.{count_by_more_yes, count_by_more_no, sum_by-cons, length-filter}
use Rattle.clause_core.specs.declared.literal.Lit.{Lit}
use Rattle.clause_core.specs.Members.{has, times, NoneTwice}
use Rattle.clause_core.specs.Literal.{variable_of, opposite}
use Rattle.clause_core.specs.Formula.{IsInRange, AreInRange}
use Rattle.inductive_check.specs.Certificates.{is_over, IsOwn, renamed}
use Rattle.inductive_check.proofs.LiteralLemmas.{flipped_half}

times_cons : (l x : Lit) (c : List Lit) → times l (x ∷ c) ≡ cond (eqb x.code l.code) 1 0 + times l c
times_cons l x c = sum_by-cons (λ (k : Lit). cond (eqb k.code l.code) 1 0) x c

-- a literal that is none of these
none_of : (l : Lit) (c : List Lit) → has c l ≡ false → times l c ≡ 0
none_of l [] e = refl
none_of l (x ∷ c) e =
    let p : (eqb x.code l.code ≡ false) × (has c l ≡ false) = or_parts (eqb x.code l.code) (has c l) e in
    times_cons l x c ∙ ap (λ n. n + times l c) (cond-false (eqb x.code l.code) 1 0 p.0) ∙ ap (λ n. 0 + n) (none_of l c p.1) ∙ omega arith

-- a literal that is one of these
some_of : (l : Lit) (c : List Lit) → has c l ≡ true → 1 ≤ times l c
some_of l [] e = cc
some_of l (x ∷ c) e = go (cases_Bool (eqb x.code l.code)) (λ i. some_of l c i) where
  here : (m n k : ℕ) → m ≡ n + k → n ≡ 1 → 1 ≤ m
  here m n k f g = omega arith

  later : (m n k : ℕ) → m ≡ n + k → 1 ≤ k → 1 ≤ m
  later m n k f g = omega arith

  rest : (b c : Bool) → b ≡ false → (b || c) ≡ true → c ≡ true
  rest true c f g = absurd (both_ways true f refl)
  rest false c f g = g

  go : (eqb x.code l.code ≡ true) ⊎ (eqb x.code l.code ≡ false) → (has c l ≡ true → 1 ≤ times l c) → 1 ≤ times l (x ∷ c)
  go (inl t) i = here _ _ _ (times_cons l x c) (cond-true (eqb x.code l.code) 1 0 t)
  go (inr f) i = later _ _ _ (times_cons l x c) (i (rest (eqb x.code l.code) (has c l) f e))

-- one more literal, which is none of those before it
pub once_more : (c : List Lit) (i : ℕ) (d : Lit) → i < length c → NoneTwice (take i c) → has (take i c) (get_or c i d) ≡ false → NoneTwice (take (i + 1) c)
once_more c i d h once e l = go (cases_Bool (eqb (get_or c i d).code l.code)) where
  at_most : (m n : ℕ) → m ≡ n + 1 → n ≡ 0 → m ≤ 1
  at_most m n f g = omega arith

  go : (eqb (get_or c i d).code l.code ≡ true) ⊎ (eqb (get_or c i d).code l.code ≡ false) → times l (take (i + 1) c) ≤ 1
  go (inl t) =
      at_most _ _ (count_by_more_yes (λ (k : Lit). eqb k.code l.code) c i d h t)
      (none_of l (take i c) (subst (λ n. list_any (λ (k : Lit). eqb k.code n) (take i c) ≡ false) (eqb-true (get_or c i d).code l.code t) e))
  go (inr f) = subst (λ n. n ≤ 1) (sym (count_by_more_no (λ (k : Lit). eqb k.code l.code) c i d h f)) (once l)

times_take : (l : Lit) (c : List Lit) (i : ℕ) → times l (take i c) ≤ times l c
times_take l c zero = omega arith
times_take l [] (suc i) = omega arith
times_take l (x ∷ c) (suc i) = both _ _ _ _ _ (times_cons l x (take i c)) (times_cons l x c) (times_take l c i) where
  both : (m n k p q : ℕ) → m ≡ k + p → n ≡ k + q → p ≤ q → m ≤ n
  both m n k p q e f g = omega arith

-- one more literal, which is one of those before it
pub twice : (c : List Lit) (i : ℕ) (d : Lit) → i < length c → has (take i c) (get_or c i d) ≡ true → NoneTwice c → ⊥
twice c i d h e once =
    too_many _ _ _ (count_by_more_yes (λ (k : Lit). eqb k.code (get_or c i d).code) c i d h (same (get_or c i d).code))
    (some_of (get_or c i d) (take i c) e) (times_take (get_or c i d) c (i + 1)) (once (get_or c i d)) where
      same : (n : ℕ) → eqb n n ≡ true
      same n = elim (cases_Bool (eqb n n)) [ inl t ↦ t | inr f ↦ absurd (go n f) ] where
        go : (m : ℕ) → eqb m m ≡ false → ⊥
        go m f = grind arith

      too_many : (m n k : ℕ) → m ≡ n + 1 → 1 ≤ n → m ≤ k → k ≤ 1 → ⊥
      too_many m n k a b c d = omega arith

-- A clause whose codes are below n, and that has no literal twice, has at most n literals.

times_filter : (l : Lit) (p : Lit → Bool) (c : List Lit) → times l (filter p c) ≤ times l c
times_filter l p [] = omega arith
times_filter l p (x ∷ c) = go (p x) (times_filter l p c) where
  same : (m n k q r : ℕ) → m ≡ k + q → n ≡ k + r → q ≤ r → m ≤ n
  same m n k q r e f g = omega arith

  less : (n k q r : ℕ) → n ≡ k + r → q ≤ r → q ≤ n
  less n k q r f g = omega arith

  go : (b : Bool) → times l (filter p c) ≤ times l c → times l (cond b (x ∷ filter p c) (filter p c)) ≤ times l (x ∷ c)
  go true i = same _ _ _ _ _ (times_cons l x (filter p c)) (times_cons l x c) i
  go false i = less _ _ _ _ (times_cons l x c) i

below_next : (n : ℕ) (l : Lit) → l.code < suc n → not (eqb l.code n) ≡ true → l.code < n
below_next n l h e = elim (cases_eq l.code n) [
  | inl t ↦ absurd (go l.code n t e)
  | inr f ↦ omega arith
] where
  go : (m n : ℕ) → m ≡ n → not (eqb m n) ≡ true → ⊥
  go m n t e = grind arith

both_All : (P Q R : Lit → Type 0) → ((l : Lit) → P l → Q l → R l) → (c : List Lit) → All P c → All Q c → All R c
both_All P Q R f c p q k d h = f (get_or c k d) (p k d h) (q k d h)

pub short : (n : ℕ) (c : List Lit) → NoneTwice c → All (λ l. l.code < n) c → length c ≤ n
short zero [] once h = omega arith
short zero (x ∷ c) once h = absurd (let b : x.code < 0 = h 0 x (omega arith) in omega arith)
short (suc n) c once h =
    let rest : List Lit = filter (λ (l : Lit). not (eqb l.code n)) c in
    let few : length rest ≤ n = short n rest (λ l. at_most _ _ (times_filter l (λ (k : Lit). not (eqb k.code n)) c) (once l))
    (both_All (λ l. l.code < suc n) (λ l. not (eqb l.code n) ≡ true) (λ l. l.code < n) (below_next n) rest
    (All-filter (λ (l : Lit). not (eqb l.code n)) (λ l. l.code < suc n) c h)
    (filter_passes (λ (l : Lit). not (eqb l.code n)) c)) in
    sums _ _ _ _ (length-filter_both (λ (l : Lit). eqb l.code n) (λ (l : Lit). not (eqb l.code n)) (λ l. refl) c)
    (length-filter (λ (l : Lit). eqb l.code n) c) (once (record { code = n })) few where
      at_most : (m n : ℕ) → m ≤ n → n ≤ 1 → m ≤ 1
      at_most m n g h = omega arith

      sums : (m k j i : ℕ) → m + k ≡ j → m ≡ i → i ≤ 1 → k ≤ n → j ≤ suc n
      sums m k j i e f g h = omega arith

-- What is over literals that are in range.

pub has_range : (n : ℕ) (lits : List Lit) (l : Lit) → IsInRange n lits → has lits l ≡ true → variable_of l < n
has_range n lits l h i = go lits (recursion_from_All (λ k. variable_of k < n) lits h) i where
  same : (m k : ℕ) → m ≡ k → m / 2 < n → k / 2 < n
  same m k e b = subst (λ j. j / 2 < n) e b

  go : (ls : List Lit) → AllByRecursion (λ k. variable_of k < n) ls → has ls l ≡ true → variable_of l < n
  go [] a e = cc
  go (x ∷ ls) a e = elim (or_cases (eqb x.code l.code) (has ls l) e) [
    | inl t ↦ same x.code l.code (eqb-true x.code l.code t) a.0
    | inr f ↦ go ls a.1 f
  ]

over_range : (n : ℕ) (lits : List Lit) (l : Lit) → IsInRange n lits → is_over lits l ≡ true → variable_of l < n
over_range n lits l h o = elim (or_cases (has lits l) (has lits (opposite l)) o) [
  | inl t ↦ has_range n lits l h t
  | inr f ↦ subst (λ k. k < n) (flipped_half l.code) (has_range n lits (opposite l) h f)
]

pub own_range : (n m : ℕ) (lits c : List Lit) → n ≤ m → IsInRange n lits → IsOwn lits c → IsInRange m c
own_range n m lits c le h own = All-weaker (λ l. is_over lits l ≡ true) (λ l. variable_of l < m) (λ l o. let b : variable_of l < n = over_range n lits l h o in omega arith) c own.over

pub all_range : (n m : ℕ) (lits : List Lit) (cs : List (List Lit)) → n ≤ m → IsInRange n lits → All (IsOwn lits) cs → AreInRange m cs
all_range n m lits cs le h own = All-weaker (IsOwn lits) (IsInRange m) (λ c o. own_range n m lits c le h o) cs own

-- there is room for the opposites of a clause and one unit more
pub own_short : (n m : ℕ) (lits c : List Lit) → n ≤ m → IsInRange n lits → IsOwn lits c → length c ≤ 2 * m
own_short n m lits c le h own = short (2 * m) c own.once
    (All-weaker (λ l. variable_of l < m) (λ l. l.code < 2 * m) (λ l b. omega arith) c (own_range n m lits c le h own))

-- the loop over the literals of a clause

pub own_stop : (lits c : List Lit) (i : ℕ) (d : Lit) → i < length c → is_over lits (get_or c i d) ≡ false → IsOwn lits c → ⊥
own_stop lits c i d h e own = both_ways (is_over lits (get_or c i d)) e (own.over i d h)

pub own_all : (lits c : List Lit) (i : ℕ) → length c ≤ i → All (λ l. is_over lits l ≡ true) (take i c) → NoneTwice (take i c) → IsOwn lits c
own_all lits c i h over once =
    let e : take i c ≡ c = take_all i c h in
    record { over = subst (All (λ l. is_over lits l ≡ true)) e over; once = subst NoneTwice e once }

-- the search for the place of a literal

pub renamed_next : (cs ns : List Lit) (l d : Lit) (i : ℕ) → i < length cs → length cs ≡ length ns → ((get_or cs i d).code ≡ l.code → ⊥) → ((get_or cs i d).code ≡ (opposite l).code → ⊥) → renamed (drop (i + 1) cs) (drop (i + 1) ns) l ≡ renamed (drop i cs) (drop i ns) l
renamed_next cs ns l d i h e f g =
    let w : i < length ns = omega (arith, e) in
    sym (ap (λ xs. renamed xs (drop i ns) l) (drop_more cs i d h)
    ∙ ap (λ ys. renamed (get_or cs i d ∷ drop (i + 1) cs) ys l) (drop_more ns i d w)
    ∙ cond-false (eqb (get_or cs i d).code l.code) _ _ (ne (get_or cs i d).code l.code f)
    ∙ cond-false (eqb (get_or cs i d).code (opposite l).code) _ _ (ne (get_or cs i d).code (opposite l).code g)) where
      ne : (m n : ℕ) → (m ≡ n → ⊥) → eqb m n ≡ false
      ne m n x = grind arith

renamed_of : (cs ns : List Lit) (l : Lit) (n : ℕ) → length cs ≡ length ns → AllByRecursion (λ k. variable_of k < n) ns → is_over cs l ≡ true → variable_of (renamed cs ns l) < n
renamed_of [] ns l n e a o = cc
renamed_of (c ∷ cs) [] l n e a o = absurd (omega arith)
renamed_of (c ∷ cs) (m ∷ ns) l n e a o = go (eqb c.code l.code) (eqb c.code (opposite l).code) refl refl (λ i. renamed_of cs ns l n (omega arith) a.1 i) where
  later : eqb c.code l.code ≡ false → eqb c.code (opposite l).code ≡ false → is_over cs l ≡ true
  later p q =
      ap (λ x. has cs l || (x || has cs (opposite l))) (sym q)
      ∙ ap (λ x. (x || has cs l) || (eqb c.code (opposite l).code || has cs (opposite l))) (sym p) ∙ o

  go : (x y : Bool) → eqb c.code l.code ≡ x → eqb c.code (opposite l).code ≡ y → (is_over cs l ≡ true → variable_of (renamed cs ns l) < n) → variable_of (if x then m else if y then opposite m else renamed cs ns l) < n
  go true y p q k = a.0
  go false true p q k = subst (λ j. j < n) (sym (flipped_half m.code)) a.0
  go false false p q k = k (later p q)

pub renamed_range : (cs ns : List Lit) (l : Lit) (n : ℕ) → length cs ≡ length ns → IsInRange n ns → is_over cs l ≡ true → variable_of (renamed cs ns l) < n
renamed_range cs ns l n e h o = renamed_of cs ns l n e (recursion_from_All (λ k. variable_of k < n) ns h) o

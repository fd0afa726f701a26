-- The live clauses of slots, found by their places.
use Rattle.std.proofs.Common.{◌≡◌, ℕ, ◌+◌, ◌<◌, ◌≤◌, zero, suc, Bool, true, false, cond, List, [], ◌∷◌, ◌++◌, length, get_or, set, eqb, refl, sym, ◌∙◌, ap, arith, inl, inr, ◌⊎◌}
use Rattle.std.specs.List.{list_any, count_by, swap}
use Rattle.std.proofs.lemmas.Bool.{eq-eqb, ne_eqb, cond-true, cond-false, cases_Bool, eqb-true}
use Rattle.std.proofs.lemmas.List.Sums.{sum_by-cons}
use Rattle.std.proofs.lemmas.List.Edits.{length-swap}
use Rattle.clause_core.specs.declared.literal.Lit.{Lit}
use Rattle.sat_arena.specs.declared.id.ClauseId.{ClauseId}
use Rattle.sat_arena.specs.Live.{Entry, literals, IdsDiffer, IsLive, without, with_swapped}
use Rattle.sat_arena.specs.Linking.{before, live_from}

abbrev pub id_at : ℕ → ClauseId
id_at p = record { place = p }

-- the literals at a place

literals_below : (cs : List (List Lit)) (k q : ℕ) → q < k → literals (live_from k cs) (id_at q) ≡ []
literals_below [] k q h = refl
literals_below ([] ∷ cs) k q h = literals_below cs (k + 1) q (omega arith)
literals_below ((l ∷ ls) ∷ cs) k q h =
    cond-false (eqb k q) (l ∷ ls) (literals (live_from (k + 1) cs) (id_at q)) (ne_eqb k q (λ e. omega arith)) ∙ literals_below cs (k + 1) q (omega arith)

literals_from : (cs : List (List Lit)) (k p q : ℕ) → q ≡ k + p → literals (live_from k cs) (id_at q) ≡ get_or cs p []
literals_from [] k p q e = refl
literals_from ([] ∷ cs) k zero q e = literals_below cs (k + 1) q (omega arith)
literals_from ([] ∷ cs) k (suc p) q e = literals_from cs (k + 1) p q (omega arith)
literals_from ((l ∷ ls) ∷ cs) k zero q e = cond-true (eqb k q) (l ∷ ls) (literals (live_from (k + 1) cs) (id_at q)) (eq-eqb k q (omega arith))
literals_from ((l ∷ ls) ∷ cs) k (suc p) q e =
    cond-false (eqb k q) (l ∷ ls) (literals (live_from (k + 1) cs) (id_at q)) (ne_eqb k q (λ f. omega arith)) ∙ literals_from cs (k + 1) p q (omega arith)

pub literals_at : (cs : List (List Lit)) (p : ℕ) → literals (live_from 0 cs) (id_at p) ≡ get_or cs p []
literals_at cs p = literals_from cs 0 p p (omega arith)

-- which places are live: those of slots with literals

live_below : (cs : List (List Lit)) (k q : ℕ) → q < k → list_any (λ (e : Entry). eqb e.place q) (live_from k cs) ≡ false
live_below [] k q h = refl
live_below ([] ∷ cs) k q h = live_below cs (k + 1) q (omega arith)
live_below ((l ∷ ls) ∷ cs) k q h = let f : eqb k q ≡ false = ne_eqb k q (λ e. omega arith) in rw f (live_below cs (k + 1) q (omega arith))

abbrev pub is_filled : List Lit → Bool
is_filled [] = false
is_filled (l ∷ ls) = true

live_is : (cs : List (List Lit)) (k p q : ℕ) → q ≡ k + p → list_any (λ (e : Entry). eqb e.place q) (live_from k cs) ≡ is_filled (get_or cs p [])
live_is [] k p q e = refl
live_is ([] ∷ cs) k zero q e = live_below cs (k + 1) q (omega arith)
live_is ([] ∷ cs) k (suc p) q e = live_is cs (k + 1) p q (omega arith)
live_is ((l ∷ ls) ∷ cs) k zero q e = let t : eqb k q ≡ true = eq-eqb k q (omega arith) in rw t refl
live_is ((l ∷ ls) ∷ cs) k (suc p) q e = let f : eqb k q ≡ false = ne_eqb k q (λ g. omega arith) in rw f (live_is cs (k + 1) p q (omega arith))

filled_long : (c : List Lit) → is_filled c ≡ true → 0 < length c
filled_long [] e = cc
filled_long (l ∷ ls) e = omega arith

pub long_filled : (c : List Lit) → 0 < length c → is_filled c ≡ true
long_filled [] h = absurd (omega arith)
long_filled (l ∷ ls) h = refl

empty_filled : (c : List Lit) → is_filled c ≡ false → c ≡ []
empty_filled [] e = refl
empty_filled (l ∷ ls) e = cc

pub live_filled : (cs : List (List Lit)) (p : ℕ) → IsLive (live_from 0 cs) (id_at p) → 0 < length (get_or cs p [])
live_filled cs p h = filled_long (get_or cs p []) (sym (live_is cs 0 p p (omega arith)) ∙ h)

pub filled_live : (cs : List (List Lit)) (p : ℕ) → 0 < length (get_or cs p []) → IsLive (live_from 0 cs) (id_at p)
filled_live cs p h = live_is cs 0 p p (omega arith) ∙ long_filled (get_or cs p []) h

pub live_within : (cs : List (List Lit)) (p : ℕ) → IsLive (live_from 0 cs) (id_at p) → p < length cs
live_within cs p h = filled_within cs p (live_filled cs p h) where
  filled_within : (cs : List (List Lit)) (p : ℕ) → 0 < length (get_or cs p []) → p < length cs
  filled_within [] p h = absurd (omega arith)
  filled_within (c ∷ cs) zero h = omega arith
  filled_within (c ∷ cs) (suc p) h = let i : p < length cs = filled_within cs p h in omega arith

-- ids differ

abbrev has_place : ℕ → Entry → Bool
has_place q e = eqb e.place q

count_yes : (q : ℕ) (e : Entry) (es : List Entry) → eqb e.place q ≡ true → count_by (has_place q) (e ∷ es) ≡ 1 + count_by (has_place q) es
count_yes q e es h = sum_by-cons (λ (f : Entry). cond (has_place q f) 1 0) e es ∙ ap (λ n. n + count_by (has_place q) es) (cond-true (eqb e.place q) 1 0 h)

count_no : (q : ℕ) (e : Entry) (es : List Entry) → eqb e.place q ≡ false → count_by (has_place q) (e ∷ es) ≡ 0 + count_by (has_place q) es
count_no q e es h = sum_by-cons (λ (f : Entry). cond (has_place q f) 1 0) e es ∙ ap (λ n. n + count_by (has_place q) es) (cond-false (eqb e.place q) 1 0 h)

abbrev entry : ℕ → Lit → List Lit → Entry
entry k l ls = record { place = k; lits = l ∷ ls }

count_below : (cs : List (List Lit)) (k q : ℕ) → q < k → count_by (has_place q) (live_from k cs) ≡ 0
count_below [] k q h = refl
count_below ([] ∷ cs) k q h = count_below cs (k + 1) q (omega arith)
count_below ((l ∷ ls) ∷ cs) k q h =
    count_no q (entry k l ls) (live_from (k + 1) cs) (ne_eqb k q (λ e. omega arith)) ∙ ap (λ n. 0 + n) (count_below cs (k + 1) q (omega arith)) ∙ omega arith

count_from : (cs : List (List Lit)) (k q : ℕ) → count_by (has_place q) (live_from k cs) ≤ 1
count_from [] k q = omega arith
count_from ([] ∷ cs) k q = count_from cs (k + 1) q
count_from ((l ∷ ls) ∷ cs) k q = go (count_from cs (k + 1) q) (cases_Bool (eqb k q)) where
  go : count_by (has_place q) (live_from (k + 1) cs) ≤ 1 → (eqb k q ≡ true) ⊎ (eqb k q ≡ false) → count_by (has_place q) (live_from k ((l ∷ ls) ∷ cs)) ≤ 1
  go h (inl t) = at_most (count_yes q (entry k l ls) (live_from (k + 1) cs) t) (count_below cs (k + 1) q (let e : k ≡ q = eqb-true k q t in omega arith)) where
    at_most : {m n : ℕ} → m ≡ 1 + n → n ≡ 0 → m ≤ 1
    at_most e f = omega arith
  go h (inr f) = at_most (count_no q (entry k l ls) (live_from (k + 1) cs) f) h where
    at_most : {m n : ℕ} → m ≡ 0 + n → n ≤ 1 → m ≤ 1
    at_most e f = omega arith

pub ids_differ : (cs : List (List Lit)) → IdsDiffer (live_from 0 cs)
ids_differ cs id = count_from cs 0 id.place

-- one more clause

pub live_push : (cs : List (List Lit)) (k : ℕ) (c : List Lit) → 0 < length c → live_from k (cs ++ c ∷ []) ≡ live_from k cs ++ record { place = k + length cs; lits = c } ∷ []
live_push [] k [] h = absurd (omega arith)
live_push [] k (l ∷ ls) h = let e : k ≡ k + 0 = omega arith in ap (λ n. record { place = n; lits = l ∷ ls } ∷ []) e
live_push ([] ∷ cs) k c h = live_push cs (k + 1) c h ∙ ap (λ n. live_from (k + 1) cs ++ record { place = n; lits = c } ∷ []) (omega arith)
live_push ((l ∷ ls) ∷ cs) k c h = ap (λ es. entry k l ls ∷ es) (live_push cs (k + 1) c h ∙ ap (λ n. live_from (k + 1) cs ++ record { place = n; lits = c } ∷ []) (omega arith))

-- one clause less

without_below : (cs : List (List Lit)) (k q : ℕ) → q < k → without (live_from k cs) (id_at q) ≡ live_from k cs
without_below [] k q h = refl
without_below ([] ∷ cs) k q h = without_below cs (k + 1) q (omega arith)
without_below ((l ∷ ls) ∷ cs) k q h = let f : eqb k q ≡ false = ne_eqb k q (λ e. omega arith) in rw f (ap (λ es. entry k l ls ∷ es) (without_below cs (k + 1) q (omega arith)))

without_from : (cs : List (List Lit)) (k p q : ℕ) → q ≡ k + p → live_from k (set cs p []) ≡ without (live_from k cs) (id_at q)
without_from [] k p q e = refl
without_from ([] ∷ cs) k zero q e = sym (without_below cs (k + 1) q (omega arith))
without_from ([] ∷ cs) k (suc p) q e = without_from cs (k + 1) p q (omega arith)
without_from ((l ∷ ls) ∷ cs) k zero q e = let t : eqb k q ≡ true = eq-eqb k q (omega arith) in rw t (sym (without_below cs (k + 1) q (omega arith)))
without_from ((l ∷ ls) ∷ cs) k (suc p) q e = let f : eqb k q ≡ false = ne_eqb k q (λ g. omega arith) in rw f (ap (λ es. entry k l ls ∷ es) (without_from cs (k + 1) p q (omega arith)))

pub live_without : (cs : List (List Lit)) (p : ℕ) → live_from 0 (set cs p []) ≡ without (live_from 0 cs) (id_at p)
live_without cs p = without_from cs 0 p p (omega arith)

-- two literals of a clause swapped

swapped_below : (cs : List (List Lit)) (k q i j : ℕ) → q < k → with_swapped (live_from k cs) (id_at q) i j ≡ live_from k cs
swapped_below [] k q i j h = refl
swapped_below ([] ∷ cs) k q i j h = swapped_below cs (k + 1) q i j (omega arith)
swapped_below ((l ∷ ls) ∷ cs) k q i j h = let f : eqb k q ≡ false = ne_eqb k q (λ e. omega arith) in rw f (ap (λ es. entry k l ls ∷ es) (swapped_below cs (k + 1) q i j (omega arith)))

before_filled : (k : ℕ) (c : List Lit) (es : List Entry) → 0 < length c → before k c es ≡ record { place = k; lits = c } ∷ es
before_filled k [] es h = absurd (omega arith)
before_filled k (l ∷ ls) es h = refl

swapped_from : (cs : List (List Lit)) (k p q i j : ℕ) → q ≡ k + p → live_from k (set cs p (swap (get_or cs p []) i j)) ≡ with_swapped (live_from k cs) (id_at q) i j
swapped_from [] k p q i j e = refl
swapped_from ([] ∷ cs) k zero q i j e = sym (swapped_below cs (k + 1) q i j (omega arith))
swapped_from ([] ∷ cs) k (suc p) q i j e = swapped_from cs (k + 1) p q i j (omega arith)
swapped_from ((l ∷ ls) ∷ cs) k zero q i j e =
    let t : eqb k q ≡ true = eq-eqb k q (omega arith) in
    rw t (before_filled k (swap (l ∷ ls) i j) (live_from (k + 1) cs) (let n : length (swap (l ∷ ls) i j) ≡ length (l ∷ ls) = length-swap (l ∷ ls) i j in omega arith)
    ∙ ap (λ es. record { place = k; lits = swap (l ∷ ls) i j } ∷ es) (sym (swapped_below cs (k + 1) q i j (omega arith))))
swapped_from ((l ∷ ls) ∷ cs) k (suc p) q i j e = let f : eqb k q ≡ false = ne_eqb k q (λ g. omega arith) in rw f (ap (λ es. entry k l ls ∷ es) (swapped_from cs (k + 1) p q i j (omega arith)))

pub live_swapped : (cs : List (List Lit)) (p i j : ℕ) → live_from 0 (set cs p (swap (get_or cs p []) i j)) ≡ with_swapped (live_from 0 cs) (id_at p) i j
live_swapped cs p i j = swapped_from cs 0 p p i j (omega arith)

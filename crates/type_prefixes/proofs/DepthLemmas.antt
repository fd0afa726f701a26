-- The places of formals, and the summaries of routines, one by one.
use Rattle.std.proofs.Common.{◌≡◌, ℕ, zero, suc, ◌+◌, ◌<◌, ◌≤◌, max, Bool, List, [], ◌∷◌, ◌++◌, length, drop, Option, None, Some, refl, ap, sym, subst, ◌∙◌, arith}
use Rattle.std.specs.Prelude.{slice_index_or, slice_set}
use Rattle.murphi_typed.specs.declared.protocol.Parameter.{Parameter}
use Rattle.type_prefixes.specs.declared.depth.Depth.{Depth}
use Rattle.type_prefixes.specs.Summaries.{first_place, later_places, empty, called, raised}

pub first-there : (xs : List ℕ) (i d : ℕ) → i < length xs → slice_index_or xs i d ≡ first_place (drop i xs)
first-there [] i d low = absurd (omega (arith, low))
first-there (x ∷ xs) zero d low = refl
first-there (x ∷ xs) (suc i) d low = first-there xs i d (omega (arith, low))

pub first-past : (xs : List ℕ) (i : ℕ) → length xs ≤ i → 0 ≡ first_place (drop i xs)
first-past [] zero high = refl
first-past [] (suc i) high = refl
first-past (x ∷ xs) zero high = absurd (omega (arith, high))
first-past (x ∷ xs) (suc i) high = first-past xs i (omega (arith, high))

pub later-one : (xs : List ℕ) → later_places xs ≡ drop 1 xs
later-one [] = refl
later-one (x ∷ xs) = refl

pub first-empty : (xs : List ℕ) → length xs ≡ 0 → first_place xs ≡ 0
first-empty [] e = refl
first-empty (x ∷ xs) e = absurd (omega (arith, e))

pub called-there : (cs : List Depth) (k : ℕ) (d : Depth) → k < length cs → slice_index_or cs k d ≡ called cs k
called-there [] k d low = absurd (omega (arith, low))
called-there (c ∷ cs) zero d low = refl
called-there (c ∷ cs) (suc k) d low = called-there cs k d (omega (arith, low))

pub called-past : (cs : List Depth) (k : ℕ) → length cs ≤ k → called cs k ≡ empty
called-past [] k high = refl
called-past (c ∷ cs) zero high = absurd (omega (arith, high))
called-past (c ∷ cs) (suc k) high = called-past cs k (omega (arith, high))

-- one more place at the end, where nothing is used
pub raised-padded : (xs : List ℕ) (k n : ℕ) → length xs ≤ k → raised (xs ++ 0 ∷ []) k n ≡ raised xs k n
raised-padded [] zero n high = let e : max 0 n ≡ n = omega arith in ap (λ a. a ∷ []) e
raised-padded [] (suc k) n high = refl
raised-padded (x ∷ xs) zero n high = absurd (omega (arith, high))
raised-padded (x ∷ xs) (suc k) n high = ap (λ l. x ∷ l) (raised-padded xs k n (omega (arith, high)))

pub raised-there : (xs : List ℕ) (k n : ℕ) → k < length xs → slice_set xs k (max (first_place (drop k xs)) n) ≡ raised xs k n
raised-there [] k n low = absurd (omega (arith, low))
raised-there (x ∷ xs) zero n low = refl
raised-there (x ∷ xs) (suc k) n low = ap (λ l. x ∷ l) (raised-there xs k n (omega (arith, low)))

pub ruleset depths = (later-one, first-empty, first-there, first-past, called-there, called-past, raised-padded, raised-there)

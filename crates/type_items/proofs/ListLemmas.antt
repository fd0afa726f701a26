-- The first items of a list.
use Rattle.std.proofs.Common.{◌≡◌, ℕ, zero, suc, ◌+◌, ◌≤◌, ◌<◌, List, [], ◌∷◌, ◌++◌, length, take, Option, None, Some, refl, ap, sym, ◌∙◌, arith}
use Rattle.std.proofs.lemmas.List.{take-append-le, length-append}
use Rattle.std.specs.Option.{MatchOption}

-- without the last item, if it is past them
pub shorter : {A : Type 0} (n : ℕ) (xs ys : List A) (x : A) → n < length xs → xs ≡ ys ++ x ∷ [] → take n ys ≡ take n xs
shorter n xs ys x lt is =
    let e : length xs ≡ length ys + 1 = ap length is ∙ length-append ys (x ∷ []) in
    sym (ap (take n) is ∙ take-append-le n ys (x ∷ []) (omega (arith, lt, e)))

pub popped : {A : Type 0} (n : ℕ) (xs ys : List A) (o : Option A) → n < length xs → MatchOption o ((xs ≡ []) × (ys ≡ [])) (λ x. xs ≡ ys ++ x ∷ []) → take n ys ≡ take n xs
popped n xs ys None lt (e, h) = let z : length xs ≡ 0 = ap length e in absurd (omega (arith, lt, z))
popped n xs ys (Some x) lt is = shorter n xs ys x lt is

pub popped-less : {A : Type 0} (n : ℕ) (xs ys : List A) (o : Option A) → n < length xs → MatchOption o ((xs ≡ []) × (ys ≡ [])) (λ x. xs ≡ ys ++ x ∷ []) → length ys < length xs
popped-less n xs ys None lt (e, h) = let z : length xs ≡ 0 = ap length e in absurd (omega (arith, lt, z))
popped-less n xs ys (Some x) lt is =
    let e : length xs ≡ length ys + 1 = ap length is ∙ length-append ys (x ∷ []) in
    omega (arith, e)

pub all-taken : {A : Type 0} (n : ℕ) (xs : List A) → length xs ≤ n → take n xs ≡ xs
all-taken zero [] h = refl
all-taken zero (x ∷ xs) h = absurd (omega (arith, h))
all-taken (suc n) [] h = refl
all-taken (suc n) (x ∷ xs) h = ap (λ ys. x ∷ ys) (all-taken n xs (omega (arith, h)))

pub ruleset lists = (all-taken)

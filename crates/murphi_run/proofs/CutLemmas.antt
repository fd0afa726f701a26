-- Lists from which the last items are taken.
use Rattle.std.proofs.Common.{◌≡◌, ℕ, zero, suc, ◌+◌, ◌-◌, ◌<◌, ◌≤◌, List, [], ◌∷◌, ◌++◌, take, length, refl, sym, ap, ◌∙◌, arith, length-append}

take_front : {A : Type 0} (xs ys : List A) → take (length xs) (xs ++ ys) ≡ xs
take_front [] ys = refl
take_front (x ∷ xs) ys = ap (λ zs. x ∷ zs) (take_front xs ys)

pub shorter : {A : Type 0} (old new : List A) (last : A) → old ≡ new ++ last ∷ [] → new ≡ take (length old - 1) old
shorter old new last e =
    let all : length old ≡ length new + 1 = ap length e ∙ length-append new (last ∷ []) in
    let n : length old - 1 ≡ length new = omega (arith, all) in
    sym (ap (λ k. take k old) n ∙ ap (take (length new)) e ∙ take_front new (last ∷ []))

take_take : {A : Type 0} (k m : ℕ) (ys : List A) → k ≤ m → take k (take m ys) ≡ take k ys
take_take zero m ys e = refl
take_take (suc k) zero ys e = absurd (omega (arith, e))
take_take (suc k) (suc m) [] e = refl
take_take (suc k) (suc m) (y ∷ ys) e = ap (λ zs. y ∷ zs) (take_take k m ys (omega (arith, e)))

take_length : {A : Type 0} (m : ℕ) (ys : List A) → m ≤ length ys → length (take m ys) ≡ m
take_length zero ys e = refl
take_length (suc m) [] e = absurd (omega (arith, e))
take_length (suc m) (y ∷ ys) e = ap suc (take_length m ys (omega (arith, e)))

pub cut_more : {A : Type 0} (xs ys : List A) (k : ℕ) → xs ≡ take (length ys - k) ys → k < length ys → take (length xs - 1) xs ≡ take (length ys - (k + 1)) ys
cut_more xs ys k e low =
    let within : length ys - k ≤ length ys = omega arith in
    let n : length xs ≡ length ys - k = ap length e ∙ take_length (length ys - k) ys within in
    let m : length xs - 1 ≡ length ys - (k + 1) = omega (arith, n) in
    let order : length ys - (k + 1) ≤ length ys - k = omega (arith, low) in
    ap (λ j. take j xs) m ∙ ap (take (length ys - (k + 1))) e ∙ take_take (length ys - (k + 1)) (length ys - k) ys order

-- A stretch of a list that is written item by item.
use Rattle.std.proofs.Common.{◌≡◌, ℕ, zero, suc, ◌+◌, ◌<◌, ◌≤◌, List, [], ◌∷◌, ◌++◌, length, take, drop, Some, refl, ap, ◌∙◌, arith}
use Rattle.std.specs.Prelude.{slice_get, slice_set}
use Rattle.murphi_run.specs.Stretches.{with_stretch}

take_all : {A : Type 0} (xs : List A) → take (length xs) xs ≡ xs
take_all [] = refl
take_all (x ∷ xs) = ap (λ ys. x ∷ ys) (take_all xs)

-- nothing is written yet
pub put_none : {A : Type 0} (n : ℕ) (new xs : List A) → xs ≡ with_stretch n (take 0 new) xs
put_none zero new xs = refl
put_none (suc n) new [] = refl
put_none (suc n) new (x ∷ xs) = ap (λ ys. x ∷ ys) (put_none n new xs)

-- all is written
pub put_all : {A : Type 0} (n : ℕ) (new xs : List A) → with_stretch n (take (length new) new) xs ≡ with_stretch n new xs
put_all n new xs = ap (λ ys. with_stretch n ys xs) (take_all new)

front : {A : Type 0} (k : ℕ) (v : A) (new xs : List A) → slice_get new k ≡ Some v → length new ≤ length xs → slice_set (take k new ++ drop (length (take k new)) xs) k v ≡ take (suc k) new ++ drop (length (take (suc k) new)) xs
front k v [] xs e f = cc
front k v (y ∷ new) [] e f = absurd (omega (arith, f))
front zero v (y ∷ new) (x ∷ xs) e f = let s : v ≡ y = cc in ap (λ z. z ∷ xs) s
front (suc k) v (y ∷ new) (x ∷ xs) e f = ap (λ zs. y ∷ zs) (front k v new xs e (omega (arith, f)))

later : {A : Type 0} (n k : ℕ) (v : A) (new xs : List A) → slice_get new k ≡ Some v → n + length new ≤ length xs → slice_set (with_stretch n (take k new) xs) (n + k) v ≡ with_stretch n (take (suc k) new) xs
later zero k v new xs e f =
    let same : 0 + k ≡ k = omega arith in
    ap (λ j. slice_set (with_stretch 0 (take k new) xs) j v) same ∙ front k v new xs e (omega (arith, f))
later (suc n) k v new [] e f = absurd (omega (arith, f))
later (suc n) k v new (x ∷ xs) e f =
    let same : suc n + k ≡ suc (n + k) = omega arith in
    ap (λ j. slice_set (with_stretch (suc n) (take k new) (x ∷ xs)) j v) same ∙ ap (λ zs. x ∷ zs) (later n k v new xs e (omega (arith, f)))

-- one item more
pub put_more : {A : Type 0} (n k : ℕ) (v : A) (new xs old next : List A) → old ≡ with_stretch n (take k new) xs → slice_get new k ≡ Some v → n + length new ≤ length xs → next ≡ slice_set old (n + k) v → next ≡ with_stretch n (take (k + 1) new) xs
put_more n k v new xs old next is e f set =
    let one : suc k ≡ k + 1 = omega arith in
    set ∙ ap (λ ys. slice_set ys (n + k) v) is ∙ later n k v new xs e f ∙ ap (λ j. with_stretch n (take j new) xs) one

length_taken : {A : Type 0} (k : ℕ) (xs : List A) → length (take k xs) ≤ length xs
length_taken zero xs = omega arith
length_taken (suc k) [] = omega arith
length_taken (suc k) (x ∷ xs) = omega (arith, length_taken k xs)

keeps_length : {A : Type 0} (n : ℕ) (new xs : List A) → n + length new ≤ length xs → length (with_stretch n new xs) ≡ length xs
keeps_length zero [] xs e = refl
keeps_length zero (y ∷ new) [] e = absurd (omega (arith, e))
keeps_length zero (y ∷ new) (x ∷ xs) e = ap suc (keeps_length zero new xs (omega (arith, e)))
keeps_length (suc n) new [] e = absurd (omega (arith, e))
keeps_length (suc n) new (x ∷ xs) e = ap suc (keeps_length n new xs (omega (arith, e)))

-- there is room for each item
pub put_within : {A : Type 0} (n k : ℕ) (new xs old : List A) → old ≡ with_stretch n (take k new) xs → k < length new → n + length new ≤ length xs → n + k < length old
put_within n k new xs old is low e =
    let same : length old ≡ length xs = ap length is ∙ keeps_length n (take k new) xs (omega (arith, e, length_taken k new)) in
    omega (arith, same, low, e)

pub ruleset puts = (put_none, put_all, put_more, put_within)

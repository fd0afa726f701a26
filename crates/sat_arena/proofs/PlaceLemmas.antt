-- What stands at a place of a list that was written, cut, made longer or swapped in.
use Rattle.std.proofs.Common.{◌≡◌, ℕ, ◌-◌, ◌<◌, zero, suc, List, [], ◌∷◌, ◌++◌, length, get_or, set, take, refl, sym, ◌∙◌, ap, arith, inl, inr, ◌⊎◌, Some}
use Rattle.std.specs.Prelude.{slice_get}
use Rattle.std.specs.List.{swap_remove}
use Rattle.std.proofs.lemmas.List.{length-take-le, length-set}
use Rattle.std.proofs.lemmas.Option.{slice_get-get_or}

pub get_same : {X : Type 0} (xs : List X) (i : ℕ) (v : X) → i < length xs → slice_get (set xs i v) i ≡ Some v
get_same [] i v h = absurd (omega arith)
get_same (x ∷ xs) zero v h = refl
get_same (x ∷ xs) (suc i) v h = get_same xs i v (omega arith)

pub get_other : {X : Type 0} (xs : List X) (i j : ℕ) (v : X) → (i ≡ j → ⊥) → slice_get (set xs j v) i ≡ slice_get xs i
get_other [] i j v n = refl
get_other (x ∷ xs) zero zero v n = absurd (n refl)
get_other (x ∷ xs) zero (suc j) v n = refl
get_other (x ∷ xs) (suc i) zero v n = refl
get_other (x ∷ xs) (suc i) (suc j) v n = get_other xs i j v (λ e. n (ap suc e))

pub get_take : {X : Type 0} (xs : List X) (n i : ℕ) → i < n → slice_get (take n xs) i ≡ slice_get xs i
get_take [] zero i h = refl
get_take [] (suc n) i h = refl
get_take (x ∷ xs) zero i h = absurd (omega arith)
get_take (x ∷ xs) (suc n) zero h = refl
get_take (x ∷ xs) (suc n) (suc i) h = get_take xs n i (omega arith)

pub get_left : {X : Type 0} (xs ys : List X) (i : ℕ) → i < length xs → slice_get (xs ++ ys) i ≡ slice_get xs i
get_left [] ys i h = absurd (omega arith)
get_left (x ∷ xs) ys zero h = refl
get_left (x ∷ xs) ys (suc i) h = get_left xs ys i (omega arith)

pub get_end : {X : Type 0} (xs : List X) (y : X) → slice_get (xs ++ y ∷ []) (length xs) ≡ Some y
get_end [] y = refl
get_end (x ∷ xs) y = get_end xs y

-- what stands in a list that was made longer by one stood there before, or is the last
pub get_push : {X : Type 0} (xs : List X) (y : X) (i : ℕ) (x : X) → slice_get (xs ++ y ∷ []) i ≡ Some x → (slice_get xs i ≡ Some x) ⊎ ((i ≡ length xs) × (y ≡ x))
get_push [] y zero x e = inr (refl, cc)
get_push [] y (suc i) x e = cc
get_push (z ∷ xs) y zero x e = inl e
get_push (z ∷ xs) y (suc i) x e = further (get_push xs y i x e) where
  further : (slice_get xs i ≡ Some x) ⊎ ((i ≡ length xs) × (y ≡ x)) → (slice_get xs i ≡ Some x) ⊎ ((suc i ≡ length (z ∷ xs)) × (y ≡ x))
  further (inl h) = inl h
  further (inr h) = inr (ap suc h.0, h.1)

-- the last element takes the place of one that was taken out

pub get_gone : {X : Type 0} (xs : List X) (at i : ℕ) (d : X) → i < length xs - 1 → (i ≡ at → ⊥) → slice_get (swap_remove xs at d) i ≡ slice_get xs i
get_gone xs at i d h n = get_take (set xs at (get_or xs (length xs - 1) d)) (length xs - 1) i h ∙ get_other xs i at (get_or xs (length xs - 1) d) n

pub get_moved : {X : Type 0} (xs : List X) (at : ℕ) (d : X) → at < length xs - 1 → slice_get (swap_remove xs at d) at ≡ slice_get xs (length xs - 1)
get_moved xs at d h =
    get_take (set xs at (get_or xs (length xs - 1) d)) (length xs - 1) at h
    ∙ get_same xs at (get_or xs (length xs - 1) d) (omega arith)
    ∙ sym (slice_get-get_or xs (length xs - 1) d (omega arith))

pub length_gone : {X : Type 0} (xs : List X) (at : ℕ) (d : X) → 0 < length xs → length (swap_remove xs at d) ≡ length xs - 1
length_gone xs at d h = length-take-le (length xs - 1) (set xs at (get_or xs (length xs - 1) d)) (let e : length (set xs at (get_or xs (length xs - 1) d)) ≡ length xs = length-set xs at (get_or xs (length xs - 1) d) in omega arith)

-- Lists that grow at their end, and what is left of a list.
use Rattle.std.proofs.Common.{◌≡◌, ℕ, zero, suc, ◌+◌, ◌<◌, ◌≤◌, List, [], ◌∷◌, ◌++◌, map, drop, length, get_or, Some, refl, ap, ◌∙◌, arith, append_assoc, append-nil}
use Rattle.std.specs.Prelude.{slice_get}
use Rattle.std.proofs.lemmas.Option.{slice_get_read}

pub mapped_joined : {A B : Type 0} (f : A → B) (xs ys : List A) → map f (xs ++ ys) ≡ map f xs ++ map f ys
mapped_joined f [] ys = refl
mapped_joined f (x ∷ xs) ys = ap (λ zs. f x ∷ zs) (mapped_joined f xs ys)

pub after_after : {A : Type 0} (xs ys zs : List A) → (xs ++ ys) ++ zs ≡ xs ++ (ys ++ zs)
after_after xs ys zs = append_assoc xs ys zs

pub nothing_after : {A : Type 0} (xs : List A) → xs ++ [] ≡ xs
nothing_after xs = append-nil xs

pub drop_end : {A : Type 0} (xs : List A) (n : ℕ) → length xs ≤ n → drop n xs ≡ []
drop_end [] zero e = refl
drop_end [] (suc n) e = refl
drop_end (x ∷ xs) zero e = absurd (omega (arith, e))
drop_end (x ∷ xs) (suc n) e = drop_end xs n (omega (arith, e))

pub drop_at : {A : Type 0} (xs : List A) (n : ℕ) (x : A) → slice_get xs n ≡ Some x → drop n xs ≡ x ∷ drop (n + 1) xs
drop_at [] n x e = cc
drop_at (y ∷ xs) zero x e = let s : y ≡ x = cc in ap (λ z. z ∷ xs) s
drop_at (y ∷ xs) (suc n) x e =
    let h : suc (n + 1) ≡ suc n + 1 = omega arith in
    drop_at xs n x e ∙ ap (λ k. x ∷ drop k (y ∷ xs)) h

-- what is left of a list, and the one before it
pub drop_more : {A : Type 0} (xs : List A) (i : ℕ) (x : A) → i < length xs → x ≡ get_or xs i x → drop i xs ≡ x ∷ drop (i + 1) xs
drop_more xs i x less e = drop_at xs i x (slice_get_read xs (length xs) i x refl less e)

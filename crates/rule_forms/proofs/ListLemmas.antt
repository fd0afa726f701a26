-- Lists that grow at their end.
use Rattle.std.proofs.Common.{◌≡◌, List, [], ◌∷◌, ◌++◌, map, refl, ap, append_assoc, append-nil}

pub mapped_joined : {A B : Type 0} (f : A → B) (xs ys : List A) → map f (xs ++ ys) ≡ map f xs ++ map f ys
mapped_joined f [] ys = refl
mapped_joined f (x ∷ xs) ys = ap (λ zs. f x ∷ zs) (mapped_joined f xs ys)

pub after_after : {A : Type 0} (xs ys zs : List A) → (xs ++ ys) ++ zs ≡ xs ++ (ys ++ zs)
after_after xs ys zs = append_assoc xs ys zs

pub nothing_after : {A : Type 0} (xs : List A) → xs ++ [] ≡ xs
nothing_after xs = append-nil xs

-- Lists that are read one after another, in a loop.
use Rattle.std.proofs.Common.{◌≡◌, ℕ, List, [], ◌∷◌, ◌++◌, drop, Some, None, refl, sym, ap, subst, append_assoc, append-nil}
use Rattle.murphi_ast.specs.declared.token.Token.{Token}
use Rattle.murphi_syntax.specs.Reading.{Read, Eventually, with_front, SoFar}

with_front-nil : {A : Type 0} (r : Read (List A)) → with_front [] r ≡ r
with_front-nil None = refl
with_front-nil (Some x) = refl

pub with_front-snoc : {A : Type 0} (front : List A) (one : A) (r : Read (List A)) → with_front (front ++ one ∷ []) r ≡ with_front front (with_front (one ∷ []) r)
with_front-snoc front one None = refl
with_front-snoc front one (Some x) = ap (λ ls. Some (ls, x.1)) (append_assoc front (one ∷ []) x.0)

-- nothing so far
pub begins : {A : Type 0} (f : ℕ → List Token → Read (List A)) (tokens : List Token) (at : ℕ) → SoFar f tokens at at []
begins f tokens at r h = subst (λ x. Eventually (λ k. f k (drop at tokens)) x) (sym (with_front-nil r)) h

-- what comes with one in front of what follows
pub with_one : {A : Type 0} (f : ℕ → Read (List A)) (one : A) (r : Read (List A)) → Eventually f r → Eventually (λ k. with_front (one ∷ []) (f k)) (with_front (one ∷ []) r)
with_one f one r (n, h) = (n, λ m le. ap (with_front (one ∷ [])) (h m le))

-- over something that leaves nothing
pub skips : {A : Type 0} (f : ℕ → List Token → Read (List A)) (tokens : List Token) (from at next : ℕ) (front : List A) → SoFar f tokens from at front → ((r : Read (List A)) → Eventually (λ k. f k (drop next tokens)) r → Eventually (λ k. f k (drop at tokens)) r) → SoFar f tokens from next front
skips f tokens from at next front before step r h = before r (step r h)

-- over one more
pub takes : {A : Type 0} (f : ℕ → List Token → Read (List A)) (tokens : List Token) (from at next : ℕ) (front : List A) (one : A) → SoFar f tokens from at front → ((r : Read (List A)) → Eventually (λ k. f k (drop next tokens)) r → Eventually (λ k. f k (drop at tokens)) (with_front (one ∷ []) r)) → SoFar f tokens from next (front ++ one ∷ [])
takes f tokens from at next front one before step r h =
    subst (λ x. Eventually (λ k. f k (drop from tokens)) x) (sym (with_front-snoc front one r)) (before (with_front (one ∷ []) r) (step r h))

-- at the end, with nothing more
pub ends : {A : Type 0} (f : ℕ → List Token → Read (List A)) (tokens : List Token) (from at next : ℕ) (front : List A) → SoFar f tokens from at front → Eventually (λ k. f k (drop at tokens)) (Some ([], drop next tokens)) → Eventually (λ k. f k (drop from tokens)) (Some (front, drop next tokens))
ends f tokens from at next front before h =
    subst (λ ls. Eventually (λ k. f k (drop from tokens)) (Some (ls, drop next tokens))) (append-nil front) (before (Some ([], drop next tokens)) h)

-- at the end, with one more
pub ends_with : {A : Type 0} (f : ℕ → List Token → Read (List A)) (tokens : List Token) (from at next : ℕ) (front : List A) (one : A) → SoFar f tokens from at front → Eventually (λ k. f k (drop at tokens)) (Some (one ∷ [], drop next tokens)) → Eventually (λ k. f k (drop from tokens)) (Some (front ++ one ∷ [], drop next tokens))
ends_with f tokens from at next front one before h = before (Some (one ∷ [], drop next tokens)) h

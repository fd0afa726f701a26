-- What is read from some number of turns on: one answer, and how readers go on.
use Rattle.std.proofs.Common.{◌≡◌, ℕ, zero, suc, ◌+◌, ◌≤◌, List, Some, None, refl, sym, ap, ◌∙◌, subst, arith}
use Rattle.murphi_ast.specs.declared.token.Token.{Token}
use Rattle.murphi_syntax.specs.Reading.{Read, Eventually, after}

-- there is one answer
pub one_answer : {A : Type 0} (f : ℕ → A) (a b : A) → Eventually f a → Eventually f b → a ≡ b
one_answer f a b (n, h) (m, k) = sym (h (n + m) (omega arith)) ∙ k (n + m) (omega arith)

-- what is always so is so from no turn on
pub always : {A : Type 0} (f : ℕ → A) (a : A) → ((k : ℕ) → f k ≡ a) → Eventually f a
always f a h = (0, λ m le. h m)

-- what holds of each turn after the first
later : {A : Type 0} (f g : ℕ → A) (a : A) (n : ℕ) → ((k : ℕ) → f (suc k) ≡ g k) → ((m : ℕ) → n ≤ m → g m ≡ a) → (m : ℕ) → suc n ≤ m → f m ≡ a
later f g a n step h zero le = absurd (omega arith)
later f g a n step h (suc m) le = step m ∙ h m (omega arith)

-- one more turn
pub one_more_turn : {A : Type 0} (f g : ℕ → A) (a : A) → ((k : ℕ) → f (suc k) ≡ g k) → Eventually g a → Eventually f a
one_more_turn f g a step (n, h) = (suc n, later f g a n step h)

-- a reader that goes on with what another read
pub goes_on : {A B : Type 0} (f : ℕ → Read A) (g : ℕ → A → List Token → Read B) (a : A) (rest : List Token) (b : Read B) → Eventually f (Some (a, rest)) → Eventually (λ k. g k a rest) b → Eventually (λ k. after (g k) (f k)) b
goes_on f g a rest b (n, h) (m, k) =
    (n + m, λ j le. ap (after (g j)) (h j (omega arith)) ∙ k j (omega arith))

-- where the other reads nothing, nothing is read
pub goes_nowhere : {A B : Type 0} (f : ℕ → Read A) (g : ℕ → A → List Token → Read B) → Eventually f None → Eventually (λ k. after (g k) (f k)) None
goes_nowhere f g (n, h) = (n, λ j le. ap (after (g j)) (h j le))

-- both, by cases on what the other reads
pub goes : {A B : Type 0} (f : ℕ → Read A) (g : ℕ → A → List Token → Read B) (r : Read A) (b : Read B) → Eventually f r → ((a : A) (rest : List Token) → r ≡ Some (a, rest) → Eventually (λ k. g k a rest) b) → (r ≡ None → b ≡ None) → Eventually (λ k. after (g k) (f k)) b
goes f g None b h some none = let e = none refl in subst (λ b. Eventually (λ k. after (g k) (f k)) b) (sym e) (goes_nowhere f g h)
goes f g (Some x) b h some none = goes_on f g x.0 x.1 b h (some x.0 x.1 refl)

-- a reader whose turns are equal to those of another
pub same_turns : {A : Type 0} (f g : ℕ → A) (a : A) → ((k : ℕ) → f k ≡ g k) → Eventually g a → Eventually f a
same_turns f g a same (n, h) = (n, λ m le. same m ∙ h m le)

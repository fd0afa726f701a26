-- Lists of symbols as sets.
use Rattle.std.specs.Prelude.{nat_eq, ◌&&◌, ◌||◌, not}
use Rattle.std.proofs.Common.{◌≡◌, ℕ, Bool, true, false, List, [], ◌∷◌, ◌++◌, ◌⊎◌, inl, inr, refl, sym, subst}
use Rattle.std.proofs.lemmas.Bool.{eqb-true}
use Rattle.grammar_core.specs.Test.{is_in, apart, within, given}

pub both : (a b : Bool) → a && b ≡ true → (a ≡ true) × (b ≡ true)
both true true h = (refl, refl)
both true false h = absurd (cc)
both false b h = absurd (cc)

pub one_of : (a b : Bool) → a || b ≡ true → (a ≡ true) ⊎ (b ≡ true)
one_of true b h = inl refl
one_of false b h = inr h

pub or_left : (a b : Bool) → a ≡ true → a || b ≡ true
or_left true b h = refl
or_left false b h = absurd (cc)

pub or_right : (a b : Bool) → b ≡ true → a || b ≡ true
or_right true b h = refl
or_right false b h = h

pub not_both : (a : Bool) → a ≡ true → not a ≡ true → ⊥
not_both true h k = absurd (cc)
not_both false h k = absurd (cc)

pub in_left : (s : ℕ) (xs ys : List ℕ) → is_in s xs ≡ true → is_in s (xs ++ ys) ≡ true
unfolding is_in within apart
in_left s [] ys h = absurd (cc)
in_left s (x ∷ xs) ys h = elim (one_of (nat_eq s x) (is_in s xs) h) [ inl k ↦ or_left _ _ k | inr k ↦ or_right (nat_eq s x) _ (in_left s xs ys k) ]

pub in_right : (s : ℕ) (xs ys : List ℕ) → is_in s ys ≡ true → is_in s (xs ++ ys) ≡ true
unfolding is_in within apart
in_right s [] ys h = h
in_right s (x ∷ xs) ys h = or_right (nat_eq s x) _ (in_right s xs ys h)

pub in_given : (s : ℕ) (b : Bool) (xs : List ℕ) → b ≡ true → is_in s xs ≡ true → is_in s (given b xs) ≡ true
unfolding is_in within apart
in_given s true xs e h = h
in_given s false xs e h = absurd (cc)

pub in_within : (s : ℕ) (xs ys : List ℕ) → within xs ys ≡ true → is_in s xs ≡ true → is_in s ys ≡ true
unfolding is_in within apart
in_within s [] ys w h = absurd (cc)
in_within s (x ∷ xs) ys w h =
    elim (one_of (nat_eq s x) (is_in s xs) h) [ inl k ↦ subst (λ z. is_in z ys ≡ true) (sym (eqb-true s x k)) (both _ _ w).0 | inr k ↦ in_within s xs ys (both (is_in x ys) _ w).1 k ]

pub not_apart : (s : ℕ) (xs ys : List ℕ) → apart xs ys ≡ true → is_in s xs ≡ true → is_in s ys ≡ true → ⊥
unfolding is_in within apart
not_apart s [] ys w h i = absurd (cc)
not_apart s (x ∷ xs) ys w h i =
    elim (one_of (nat_eq s x) (is_in s xs) h) [ inl k ↦ not_both (is_in x ys) (subst (λ z. is_in z ys ≡ true) (eqb-true s x k) i) (both _ _ w).0 | inr k ↦ not_apart s xs ys (both (not (is_in x ys)) _ w).1 k i ]

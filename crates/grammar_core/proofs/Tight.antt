-- Each symbol of a table does begin its form.
use Rattle.std.specs.Prelude.{◌||◌, not, nat_eq}
use Rattle.std.proofs.Common.{◌≡◌, ℕ, zero, suc, Bool, true, false, List, [], ◌∷◌, ◌++◌, ◌⊎◌, inl, inr, refl, ap}
use Rattle.std.proofs.lemmas.Bool.{eqb-true}
use Rattle.grammar_core.specs.Forms.{One, Empty, Seq, Choice, Many, Nest, Call, Tree, Grammar, FormOf}
use Rattle.grammar_core.specs.Spelling.{Any, any_more, Spells, Begins}
use Rattle.grammar_core.specs.Test.{is_in, given, nullable_by, firsts_by, firsts, null_at, starts_at, IsDecided, Tables, key}
use Rattle.grammar_core.specs.Spelling.{Spells as s}
use Rattle.grammar_core.specs.Spelling.{Begins as b}
use Rattle.grammar_core.proofs.Sets.{both, one_of, in_within}
use Rattle.grammar_core.proofs.Sound.{implied}

in_parts : (x : ℕ) (xs ys : List ℕ) → is_in x (xs ++ ys) ≡ true → (is_in x xs ≡ true) ⊎ (is_in x ys ≡ true)
unfolding is_in
in_parts x [] ys h = inr h
in_parts x (z ∷ xs) ys h = elim (one_of (nat_eq x z) _ h) [ inl k ↦ inl (first k) | inr k ↦ second (in_parts x xs ys k) ]
  where
    first : nat_eq x z ≡ true → nat_eq x z || is_in x xs ≡ true
    first k = ap (λ y. y || is_in x xs) k

    second : (is_in x xs ≡ true) ⊎ (is_in x ys ≡ true) → (nat_eq x z || is_in x xs ≡ true) ⊎ (is_in x ys ≡ true)
    second (inl k) = inl (or_true (nat_eq x z) (is_in x xs) k)
      where
        or_true : (a b : Bool) → b ≡ true → a || b ≡ true
        or_true true b e = refl
        or_true false b e = e
    second (inr k) = inr k

in_given_is : (x : ℕ) (b : Bool) (xs : List ℕ) → is_in x (given b xs) ≡ true → (b ≡ true) × (is_in x xs ≡ true)
unfolding is_in
in_given_is x true xs h = (refl, h)
in_given_is x false xs h = absurd (cc)

in_one : (x y : ℕ) → is_in x (y ∷ []) ≡ true → x ≡ y
unfolding is_in
in_one x y h = elim (one_of (nat_eq x y) false h) [ inl k ↦ eqb-true x y k | inr k ↦ absurd (cc) ]

pub in_none : (x : ℕ) → is_in x [] ≡ true → ⊥
unfolding is_in
in_none x h = absurd (cc)

module _ (g : Grammar) (tab : Tables g) (differ : (a b : g.Symbol) → tab.number a ≡ tab.number b → a ≡ b) where
  null_made : (N : g.Name → Bool) → ((n : g.Name) → N n ≡ true → (v : g.Value n) × Spells g Any (Call n) [] v) → (f : FormOf g) → nullable_by N f ≡ true → (t : Tree g f) × Spells g Any f [] t
  null_made N have (One x) h = absurd (cc)
  null_made N have Empty h = (tt, s.empty)
  null_made N have (Seq a c) h = let p = both (nullable_by N a) _ h in let u = null_made N have a p.0 in let v = null_made N have c p.1 in ((u.0, v.0), s.seq u.1 v.1 refl)
  null_made N have (Choice a c) h = elim (one_of (nullable_by N a) _ h) [ inl k ↦ (inl (null_made N have a k).0, s.left (null_made N have a k).1) | inr k ↦ (inr (null_made N have c k).0, s.right (null_made N have c k).1) ]
  null_made N have (Many a) h = ([], s.none)
  null_made N have (Nest x a) h = absurd (cc)
  null_made N have (Call n) h = have n h

  first_made : (N : g.Name → Bool) → ((n : g.Name) → N n ≡ true → (v : g.Value n) × Spells g Any (Call n) [] v) → (S : g.Name → List ℕ) → ((n : g.Name) (c : g.Token) → is_in (key tab c) (S n) ≡ true → Begins g Any (Call n) (c ∷ [])) → (f : FormOf g) (c : g.Token) → is_in (key tab c) (firsts_by tab.number N S f) ≡ true → Begins g Any f (c ∷ [])
  first_made N have S get (One x) c h = b.token c (differ _ _ (in_one _ _ h))
  first_made N have S get Empty c h = absurd (in_none _ h)
  first_made N have S get (Seq a d) c h =
      elim (in_parts (key tab c) (firsts_by tab.number N S a) _ h) [
        | inl k ↦ b.first (first_made N have S get a c k)
        | inr k ↦ let p = in_given_is (key tab c) (nullable_by N a) _ k in b.second (null_made N have a p.0).1 (first_made N have S get d c p.1) refl
      ]
  first_made N have S get (Choice a d) c h =
      elim (in_parts (key tab c) (firsts_by tab.number N S a) _ h) [ inl k ↦ b.left (first_made N have S get a c k) | inr k ↦ b.right (first_made N have S get d c k) ]
  first_made N have S get (Many a) c h = b.some s.none (first_made N have S get a c h) refl
  first_made N have S get (Nest x a) c h = b.nest c (differ _ _ (in_one _ _ h)) any_more b.nothing
  first_made N have S get (Call n) c h = get n c h

  null_level : (k : ℕ) (n : g.Name) → null_at g k n ≡ true → (v : g.Value n) × Spells g Any (Call n) [] v
  unfolding null_at
  null_level zero n h = absurd (cc)
  null_level (suc k) n h = let u = null_made (null_at g k) (null_level k) (g.rule n) h in (g.build n u.0, s.call u.1 refl)

  first_level : (k : ℕ) (n : g.Name) (c : g.Token) → is_in (key tab c) (starts_at tab k n) ≡ true → Begins g Any (Call n) (c ∷ [])
  unfolding starts_at
  first_level zero n c h = absurd (in_none _ h)
  first_level (suc k) n c h = b.call (first_made (null_at g k) (null_level k) (starts_at tab k) (first_level k) (g.rule n) c h)

  pub begins_with : (k : ℕ) → IsDecided tab k → (f : FormOf g) (c : g.Token) → is_in (key tab c) (firsts tab f) ≡ true → Begins g Any f (c ∷ [])
  begins_with k is f c h =
      first_made tab.can_be_empty
      (λ n e. null_level k n (implied _ _ (both (not (tab.can_be_empty n) || null_at g k n) _ (is.right n)).0 e))
      tab.starts
      (λ n d e. first_level k n d (in_within _ _ _ (both (not (tab.can_be_empty n) || null_at g k n) _ (is.right n)).1 e))
      f c h

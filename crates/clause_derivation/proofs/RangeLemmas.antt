-- The numbers, pivots and results of a derivation are in range.
use Rattle.std.proofs.Common.{◌≡◌, ℕ, ◌+◌, ◌*◌, ◌/◌, ◌<◌, ◌++◌, ◌⊎◌, zero, suc, Bool, true, false, List, [], ◌∷◌, length, eqb, refl, sym, ◌∙◌, subst, inl, inr, arith, Some, None, Option}
use Rattle.std.specs.Prelude.{All, IsSomeAnd, slice_get, fold}
use Rattle.std.specs.List.{AllByRecursion}
use Rattle.std.specs.Option.{option_and_then}
use Rattle.std.proofs.lemmas.Bool.{or_cases, or_left, or_right, eq-eqb, eqb-true}
use Rattle.std.proofs.lemmas.List.Elements.{recursion_from_All, All-from_recursion, All-nil, All-cons, All-push}
use Rattle.std.proofs.lemmas.Option.{none-some}
use Rattle.clause_core.specs.declared.literal.Lit.{Lit}
use Rattle.clause_core.specs.Literal.{variable_of, positive, negative}
use Rattle.clause_core.specs.Members.{has}
use Rattle.clause_core.specs.Formula.{IsInRange, AreInRange}
use Rattle.clause_derivation.specs.declared.chain.Chain.{Chain}
use Rattle.clause_derivation.specs.declared.chain.Resolve.{Resolve}
use Rattle.clause_derivation.specs.Resolution.{clash, others, chosen, resolvent, IsSameSet}
use Rattle.clause_derivation.specs.Derivation.{next, chain_end, Derives, IsDerivation, results, ArePivotsInRange}
use Rattle.clause_derivation.specs.Numbering.{named}
use Rattle.clause_derivation.proofs.ChainLemmas.{lits_of, named_by, part_steps, part_resolved}
use Rattle.clause_derivation.proofs.MarkLemmas.{has-append, and_split}
use Rattle.clause_derivation.proofs.RenumberLemmas.{fold_none}

-- each literal of a clause is of one of the first n variables
abbrev Within : ℕ → List Lit → Type 0
Within n c = (l : Lit) → has c l ≡ true → variable_of l < n

within_of : (n : ℕ) (c : List Lit) → AllByRecursion (λ l. variable_of l < n) c → Within n c
within_of n [] h l i = cc
within_of n (x ∷ c) h l i = elim (or_cases (eqb x.code l.code) (has c l) i) [
  | inl e ↦ subst (λ k. k / 2 < n) (eqb-true x.code l.code e) h.0
  | inr j ↦ within_of n c h.1 l j
]

of_within : (n : ℕ) (c : List Lit) → Within n c → AllByRecursion (λ l. variable_of l < n) c
of_within n [] f = tt
of_within n (x ∷ c) f = (
  f x (or_left (eqb x.code x.code) (has c x) (eq-eqb x.code x.code refl)),
  of_within n c (λ l h. f l (or_right (eqb x.code l.code) (has c l) h)),
)

within_both : (n : ℕ) (c d : List Lit) → Within n c → Within n d → Within n (c ++ d)
within_both n c d f g l h = elim (or_cases (has c l) (has d l) (sym (has-append c d l) ∙ h)) [ inl i ↦ f l i | inr j ↦ g l j ]

within_named : (n : ℕ) (clauses : List (List Lit)) → AllByRecursion (IsInRange n) clauses → (k : ℕ) → Within n (lits_of (slice_get clauses k))
within_named n [] h k l i = cc
within_named n (c ∷ clauses) h zero l i = within_of n c (recursion_from_All (λ l. variable_of l < n) c h.0) l i
within_named n (c ∷ clauses) h (suc k) l i = within_named n clauses h.1 k l i

within_steps : (n : ℕ) (clauses : List (List Lit)) → AllByRecursion (IsInRange n) clauses → (steps : List Resolve) → Within n (named_by clauses steps)
within_steps n clauses h [] l i = cc
within_steps n clauses h (s ∷ steps) l i = within_both n (named clauses s.with) (named_by clauses steps) (within_named n clauses h s.with) (within_steps n clauses h steps) l i

within_end : (n : ℕ) (clauses : List (List Lit)) (ch : Chain) → AllByRecursion (IsInRange n) clauses → Within n (lits_of (chain_end clauses ch))
within_end n clauses ch h l i =
    within_both n (named clauses ch.first) (named_by clauses ch.steps) (within_named n clauses h ch.first) (within_steps n clauses h ch.steps)
    l (part_steps clauses (slice_get clauses ch.first) ch.steps l i)

derived_range : (n : ℕ) (o : Option (List Lit)) (c : List Lit) → Within n (lits_of o) → IsSomeAnd o (λ d. IsSameSet d c) → IsInRange n c
derived_range n None c f h = absurd h
derived_range n (Some d) c f h = All-from_recursion (λ l. variable_of l < n) c (of_within n c (λ l i. f l (h l ∙ i)))

-- the result of a chain is over the variables of the clauses
result_range : (n : ℕ) (clauses : List (List Lit)) (ch : Chain) → AreInRange n clauses → Derives clauses ch → IsInRange n ch.result
result_range n clauses ch a d = derived_range n (chain_end clauses ch) ch.result (within_end n clauses ch (recursion_from_All (IsInRange n) clauses a)) d

pub results_range : (n : ℕ) (clauses : List (List Lit)) (chains : List Chain) → AreInRange n clauses → IsDerivation clauses chains → AreInRange n (results chains)
results_range n clauses [] a d = All-nil (IsInRange n)
results_range n clauses (ch ∷ chains) a d =
    let one : IsInRange n ch.result = result_range n clauses ch a d.0 in
    All-cons (IsInRange n) ch.result (results chains) one (results_range n (clauses ++ ch.result ∷ []) chains (All-push (IsInRange n) clauses ch.result a one) d.1)

-- a step is on a variable of the clause that it is taken on

chosen_way : (f b : Bool) (x y e : List Lit) → chosen f b x y ≡ Some e → (f ≡ true) ⊎ (b ≡ true)
chosen_way true true x y e h = inl refl
chosen_way true false x y e h = inl refl
chosen_way false true x y e h = inr refl
chosen_way false false x y e h = absurd (none-some e h)

pivot_of : (n v : ℕ) (c d e : List Lit) → Within n c → resolvent v c d ≡ Some e → v < n
pivot_of n v c d e f h = elim (chosen_way (clash c (positive v) d (negative v)) (clash c (negative v) d (positive v)) (others c (positive v) d (negative v)) (others c (negative v) d (positive v)) e h) [
  | inl i ↦ let b : 2 * v / 2 < n = f (positive v) (and_split (has c (positive v)) (has d (negative v)) i).0 in omega arith
  | inr j ↦ let b : (2 * v + 1) / 2 < n = f (negative v) (and_split (has c (negative v)) (has d (positive v)) j).0 in omega arith
]

within_length : (clauses : List (List Lit)) (k : ℕ) (c : List Lit) → slice_get clauses k ≡ Some c → k < length clauses
within_length [] k c e = absurd (none-some c e)
within_length (x ∷ clauses) zero c e = omega arith
within_length (x ∷ clauses) (suc k) c e = let h : k < length clauses = within_length clauses k c e in omega arith

pivot_with : (n v : ℕ) (c e : List Lit) (o : Option (List Lit)) → Within n c → option_and_then (resolvent v c) o ≡ Some e → v < n
pivot_with n v c e None f h = absurd (none-some e h)
pivot_with n v c e (Some d) f h = pivot_of n v c d e f h

pivots_of : (n : ℕ) (clauses : List (List Lit)) (o : Option (List Lit)) (steps : List Resolve) (e : List Lit) → AllByRecursion (IsInRange n) clauses → Within n (lits_of o) → fold (next clauses) o steps ≡ Some e → AllByRecursion (λ s. s.pivot < n) steps
pivots_of n clauses o [] e a f h = tt
pivots_of n clauses None (s ∷ steps) e a f h = absurd (fold_none clauses steps e h)
pivots_of n clauses (Some c) (s ∷ steps) e a f h = go (next clauses (Some c) s) refl h (λ d same i. pivots_of n clauses (Some d) steps e a (subst (λ o. Within n (lits_of o)) same (λ l j. within_both n c (lits_of (slice_get clauses s.with)) f (within_named n clauses a s.with) l (part_resolved s.pivot c (slice_get clauses s.with) l j))) i) where
  go : (p : Option (List Lit)) → next clauses (Some c) s ≡ p → fold (next clauses) p steps ≡ Some e → ((d : List Lit) → next clauses (Some c) s ≡ Some d → fold (next clauses) (Some d) steps ≡ Some e → AllByRecursion (λ x. x.pivot < n) steps) → AllByRecursion (λ x. x.pivot < n) (s ∷ steps)
  go None same i k = absurd (fold_none clauses steps e i)
  go (Some d) same i k = (pivot_with n s.pivot c d (slice_get clauses s.with) f same, k d same i)

chain_pivots : (n : ℕ) (clauses : List (List Lit)) (ch : Chain) → AreInRange n clauses → Derives clauses ch → All (λ s. s.pivot < n) ch.steps
chain_pivots n clauses ch a d = All-from_recursion (λ s. s.pivot < n) ch.steps (go (chain_end clauses ch) refl d) where
  ranged : AllByRecursion (IsInRange n) clauses
  ranged = recursion_from_All (IsInRange n) clauses a

  go : (o : Option (List Lit)) → chain_end clauses ch ≡ o → IsSomeAnd o (λ c. IsSameSet c ch.result) → AllByRecursion (λ s. s.pivot < n) ch.steps
  go None same h = absurd h
  go (Some e) same h = pivots_of n clauses (slice_get clauses ch.first) ch.steps e ranged (within_named n clauses ranged ch.first) same

pub pivots_range : (n : ℕ) (clauses : List (List Lit)) (chains : List Chain) → AreInRange n clauses → IsDerivation clauses chains → ArePivotsInRange n chains
pivots_range n clauses [] a d = All-nil (λ ch. All (λ s. s.pivot < n) ch.steps)
pivots_range n clauses (ch ∷ chains) a d =
    All-cons (λ x. All (λ s. s.pivot < n) x.steps) ch chains (chain_pivots n clauses ch a d.0)
    (pivots_range n (clauses ++ ch.result ∷ []) chains (All-push (IsInRange n) clauses ch.result a (result_range n clauses ch a d.0)) d.1)

-- a chain that derives its result uses earlier numbers alone

number_with : (clauses : List (List Lit)) (v k : ℕ) (c e : List Lit) (o : Option (List Lit)) → slice_get clauses k ≡ o → option_and_then (resolvent v c) o ≡ Some e → k < length clauses
number_with clauses v k c e None same h = absurd (none-some e h)
number_with clauses v k c e (Some d) same h = within_length clauses k d same

numbers_of : (clauses : List (List Lit)) (o : Option (List Lit)) (steps : List Resolve) (e : List Lit) → fold (next clauses) o steps ≡ Some e → AllByRecursion (λ s. s.with < length clauses) steps
numbers_of clauses o [] e h = tt
numbers_of clauses None (s ∷ steps) e h = absurd (fold_none clauses steps e h)
numbers_of clauses (Some c) (s ∷ steps) e h = go (next clauses (Some c) s) refl h (λ d i. numbers_of clauses (Some d) steps e i) where
  go : (p : Option (List Lit)) → next clauses (Some c) s ≡ p → fold (next clauses) p steps ≡ Some e → ((d : List Lit) → fold (next clauses) (Some d) steps ≡ Some e → AllByRecursion (λ x. x.with < length clauses) steps) → AllByRecursion (λ x. x.with < length clauses) (s ∷ steps)
  go None same i k = absurd (fold_none clauses steps e i)
  go (Some d) same i k = (number_with clauses s.pivot s.with c d (slice_get clauses s.with) refl same, k d i)

-- what is known of the numbers of such a chain
pub record Used (count : ℕ) (ch : Chain) : Type 0 where
  pub first : ch.first < count
  pub steps : AllByRecursion (λ s. s.with < count) ch.steps

used_from : (clauses : List (List Lit)) (ch : Chain) (o : Option (List Lit)) (e : List Lit) → slice_get clauses ch.first ≡ o → fold (next clauses) o ch.steps ≡ Some e → Used (length clauses) ch
used_from clauses ch None e same h = absurd (fold_none clauses ch.steps e h)
used_from clauses ch (Some c) e same h = record { first = within_length clauses ch.first c same; steps = numbers_of clauses (Some c) ch.steps e h }

pub used : (clauses : List (List Lit)) (ch : Chain) → Derives clauses ch → Used (length clauses) ch
used clauses ch d = go (chain_end clauses ch) refl d where
  go : (o : Option (List Lit)) → chain_end clauses ch ≡ o → IsSomeAnd o (λ c. IsSameSet c ch.result) → Used (length clauses) ch
  go None same h = absurd h
  go (Some e) same h = used_from clauses ch (slice_get clauses ch.first) e refl same

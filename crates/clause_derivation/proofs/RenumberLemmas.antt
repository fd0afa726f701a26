-- A log whose numbers have moved up for a clause that came in is a derivation still.
use Rattle.std.proofs.Common.{◌≡◌, ℕ, ◌+◌, ◌-◌, ◌<◌, ◌≤◌, ◌^◌, ◌++◌, suc, List, [], ◌∷◌, length, get_or, set, take, drop, map, refl, sym, ◌∙◌, ap, subst, inl, inr, arith, Some, None, Option}
use Rattle.std.specs.Prelude.{slice_get, fold, IsSomeAnd, min}
use Rattle.std.specs.Option.{option_and_then}
use Rattle.std.proofs.lemmas.Bool.{cases_lt, lt-ltb, le-ltb}
use Rattle.std.proofs.lemmas.List.{get_or_default, length-append, length-map, append_assoc, append-nil, take-append-drop}
use Rattle.std.proofs.lemmas.List.Edits.{map_over_more}
use Rattle.std.proofs.lemmas.List.Folds.{fold_stays}
use Rattle.std.proofs.lemmas.Option.{slice_get_within, none-some}
use Rattle.clause_core.specs.declared.literal.Lit.{Lit}
use Rattle.clause_derivation.specs.declared.chain.Chain.{Chain}
use Rattle.clause_derivation.specs.declared.chain.Resolve.{Resolve}
use Rattle.clause_derivation.specs.Resolution.{resolvent, IsSameSet}
use Rattle.clause_derivation.specs.Derivation.{next, chain_end, Derives, IsDerivation, results}
use Rattle.clause_derivation.specs.Renumbering.{moved, moved_step, moved_chain}
use Rattle.clause_derivation.proofs.NumberLemmas.{slice_get-append_left, slice_get-append_right}

-- a list that is changed in place keeps its length
inside : {X : Type 0} (f : X → X) (xs ys : List X) (i : ℕ) → i < length xs → ys ≡ map f (take i xs) ++ drop i xs → i < length ys
inside f xs ys i h e =
    let whole : length ys ≡ length xs = ap length e ∙ length-append (map f (take i xs)) (drop i xs) ∙ ap (λ n. n + length (drop i xs)) (length-map (take i xs) f) ∙ sym (length-append (take i xs) (drop i xs)) ∙ ap length (take-append-drop i xs) in
    omega arith

-- one more place is changed
pub place_more : {X : Type 0} (f : X → X) (xs ys : List X) (i : ℕ) (d z : X) → i < length xs → ys ≡ map f (take i xs) ++ drop i xs → z ≡ f (get_or ys i d) → set ys i z ≡ map f (take (i + 1) xs) ++ drop (i + 1) xs
place_more f xs ys i d z h e m =
    ap (λ v. set ys i v) m ∙ map_over_more f xs ys i (get_or ys i d) h e (get_or_default ys i d (get_or ys i d) (inside f xs ys i h e))

-- one more step whose number has moved
pub steps_more : (at : ℕ) (xs ys : List Resolve) (i : ℕ) (d : Resolve) (n : ℕ) → i < length xs → ys ≡ map (moved_step at) (take i xs) ++ drop i xs → n ≡ moved at (get_or ys i d).with → set ys i (record { with = n; pivot = (get_or ys i d).pivot }) ≡ map (moved_step at) (take (i + 1) xs) ++ drop (i + 1) xs
steps_more at xs ys i d n h e m =
    place_more (moved_step at) xs ys i d (record { with = n; pivot = (get_or ys i d).pivot }) h e (ap (λ k. record { with = k; pivot = (get_or ys i d).pivot }) m)

pub results_moved : (at : ℕ) (chains : List Chain) → results (map (moved_chain at) chains) ≡ results chains
results_moved at [] = refl
results_moved at (ch ∷ chains) = ap (λ rs. ch.result ∷ rs) (results_moved at chains)

-- a number past the front
past : (front back : List (List Lit)) (k x : List Lit) (n : ℕ) → length (front ++ back) < 2 ^ 32 → slice_get (front ++ back) n ≡ Some x → length front ≤ n → slice_get (front ++ k ∷ back) (moved (length front) n) ≡ Some x
past front back k x n few e h =
    let within : n < length (front ++ back) = slice_get_within (front ++ back) n x e in
    let up : min (n + 1) 4294967295 ≡ length front + suc (n - length front) = omega arith in
    let here : n ≡ length front + (n - length front) = omega arith in
    rw (le-ltb n (length front) h, up)
    (slice_get-append_right front (k ∷ back) (suc (n - length front))
    ∙ sym (slice_get-append_right front back (n - length front))
    ∙ ap (λ m. slice_get (front ++ back) m) (sym here) ∙ e)

-- the clause that a number names keeps its name
named_moved : (front back : List (List Lit)) (k x : List Lit) (n : ℕ) → length (front ++ back) < 2 ^ 32 → slice_get (front ++ back) n ≡ Some x → slice_get (front ++ k ∷ back) (moved (length front) n) ≡ Some x
named_moved front back k x n few e = elim (cases_lt n (length front)) [
  | inl h ↦ rw (lt-ltb n (length front) h) (slice_get-append_left front (k ∷ back) n h ∙ sym (slice_get-append_left front back n h) ∙ e)
  | inr h ↦ past front back k x n few e h
]

with_moved : (front back : List (List Lit)) (k c : List Lit) (s : Resolve) (e : List Lit) → length (front ++ back) < 2 ^ 32 → (o : Option (List Lit)) → slice_get (front ++ back) s.with ≡ o → option_and_then (resolvent s.pivot c) o ≡ Some e → option_and_then (resolvent s.pivot c) (slice_get (front ++ k ∷ back) (moved (length front) s.with)) ≡ Some e
with_moved front back k c s e few None same h = absurd (none-some e h)
with_moved front back k c s e few (Some d) same h = ap (λ o. option_and_then (resolvent s.pivot c) o) (named_moved front back k d s.with few same) ∙ h

step_moved : (front back : List (List Lit)) (k : List Lit) (o : Option (List Lit)) (s : Resolve) (e : List Lit) → length (front ++ back) < 2 ^ 32 → next (front ++ back) o s ≡ Some e → next (front ++ k ∷ back) o (moved_step (length front) s) ≡ Some e
step_moved front back k None s e few h = h
step_moved front back k (Some c) s e few h = with_moved front back k c s e few (slice_get (front ++ back) s.with) refl h

pub fold_none : (clauses : List (List Lit)) (steps : List Resolve) (e : List Lit) → fold (next clauses) None steps ≡ Some e → ⊥
fold_none clauses steps e h = none-some e (sym (fold_stays (next clauses) None (λ s. refl) steps) ∙ h)

-- what is left after the steps is left still
steps_moved : (front back : List (List Lit)) (k : List Lit) (o : Option (List Lit)) (steps : List Resolve) (e : List Lit) → length (front ++ back) < 2 ^ 32 → fold (next (front ++ back)) o steps ≡ Some e → fold (next (front ++ k ∷ back)) o (map (moved_step (length front)) steps) ≡ Some e
steps_moved front back k o [] e few h = h
steps_moved front back k o (s ∷ steps) e few h = go (next (front ++ back) o s) refl h (λ c i. steps_moved front back k (Some c) steps e few i) where
  go : (p : Option (List Lit)) → next (front ++ back) o s ≡ p → fold (next (front ++ back)) p steps ≡ Some e → ((c : List Lit) → fold (next (front ++ back)) (Some c) steps ≡ Some e → fold (next (front ++ k ∷ back)) (Some c) (map (moved_step (length front)) steps) ≡ Some e) → fold (next (front ++ k ∷ back)) (next (front ++ k ∷ back) o (moved_step (length front) s)) (map (moved_step (length front)) steps) ≡ Some e
  go None same i f = absurd (fold_none (front ++ back) steps e i)
  go (Some c) same i f = ap (λ p. fold (next (front ++ k ∷ back)) p (map (moved_step (length front)) steps)) (step_moved front back k o s c few same) ∙ f c i

first_moved : (front back : List (List Lit)) (k : List Lit) (ch : Chain) (e : List Lit) → length (front ++ back) < 2 ^ 32 → (o : Option (List Lit)) → slice_get (front ++ back) ch.first ≡ o → fold (next (front ++ back)) o ch.steps ≡ Some e → chain_end (front ++ k ∷ back) (moved_chain (length front) ch) ≡ Some e
first_moved front back k ch e few None same h = absurd (fold_none (front ++ back) ch.steps e h)
first_moved front back k ch e few (Some c) same h = ap (λ o. fold (next (front ++ k ∷ back)) o (map (moved_step (length front)) ch.steps)) (named_moved front back k c ch.first few same) ∙ steps_moved front back k (Some c) ch.steps e few h

chain_moved : (front back : List (List Lit)) (k : List Lit) (ch : Chain) (e : List Lit) → length (front ++ back) < 2 ^ 32 → chain_end (front ++ back) ch ≡ Some e → chain_end (front ++ k ∷ back) (moved_chain (length front) ch) ≡ Some e
chain_moved front back k ch e few h = first_moved front back k ch e few (slice_get (front ++ back) ch.first) refl h

derives_at : (front back : List (List Lit)) (k : List Lit) (ch : Chain) → length (front ++ back) < 2 ^ 32 → (o : Option (List Lit)) → chain_end (front ++ back) ch ≡ o → IsSomeAnd o (λ c. IsSameSet c ch.result) → Derives (front ++ k ∷ back) (moved_chain (length front) ch)
derives_at front back k ch few None e h = absurd h
derives_at front back k ch few (Some c) e h = subst (λ o. IsSomeAnd o (λ c. IsSameSet c ch.result)) (sym (chain_moved front back k ch c few e)) h

-- the chains derive still, whatever was derived before
derivation_moved : (front back : List (List Lit)) (k : List Lit) (chains : List Chain) → length (front ++ back) + length chains < 2 ^ 32 → IsDerivation (front ++ back) chains → IsDerivation (front ++ k ∷ back) (map (moved_chain (length front)) chains)
derivation_moved front back k [] few d = tt
derivation_moved front back k (ch ∷ chains) few d =
    let more : length (front ++ (back ++ ch.result ∷ [])) + length chains < 2 ^ 32 = omega (arith, length-append front (back ++ ch.result ∷ []), length-append back (ch.result ∷ []), length-append front back) in (
      derives_at front back k ch (omega arith) (chain_end (front ++ back) ch) refl d.0,
      subst (λ cs. IsDerivation cs (map (moved_chain (length front)) chains)) (sym (append_assoc front (k ∷ back) (ch.result ∷ [])))
          (derivation_moved front (back ++ ch.result ∷ []) k chains more (subst (λ cs. IsDerivation cs chains) (append_assoc front back (ch.result ∷ [])) d.1)),
    )

-- a derivation from clauses is one from these and another
pub stays : (clauses : List (List Lit)) (k : List Lit) (at : ℕ) (chains : List Chain) → length clauses ≡ at → length clauses + length chains < 2 ^ 32 → IsDerivation clauses chains → IsDerivation (clauses ++ k ∷ []) (map (moved_chain at) chains)
stays clauses k at chains e few d =
    subst (λ n. IsDerivation (clauses ++ k ∷ []) (map (moved_chain n) chains)) e
    (derivation_moved clauses [] k chains (rw (append-nil clauses) few) (subst (λ cs. IsDerivation cs chains) (sym (append-nil clauses)) d))

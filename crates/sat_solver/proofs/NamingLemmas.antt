-- The clauses that chains name, and the chain of one conflict.
use Rattle.std.proofs.Common.{◌≡◌, ℕ, ◌+◌, ◌/◌, ◌<◌, ◌++◌, suc, List, [], ◌∷◌, Bool, length, get_or, sym, ◌∙◌, ap, subst, inl, inr, arith, Option, Some, None}
use Rattle.std.specs.Prelude.{slice_get, option_map, All, IsSomeAnd, fold}
use Rattle.std.specs.Option.{option_and_then}
use Rattle.std.proofs.lemmas.Bool.{cases_lt}
use Rattle.std.proofs.lemmas.List.Elements.{All-weaker}
use Rattle.std.proofs.lemmas.List.Sums.{fold-append}
use Rattle.std.proofs.lemmas.Option.{slice_get-map, slice_get_past, slice_get-get_or}
use Rattle.clause_core.specs.declared.literal.Lit.{Lit}
use Rattle.clause_core.specs.Literal.{variable_of}
use Rattle.clause_core.specs.Formula.{IsInRange}
use Rattle.clause_derivation.specs.declared.chain.Chain.{Chain}
use Rattle.clause_derivation.specs.declared.chain.Resolve.{Resolve}
use Rattle.clause_derivation.specs.Resolution.{resolvent, IsSameSet}
use Rattle.clause_derivation.specs.Derivation.{next, chain_end, Derives, results}
use Rattle.clause_derivation.specs.Marking.{AreMarks, HavePlaces}
use Rattle.sat_solver.specs.Resolving.{IsStep, Reaches}
use Rattle.sat_solver.specs.Naming.{numbered, IsUsable}

-- a place past the first list
pub slice_get-append_right : {A : Type 0} (xs ys : List A) (n : ℕ) → slice_get (xs ++ ys) (length xs + n) ≡ slice_get ys n
slice_get-append_right [] ys n = ap (slice_get ys) (omega arith)
slice_get-append_right (x ∷ xs) ys n =
    let e : length (x ∷ xs) + n ≡ suc (length xs + n) = omega arith in
    ap (λ k. slice_get (x ∷ (xs ++ ys)) k) e ∙ slice_get-append_right xs ys n

-- the clause that a chain derives, by its number
pub learned_named : (cs : List (List Lit)) (chains : List Chain) (at : ℕ) (d ch : Chain) (lits : List Lit) → at < length chains → ch ≡ get_or chains at d → lits ≡ (get_or chains at d).result → slice_get (numbered cs chains) (length cs + at) ≡ Some lits
learned_named cs chains at d ch lits h is same =
    slice_get-append_right cs (results chains) at
    ∙ slice_get-map (λ (c : Chain). c.result) chains at
    ∙ ap (option_map (λ (c : Chain). c.result)) (slice_get-get_or chains at d h)
    ∙ ap Some (sym same)

pub some_same : {A : Type 0} (a b : A) → Some a ≡ Some b → a ≡ b
some_same a b p = cc

-- what holds of each of a list holds of the one at a place
pub all_at : {A : Type 0} (P : A → Type 0) (xs : List A) (k : ℕ) (x : A) → All P xs → slice_get xs k ≡ Some x → P x
all_at P xs k x a e = elim (cases_lt k (length xs)) [
  | inl h ↦ subst P (some_same (get_or xs k x) x (sym (slice_get-get_or xs k x h) ∙ e)) (a k x h)
  | inr h ↦ let f : slice_get xs k ≡ None = slice_get_past xs k h in cc
]

-- a usable clause has variables in range
pub usable_range : (v : ℕ) (cs : List (List Lit)) (chains : List Chain) (k : ℕ) (c : List Lit) → IsUsable v cs chains → slice_get (numbered cs chains) k ≡ Some c → IsInRange v c
usable_range v cs chains k c u e = all_at (IsInRange v) (numbered cs chains) k c u.range e

-- and a place for each literal
pub usable_places : (n : ℕ) (cs : List (List Lit)) (chains : List Chain) (k : ℕ) (c : List Lit) → IsUsable (n / 2) cs chains → slice_get (numbered cs chains) k ≡ Some c → HavePlaces n c
usable_places n cs chains k c u e = All-weaker (λ l. variable_of l < n / 2) (λ l. l.code < n) (λ l b. omega arith) c (usable_range (n / 2) cs chains k c u e)

-- one more step
pub reaches_more : (cs : List (List Lit)) (first : ℕ) (steps : List Resolve) (m n : List Bool) (s : Resolve) (d : List Lit) → slice_get cs s.with ≡ Some d → IsStep m n s.pivot d → Reaches cs first steps m → Reaches cs first (steps ++ s ∷ []) n
reaches_more cs first steps m n s d e step r =
    subst (λ o. IsSomeAnd o (AreMarks n)) (sym (fold-append (next cs) (slice_get cs first) steps (s ∷ []))) (one (fold (next cs) (slice_get cs first) steps) r) where
      one : (o : Option (List Lit)) → IsSomeAnd o (AreMarks m) → IsSomeAnd (next cs o s) (AreMarks n)
      one (Some c) given = subst (λ q. IsSomeAnd (option_and_then (resolvent s.pivot c) q) (AreMarks n)) (sym e) (step c given)
      one None given = absurd given

-- no steps
pub reaches_first : (cs : List (List Lit)) (first : ℕ) (c : List Lit) (m : List Bool) → slice_get cs first ≡ Some c → AreMarks m c → Reaches cs first [] m
reaches_first cs first c m e given = subst (λ o. IsSomeAnd o (AreMarks m)) (sym e) given

-- the marked clause is what the chain derives
pub reaches_derives : (cs : List (List Lit)) (ch : Chain) (m : List Bool) → Reaches cs ch.first ch.steps m → AreMarks m ch.result → Derives cs ch
reaches_derives cs ch m r given = same (chain_end cs ch) r where
  same : (o : Option (List Lit)) → IsSomeAnd o (AreMarks m) → IsSomeAnd o (λ c. IsSameSet c ch.result)
  same (Some c) h = λ l. sym (h l) ∙ given l
  same None h = h

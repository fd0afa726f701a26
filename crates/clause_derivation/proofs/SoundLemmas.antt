-- What a derivation derives is true wherever the clauses that it stands on are.
use Rattle.std.proofs.Common.{◌≡◌, ℕ, ◌+◌, ◌*◌, ◌/◌, ◌%◌, ◌-◌, arith, ◌&&◌, ◌||◌, ◌++◌, zero, suc, Bool, true, false, List, [], ◌∷◌, length, cond, eqb, refl, sym, ◌∙◌, ap, subst, inl, inr, Some, None, Option}
use Rattle.std.specs.Prelude.{not, IsSomeAnd, slice_get, fold}
use Rattle.std.specs.List.{list_all}
use Rattle.std.specs.Option.{option_and_then}
use Rattle.std.proofs.lemmas.Bool.{or_cases, or_left, or_right, cases_Bool, eqb-true, eq-eqb, both_ways, and_from}
use Rattle.std.proofs.lemmas.List.Folds.{list_any-append, list_all-append, list_all-map}
use Rattle.std.proofs.lemmas.Option.{slice_get-map}
use Rattle.clause_core.specs.declared.literal.Lit.{Lit}
use Rattle.clause_core.specs.Literal.{positive, negative}
use Rattle.clause_core.specs.Truth.{value_of, literal_true, clause_true, all_true}
use Rattle.clause_derivation.specs.declared.chain.Chain.{Chain}
use Rattle.clause_derivation.specs.declared.chain.Resolve.{Resolve}
use Rattle.clause_derivation.specs.Resolution.{without, clash, others, chosen, resolvent, IsSameSet}
use Rattle.clause_core.specs.Members.{has}
use Rattle.clause_derivation.specs.Derivation.{next, chain_end, Derives, IsDerivation, results, singles, EndsEmpty, HoldsUnder}
use Rattle.clause_derivation.proofs.MarkLemmas.{and_split}

-- a literal is as true as any of the same code
same_truth : (a : List Bool) (k l : Lit) → eqb k.code l.code ≡ true → literal_true a k ≡ literal_true a l
same_truth a k l e = ap (λ n. literal_true a (record { code = n })) (eqb-true k.code l.code e)

positive_truth : (a : List Bool) (v : ℕ) → literal_true a (positive v) ≡ value_of a v
positive_truth a v =
    let even : 2 * v % 2 ≡ 0 = omega arith in
    let half : 2 * v / 2 ≡ v = omega arith in
    rw (even, half) refl

negative_truth : (a : List Bool) (v : ℕ) → literal_true a (negative v) ≡ not (value_of a v)
negative_truth a v =
    let odd : (2 * v + 1) % 2 ≡ 1 = omega arith in
    let half : (2 * v + 1) / 2 ≡ v = omega arith in
    rw (odd, half) refl

-- a true literal makes each clause true that has it
true_by : (a : List Bool) (c : List Lit) (l : Lit) → has c l ≡ true → literal_true a l ≡ true → clause_true a c ≡ true
true_by a [] l h t = cc
true_by a (x ∷ c) l h t = elim (or_cases (eqb x.code l.code) (has c l) h) [
  | inl e ↦ or_left (literal_true a x) (clause_true a c) (same_truth a x l e ∙ t)
  | inr i ↦ or_right (literal_true a x) (clause_true a c) (true_by a c l i t)
]

-- two clauses that are one set are true together
true_set : (a : List Bool) (c d : List Lit) → ((l : Lit) → has c l ≡ true → has d l ≡ true) → clause_true a c ≡ true → clause_true a d ≡ true
true_set a [] d f t = cc
true_set a (x ∷ c) d f t = elim (or_cases (literal_true a x) (clause_true a c) t) [
  | inl u ↦ true_by a d x (f x (or_left (eqb x.code x.code) (has c x) (eq-eqb x.code x.code refl))) u
  | inr v ↦ true_set a c d (λ l h. f l (or_right (eqb x.code l.code) (has c l) h)) v
]

not_not : (b : Bool) → not (not b) ≡ b
not_not true = refl
not_not false = refl

any_kept : (a : List Bool) (x : Lit) (c : List Lit) (b : Bool) → clause_true a c ≡ true → clause_true a (cond (not b) (x ∷ c) c) ≡ true
any_kept a x c true t = t
any_kept a x c false t = or_right (literal_true a x) (clause_true a c) t

first_kept : (a : List Bool) (x : Lit) (c : List Lit) (b : Bool) → (b ≡ true → ⊥) → literal_true a x ≡ true → clause_true a (cond (not b) (x ∷ c) c) ≡ true
first_kept a x c true f t = absurd (f refl)
first_kept a x c false f t = or_left (literal_true a x) (clause_true a c) t

-- a clause stays true without a false literal
true_without : (a : List Bool) (c : List Lit) (l : Lit) → literal_true a l ≡ false → clause_true a c ≡ true → clause_true a (without c l) ≡ true
true_without a [] l n t = cc
true_without a (x ∷ c) l n t = elim (or_cases (literal_true a x) (clause_true a c) t) [
  | inl u ↦ first_kept a x (without c l) (eqb x.code l.code) (λ e. both_ways (literal_true a x) (same_truth a x l e ∙ n) u) u
  | inr v ↦ any_kept a x (without c l) (eqb x.code l.code) (true_without a c l n v)
]

-- what resolution leaves is true where one of two opposite literals is
true_others : (a : List Bool) (c : List Lit) (l : Lit) (d : List Lit) (m : Lit) → literal_true a m ≡ not (literal_true a l) → clause_true a c ≡ true → clause_true a d ≡ true → clause_true a (others c l d m) ≡ true
true_others a c l d m e t u = list_any-append (literal_true a) (without c l) (without d m) ∙ elim (cases_Bool (literal_true a l)) [
  | inl i ↦ or_right (clause_true a (without c l)) (clause_true a (without d m)) (true_without a d m (e ∙ ap (λ b. not b) i) u)
  | inr n ↦ or_left (clause_true a (without c l)) (clause_true a (without d m)) (true_without a c l n t)
]

-- what may be a clause is one that is true
abbrev IsTrueIf : List Bool → Option (List Lit) → Type 0
IsTrueIf a None = Unit {0}
IsTrueIf a (Some c) = clause_true a c ≡ true

true_chosen : (a : List Bool) (f b : Bool) (x y : List Lit) → clause_true a x ≡ true → clause_true a y ≡ true → IsTrueIf a (chosen f b x y)
true_chosen a true true x y p q = tt
true_chosen a true false x y p q = p
true_chosen a false true x y p q = q
true_chosen a false false x y p q = tt

true_resolvent : (a : List Bool) (v : ℕ) (c d : List Lit) → clause_true a c ≡ true → clause_true a d ≡ true → IsTrueIf a (resolvent v c d)
true_resolvent a v c d t u = true_chosen a (clash c (positive v) d (negative v)) (clash c (negative v) d (positive v))
    (others c (positive v) d (negative v)) (others c (negative v) d (positive v))
    (true_others a c (positive v) d (negative v) (negative_truth a v ∙ ap (λ b. not b) (sym (positive_truth a v))) t u)
    (true_others a c (negative v) d (positive v) (positive_truth a v ∙ sym (not_not (value_of a v)) ∙ ap (λ b. not b) (sym (negative_truth a v))) t u)

-- the clause of each number is true
true_named : (a : List Bool) (clauses : List (List Lit)) (n : ℕ) → all_true a clauses ≡ true → IsTrueIf a (slice_get clauses n)
true_named a [] n t = tt
true_named a (c ∷ clauses) zero t = (and_split (clause_true a c) (all_true a clauses) t).0
true_named a (c ∷ clauses) (suc n) t = true_named a clauses n (and_split (clause_true a c) (all_true a clauses) t).1

true_with : (a : List Bool) (v : ℕ) (c : List Lit) (o : Option (List Lit)) → clause_true a c ≡ true → IsTrueIf a o → IsTrueIf a (option_and_then (resolvent v c) o)
true_with a v c None t u = tt
true_with a v c (Some d) t u = true_resolvent a v c d t u

true_next : (a : List Bool) (clauses : List (List Lit)) (o : Option (List Lit)) (s : Resolve) → all_true a clauses ≡ true → IsTrueIf a o → IsTrueIf a (next clauses o s)
true_next a clauses None s t u = tt
true_next a clauses (Some c) s t u = true_with a s.pivot c (slice_get clauses s.with) u (true_named a clauses s.with t)

true_steps : (a : List Bool) (clauses : List (List Lit)) (o : Option (List Lit)) (steps : List Resolve) → all_true a clauses ≡ true → IsTrueIf a o → IsTrueIf a (fold (next clauses) o steps)
true_steps a clauses o [] t u = u
true_steps a clauses o (s ∷ steps) t u = true_steps a clauses (next clauses o s) steps t (true_next a clauses o s t u)

true_derived : (a : List Bool) (o : Option (List Lit)) (c : List Lit) → IsTrueIf a o → IsSomeAnd o (λ d. IsSameSet d c) → clause_true a c ≡ true
true_derived a None c t h = absurd h
true_derived a (Some d) c t h = true_set a d c (λ l i. sym (h l) ∙ i) t

-- a chain's result is true where what it names is
true_result : (a : List Bool) (clauses : List (List Lit)) (ch : Chain) → all_true a clauses ≡ true → Derives clauses ch → clause_true a ch.result ≡ true
true_result a clauses ch t d = true_derived a (chain_end clauses ch) ch.result (true_steps a clauses (slice_get clauses ch.first) ch.steps t (true_named a clauses ch.first t)) d

-- The law: an assignment that satisfies the clauses satisfies each result of a derivation from
-- them.
pub derivations_hold : (a : List Bool) (clauses : List (List Lit)) (chains : List Chain) → all_true a clauses ≡ true → IsDerivation clauses chains → all_true a (results chains) ≡ true
derivations_hold a clauses [] t d = refl
derivations_hold a clauses (ch ∷ chains) t d =
    let one : clause_true a ch.result ≡ true = true_result a clauses ch t d.0 in
    and_from (clause_true a ch.result) (all_true a (results chains)) one
    (derivations_hold a (clauses ++ ch.result ∷ []) chains (list_all-append (clause_true a) clauses (ch.result ∷ []) ∙ and_from (all_true a clauses) (clause_true a ch.result && true) t (and_from (clause_true a ch.result) true one refl)) d.1)

-- the last clause of a list
last_true : (a : List Bool) (clauses : List (List Lit)) (n : ℕ) (c : List Lit) → all_true a clauses ≡ true → slice_get clauses n ≡ Some c → clause_true a c ≡ true
last_true a clauses n c t e = subst (IsTrueIf a) e (true_named a clauses n t)

-- The law for a log whose last chain is the empty clause: no assignment satisfies the clauses.
pub refutations_hold : (clauses : List (List Lit)) (chains : List Chain) → IsDerivation clauses chains → EndsEmpty chains → (a : List Bool) → all_true a clauses ≡ true → ⊥
refutations_hold clauses chains d e a t = both_ways false refl (last_true a (results chains) (length chains - 1) [] (derivations_hold a clauses chains t d) (slice_get-map (λ c. c.result) chains (length chains - 1) ∙ e))

or_false : (b : Bool) → (b || false) ≡ b
or_false true = refl
or_false false = refl

all_same : (f g : Lit → Bool) → ((l : Lit) → f l ≡ g l) → (c : List Lit) → list_all f c ≡ list_all g c
all_same f g e [] = refl
all_same f g e (x ∷ c) = ap (λ b. b && list_all f c) (e x) ∙ ap (λ b. g x && b) (all_same f g e c)

-- the clauses of a formula, more and one single clause for each unit are true where these are
pub under_true : (a : List Bool) (cnf more : List (List Lit)) (units : List Lit) → HoldsUnder a cnf more units → all_true a (cnf ++ more ++ singles units) ≡ true
under_true a cnf more units h =
    list_all-append (clause_true a) (cnf ++ more) (singles units)
    ∙ and_from (all_true a (cnf ++ more)) (all_true a (singles units))
    (list_all-append (clause_true a) cnf more ∙ and_from (all_true a cnf) (all_true a more) h.formula_true h.more_true)
    (list_all-map (clause_true a) (λ l. l ∷ []) units ∙ all_same (λ l. literal_true a l || false) (literal_true a) (λ l. or_false (literal_true a l)) units ∙ h.units_true)

-- what a derivation from clauses that are these, in a log that is this one, makes true
pub sound_as : (base clauses : List (List Lit)) (items chains : List Chain) → base ≡ clauses → items ≡ chains → IsDerivation base items → (a : List Bool) → all_true a clauses ≡ true → all_true a (results chains) ≡ true
sound_as base clauses items chains e f d a t =
    derivations_hold a clauses chains t (subst (λ cs. IsDerivation cs chains) e (subst (IsDerivation base) f d))

-- and what it refutes
pub refuted_as : (base clauses : List (List Lit)) (items chains : List Chain) → base ≡ clauses → items ≡ chains → IsDerivation base items → EndsEmpty chains → (a : List Bool) → all_true a clauses ≡ true → ⊥
refuted_as base clauses items chains e f d =
    refutations_hold clauses chains (subst (λ cs. IsDerivation cs chains) e (subst (IsDerivation base) f d))

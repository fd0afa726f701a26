-- Which literals and clauses are true, and which variables bear on them.
use Rattle.std.proofs.Common.{◌≡◌, ℕ, ◌+◌, ◌-◌, ◌*◌, ◌/◌, ◌%◌, ◌<◌, ◌&&◌, ◌||◌, Bool, true, false, not, zero, suc, List, [], ◌∷◌, ◌++◌, length, get_or, cond, eqb, refl, sym, ◌∙◌, ap, inl, inr, arith}
use Rattle.std.specs.Prelude.{All}
use Rattle.std.specs.List.{list_any, list_all}
use Rattle.std.proofs.lemmas.Bool.{cases_lt, cases_eq, eq-eqb, ne_eqb}
use Rattle.std.proofs.lemmas.List.{length-append, get_or_append_left}
use Rattle.std.proofs.Math.Seq.{get_or-append_seam}
use Rattle.clause_core.specs.declared.literal.Lit.{Lit}
use Rattle.clause_core.specs.Literal.{variable_of, is_negated, positive, negative, opposite}
use Rattle.clause_core.specs.Truth.{value_of, literal_true, clause_true, all_true}
use Rattle.clause_core.specs.Formula.{IsInRange, AreInRange}
use Rattle.circuit_core.specs.Value.{SameBelow}
use Rattle.cnf_emit.specs.Drafts.{and_clauses}

pub positive_true : (a : List Bool) (v : ℕ) → literal_true a (positive v) ≡ value_of a v
positive_true a v =
    let even : 2 * v % 2 ≡ 0 = omega arith in
    let half : 2 * v / 2 ≡ v = omega arith in
    ap (λ k. cond (eqb k 1) (not (get_or a (2 * v / 2) false)) (get_or a (2 * v / 2) false)) even ∙ ap (λ k. get_or a k false) half

pub negative_true : (a : List Bool) (v : ℕ) → literal_true a (negative v) ≡ not (value_of a v)
negative_true a v =
    let odd : (2 * v + 1) % 2 ≡ 1 = omega arith in
    let half : (2 * v + 1) / 2 ≡ v = omega arith in
    ap (λ k. cond (eqb k 1) (not (get_or a ((2 * v + 1) / 2) false)) (get_or a ((2 * v + 1) / 2) false)) odd ∙ ap (λ k. not (get_or a k false)) half

literal_at : (a : List Bool) (l : Lit) (b : Bool) (v : ℕ) → is_negated l ≡ b → variable_of l ≡ v → literal_true a l ≡ cond b (not (value_of a v)) (value_of a v)
literal_at a l b v sign variable =
    ap (λ k. cond k (not (value_of a (variable_of l))) (value_of a (variable_of l))) sign
    ∙ ap (λ n. cond b (not (value_of a n)) (value_of a n)) variable

not_not : (b : Bool) → b ≡ not (not b)
not_not true = refl
not_not false = refl

pub opposite_true : (a : List Bool) (l : Lit) → literal_true a (opposite l) ≡ not (literal_true a l)
opposite_true a l = elim (cases_eq (l.code % 2) 1) [
  | inl e ↦
      let sign : is_negated l ≡ true = eq-eqb (l.code % 2) 1 e in
      let code : (opposite l).code ≡ l.code - 1 = ap (λ b. cond b (l.code - 1) (l.code + 1)) sign in
      let even : (l.code - 1) % 2 ≡ 0 = omega arith in
      literal_at a (opposite l) false (variable_of l) (ap (λ k. eqb (k % 2) 1) code ∙ ap (λ k. eqb k 1) even) (ap (λ k. k / 2) code ∙ omega arith)
      ∙ not_not (value_of a (variable_of l)) ∙ ap not (sym (literal_at a l true (variable_of l) sign refl))
  | inr n ↦
      let sign : is_negated l ≡ false = ne_eqb (l.code % 2) 1 n in
      let code : (opposite l).code ≡ l.code + 1 = ap (λ b. cond b (l.code - 1) (l.code + 1)) sign in
      let odd : (l.code + 1) % 2 ≡ 1 = omega arith in
      literal_at a (opposite l) true (variable_of l) (ap (λ k. eqb (k % 2) 1) code ∙ ap (λ k. eqb k 1) odd) (ap (λ k. k / 2) code ∙ omega arith)
      ∙ ap not (sym (literal_at a l false (variable_of l) sign refl))
]

pub variable_of-positive : (v : ℕ) → variable_of (positive v) ≡ v
variable_of-positive v = omega arith

pub variable_of-negative : (v : ℕ) → variable_of (negative v) ≡ v
variable_of-negative v = omega arith

pub variable_of-opposite : (l : Lit) → variable_of (opposite l) ≡ variable_of l
variable_of-opposite l = elim (cases_eq (l.code % 2) 1) [
  | inl e ↦ ap (λ b. cond b (l.code - 1) (l.code + 1) / 2) (eq-eqb (l.code % 2) 1 e) ∙ omega arith
  | inr n ↦ ap (λ b. cond b (l.code - 1) (l.code + 1) / 2) (ne_eqb (l.code % 2) 1 n) ∙ omega arith
]

-- two assignments that agree on the variables of clauses
literal_same : (n : ℕ) (a b : List Bool) (l : Lit) → SameBelow n (value_of a) (value_of b) → variable_of l < n → literal_true a l ≡ literal_true b l
literal_same n a b l same h = ap (λ v. cond (is_negated l) (not v) v) (same (variable_of l) h)

tail_of : {X : Type 0} (P : X → Type 0) (x : X) (xs : List X) → All P (x ∷ xs) → All P xs
tail_of P x xs all k d h = all (suc k) d (omega arith)

head_of : {X : Type 0} (P : X → Type 0) (x : X) (xs : List X) → All P (x ∷ xs) → P x
head_of P x xs all = all 0 x (omega arith)

clause_same : (n : ℕ) (a b : List Bool) (c : List Lit) → SameBelow n (value_of a) (value_of b) → IsInRange n c → clause_true a c ≡ clause_true b c
clause_same n a b [] same range = refl
clause_same n a b (l ∷ c) same range =
    ap (λ v. v || list_any (literal_true a) c) (literal_same n a b l same (head_of (λ k. variable_of k < n) l c range))
    ∙ ap (λ v. literal_true b l || v) (clause_same n a b c same (tail_of (λ k. variable_of k < n) l c range))

pub all_same : (n : ℕ) (a b : List Bool) (cs : List (List Lit)) → SameBelow n (value_of a) (value_of b) → AreInRange n cs → all_true a cs ≡ all_true b cs
all_same n a b [] same range = refl
all_same n a b (c ∷ cs) same range =
    ap (λ v. v && list_all (clause_true a) cs) (clause_same n a b c same (head_of (IsInRange n) c cs range))
    ∙ ap (λ v. clause_true b c && v) (all_same n a b cs same (tail_of (IsInRange n) c cs range))

pub literals_same : (n : ℕ) (a b : List Bool) (l m : Lit) → SameBelow n (value_of a) (value_of b) → variable_of l < n → variable_of m < n → (literal_true a l && literal_true a m) ≡ (literal_true b l && literal_true b m)
literals_same n a b l m same h k = ap (λ v. v && literal_true a m) (literal_same n a b l same h) ∙ ap (λ v. literal_true b l && v) (literal_same n a b m same k)

-- the first n values of an assignment, as a list
pub bits : (ℕ → Bool) → ℕ → List Bool
bits x zero = []
bits x (suc n) = bits x n ++ x n ∷ []

pub length-bits : (x : ℕ → Bool) (n : ℕ) → length (bits x n) ≡ n
unfolding bits
length-bits x zero = refl
length-bits x (suc n) = length-append (bits x n) (x n ∷ []) ∙ omega (arith, length-bits x n)

pub bits_value : (x : ℕ → Bool) (n : ℕ) → SameBelow n x (value_of (bits x n))
unfolding bits
bits_value x zero k h = absurd (omega arith)
bits_value x (suc n) k h = elim (cases_lt k n) [
  | inl below ↦ bits_value x n k below ∙ sym (get_or_append_left (bits x n) (x n ∷ []) false k (omega (arith, length-bits x n)))
  | inr past ↦
      let last : k ≡ n = omega arith in
      ap x last ∙ sym (get_or-append_seam (bits x n) (x n) [] false)
      ∙ ap (λ j. get_or (bits x n ++ x n ∷ []) j false) (length-bits x n ∙ sym last)
]

-- the clauses of a conjunction
and_test : Bool → Bool → Bool → Bool → Bool → Bool → Bool
and_test n l m p o q = (n || (l || false)) && ((n || (m || false)) && ((p || (o || (q || false))) && true))

and_clauses_test : (a : List Bool) (v : ℕ) (l m : Lit) → all_true a (and_clauses v l m) ≡ and_test (not (value_of a v)) (literal_true a l) (literal_true a m) (value_of a v) (not (literal_true a l)) (not (literal_true a m))
unfolding and_test
and_clauses_test a v l m =
    ap (λ n. and_test n (literal_true a l) (literal_true a m) (literal_true a (positive v)) (literal_true a (opposite l)) (literal_true a (opposite m))) (negative_true a v)
    ∙ ap (λ p. and_test (not (value_of a v)) (literal_true a l) (literal_true a m) p (literal_true a (opposite l)) (literal_true a (opposite m))) (positive_true a v)
    ∙ ap (λ o. and_test (not (value_of a v)) (literal_true a l) (literal_true a m) (value_of a v) o (literal_true a (opposite m))) (opposite_true a l)
    ∙ ap (λ q. and_test (not (value_of a v)) (literal_true a l) (literal_true a m) (value_of a v) (not (literal_true a l)) q) (opposite_true a m)

and_test_says : (v l m : Bool) → and_test (not v) l m v (not l) (not m) ≡ true → v ≡ (l && m)
unfolding and_test
and_test_says true true true h = refl
and_test_says true true false h = sym h
and_test_says true false m h = sym h
and_test_says false true true h = h
and_test_says false true false h = refl
and_test_says false false m h = refl

and_test_holds : (v l m : Bool) → v ≡ (l && m) → and_test (not v) l m v (not l) (not m) ≡ true
unfolding and_test
and_test_holds true true true h = refl
and_test_holds true true false h = sym h
and_test_holds true false m h = sym h
and_test_holds false true true h = h
and_test_holds false true false h = refl
and_test_holds false false true h = refl
and_test_holds false false false h = refl

pub and_clauses_say : (a : List Bool) (v : ℕ) (l m : Lit) → all_true a (and_clauses v l m) ≡ true → value_of a v ≡ (literal_true a l && literal_true a m)
and_clauses_say a v l m h = and_test_says (value_of a v) (literal_true a l) (literal_true a m) (sym (and_clauses_test a v l m) ∙ h)

pub and_clauses_hold : (a : List Bool) (v : ℕ) (l m : Lit) → value_of a v ≡ (literal_true a l && literal_true a m) → all_true a (and_clauses v l m) ≡ true
and_clauses_hold a v l m h = and_clauses_test a v l m ∙ and_test_holds (value_of a v) (literal_true a l) (literal_true a m) h

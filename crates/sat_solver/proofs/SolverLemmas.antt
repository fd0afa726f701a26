-- What a solver keeps where the log gains a chain, and what cores say.
use Rattle.std.proofs.Common.{◌≡◌, ℕ, ◌+◌, ◌-◌, ◌*◌, ◌%◌, ◌<◌, ◌≤◌, ◌^◌, ◌++◌, ◌&&◌, cond, zero, suc, Bool, true, false, List, [], ◌∷◌, length, get_or, take, map, eqb, refl, sym, ◌∙◌, ap, subst, inl, inr, arith, Option, Some, None}
use Rattle.std.specs.Prelude.{All, IfSome, IsSomeAnd, IsTrue, slice_get, option_map, not}
use Rattle.std.specs.List.{list_all, AllByRecursion}
use Rattle.std.proofs.lemmas.Bool.{both_ways, or_cases, eq-eqb, eqb-true, ne_eqb, cases_eq}
use Rattle.std.proofs.lemmas.List.{append_assoc, map_push, length-append, take_more}
use Rattle.std.proofs.lemmas.List.Elements.{All-push, All-append, All-weaker, recursion_from_All, All-from_recursion}
use Rattle.std.proofs.lemmas.List.Sums.{sum_by-cons}
use Rattle.std.proofs.lemmas.Option.{slice_get-map}
use Rattle.clause_core.specs.declared.literal.Lit.{Lit}
use Rattle.clause_core.specs.Literal.{variable_of, opposite}
use Rattle.clause_core.specs.Formula.{Formula, IsInRange, AreInRange}
use Rattle.clause_derivation.specs.declared.chain.Chain.{Chain}
use Rattle.clause_derivation.specs.Derivation.{results}
use Rattle.clause_core.specs.Members.{has, times, NoneTwice}
use Rattle.clause_derivation.specs.Marking.{HavePlaces}
use Rattle.sat_solver.specs.declared.verdict.Verdict.{Verdict}
use Rattle.sat_solver.specs.declared.verdict.Verdict.TheVariants.{Satisfied, Core}
use Rattle.sat_solver.specs.declared.entry.Entry.{Entry}
use Rattle.sat_solver.specs.declared.origin.Origin.{Origin}
use Rattle.sat_solver.specs.declared.origin.Origin.TheVariants.{Given, Learned}
use Rattle.sat_solver.specs.Naming.{numbered, IsKnown, IsUsable}
use Rattle.clause_core.specs.Truth.{literal_true, clause_true, all_true}
use Rattle.sat_solver.specs.Assigned.{literals_of, IsReasoned, Grows}
use Rattle.sat_solver.specs.Searching.{AreTrue}
use Rattle.sat_solver.specs.Answers.{AreOpposites, IsCore, IsAnswer, IfCore}
use Rattle.sat_solver.proofs.NamingLemmas.{slice_get-append_right, some_same}
use Rattle.sat_solver.proofs.TrailLemmas.{opposite_turned}

-- one more literal whose opposite is there
pub opposites_more : (used c : List Lit) (i : ℕ) (d : Lit) → i < length c → AreOpposites used (take i c) → has used (opposite (get_or c i d)) ≡ true → AreOpposites used (take (i + 1) c)
opposites_more used c i d h a e = subst (AreOpposites used) (sym (take_more c i d h)) (All-push (λ l. has used (opposite l) ≡ true) (take i c) (get_or c i d) a e)

-- literals with places are in range
pub places_range : (v n : ℕ) (c : List Lit) → n ≡ 2 * v → HavePlaces n c → IsInRange v c
places_range v n c e h = All-weaker (λ l. l.code < n) (λ l. variable_of l < v) (λ l b. omega arith) c h

-- literals in range have places
pub range_places : (v n : ℕ) (c : List Lit) → n ≡ 2 * v → IsInRange v c → HavePlaces n c
range_places v n c e h = All-weaker (λ l. variable_of l < v) (λ l. l.code < n) (λ l b. omega arith) c h

-- what a chain may name, after one more chain
pub usable_more : (v : ℕ) (cs : List (List Lit)) (log : List Chain) (ch : Chain) → IsUsable v cs log → IsInRange v ch.result → length cs + length log < 2 ^ 32 → IsUsable v cs (log ++ ch ∷ [])
usable_more v cs log ch u r h = record {
  range = subst (AreInRange v) (append_assoc cs (results log) (ch.result ∷ []) ∙ ap (λ xs. cs ++ xs) (sym (map_push (λ (x : Chain). x.result) log ch))) (All-push (IsInRange v) (numbered cs log) ch.result u.range r);
  count = omega (arith, length-append log (ch ∷ []));
}

known_more : (n k m j : ℕ) (o : Origin) → n ≤ m → k ≤ j → IsKnown n k o → IsKnown m j o
known_more n k m j (Given at) h g i = omega arith
known_more n k m j (Learned at) h g i = omega arith

reasoned_more : (n k m j : ℕ) (o : Option Origin) → n ≤ m → k ≤ j → IfSome o (IsKnown n k) → IfSome o (IsKnown m j)
reasoned_more n k m j (Some o) h g i = known_more n k m j o h g i
reasoned_more n k m j None h g i = i

-- reasons stay known where clauses or chains come in
pub reasons_later : (n k m j : ℕ) (es : List Entry) → n ≤ m → k ≤ j → All (IsReasoned n k) es → All (IsReasoned m j) es
reasons_later n k m j es h g a = All-weaker (IsReasoned n k) (IsReasoned m j) (λ e. reasoned_more n k m j e.reason h g) es a

-- the chain at the end of a log
pub last_chain : (log : List Chain) (ch : Chain) (c : List Lit) → c ≡ ch.result → IsSomeAnd (slice_get (log ++ ch ∷ []) (length log)) (λ x. x.result ≡ c)
last_chain log ch c e = subst (λ o. IsSomeAnd o (λ (x : Chain). x.result ≡ c)) (sym (ap (slice_get (log ++ ch ∷ [])) (sym zero_more) ∙ slice_get-append_right log (ch ∷ []) 0)) (sym e) where
  zero_more : length log + 0 ≡ length log
  zero_more = omega arith

pub grows_at : (n k m j : ℕ) (es fs : List Entry) → n ≡ m → k ≡ j → Grows n k es fs → Grows m j es fs
grows_at n k m j es fs e f g = subst (λ x. Grows x j es fs) e (subst (λ y. Grows n y es fs) f g)

among_by : (lits c : List Lit) → AllByRecursion (λ l. has lits (opposite l) ≡ true) c → AllByRecursion (λ l. has lits l ≡ true) (map opposite c)
among_by lits [] h = tt
among_by lits (x ∷ c) h = (h.0, among_by lits c h.1)

-- the opposite of the opposite is the literal itself

back : (n : ℕ) → (opposite (opposite (record { code = n }))).code ≡ n
back n = elim (cases_eq (n % 2) 1) [
  | inl o ↦
      let down : (opposite (record { code = n })).code ≡ n - 1 = rw (eq-eqb (n % 2) 1 o) refl in
      let even : (n - 1) % 2 ≡ 0 = omega arith in
      ap (λ k. (opposite (record { code = k })).code) down ∙ rw (ne_eqb ((n - 1) % 2) 1 (λ e. absurd (omega arith))) (omega arith)
  | inr e ↦
      let up : (opposite (record { code = n })).code ≡ n + 1 = rw (ne_eqb (n % 2) 1 e) refl in
      let even : n % 2 ≡ 0 = omega arith in
      let odd : (n + 1) % 2 ≡ 1 = omega arith in
      ap (λ k. (opposite (record { code = k })).code) up ∙ rw (eq-eqb ((n + 1) % 2) 1 odd) (omega arith)
]

opposite_back : (l : Lit) → opposite (opposite l) ≡ l
opposite_back l = ap (λ n. record { code = n }) (back l.code)

pub opposites_back : (c : List Lit) → map opposite (map opposite c) ≡ c
opposites_back [] = refl
opposites_back (l ∷ c) = ap (λ k. k ∷ map opposite (map opposite c)) (opposite_back l) ∙ ap (λ d. l ∷ d) (opposites_back c)

same_tests : (m n : ℕ) → eqb (opposite (record { code = m })).code n ≡ eqb m (opposite (record { code = n })).code
same_tests m n = go (eqb (opposite (record { code = m })).code n) (eqb m (opposite (record { code = n })).code) refl refl where
  code_of : (k : ℕ) → ℕ
  code_of k = (opposite (record { code = k })).code

  go : (a b : Bool) → eqb (opposite (record { code = m })).code n ≡ a → eqb m (opposite (record { code = n })).code ≡ b → a ≡ b
  go true true e g = refl
  go false false e g = refl
  go true false e g = absurd (both_ways _ g (eq-eqb m (opposite (record { code = n })).code (sym (back m) ∙ ap code_of (eqb-true (opposite (record { code = m })).code n e))))
  go false true e g = absurd (both_ways _ e (eq-eqb (opposite (record { code = m })).code n (ap code_of (eqb-true m (opposite (record { code = n })).code g) ∙ back n)))

times_opposite : (l : Lit) (c : List Lit) → times l (map opposite c) ≡ times (opposite l) c
times_opposite l [] = refl
times_opposite l (x ∷ c) =
    sum_by-cons (λ (k : Lit). cond (eqb k.code l.code) 1 0) (opposite x) (map opposite c)
    ∙ ap (λ b. cond b 1 0 + times l (map opposite c)) (same_tests x.code l.code)
    ∙ ap (λ n. cond (eqb x.code (opposite l).code) 1 0 + n) (times_opposite l c)
    ∙ sym (sum_by-cons (λ (k : Lit). cond (eqb k.code (opposite l).code) 1 0) x c)

-- the opposites of a learned clause, where all of them are assumptions
pub is_core : (lits : List Lit) (log : List Chain) (c : List Lit) (at : ℕ) → AreOpposites lits c → NoneTwice c → at + 1 ≡ length log → IsSomeAnd (slice_get log at) (λ ch. ch.result ≡ c) → IsCore lits log (map opposite c) at
is_core lits log c at a once last e = record {
  among = All-from_recursion (λ l. has lits l ≡ true) (map opposite c) (among_by lits c (recursion_from_All (λ l. has lits (opposite l) ≡ true) c a));
  once = λ l. subst (λ n. n ≤ 1) (sym (times_opposite l c)) (once (opposite l));
  last = last;
  derived = subst (λ d. IsSomeAnd (slice_get log at) (λ (ch : Chain). ch.result ≡ d)) (sym (opposites_back c)) e;
}

-- an assignment that makes each literal of the trail true makes the assumptions true
pub assumptions_true : (a : List Bool) (es : List Entry) (lits : List Lit) → AreTrue es lits → ((l : Lit) → has (literals_of es) l ≡ true → literal_true a l ≡ true) → list_all (literal_true a) lits ≡ true
assumptions_true a es lits h f = go lits (recursion_from_All (λ l. has (literals_of es) l ≡ true) lits h) where
  both : (x y : Bool) → x ≡ true → y ≡ true → (x && y) ≡ true
  both true y p q = q
  both false y p q = absurd (both_ways false refl p)

  go : (xs : List Lit) → AllByRecursion (λ l. has (literals_of es) l ≡ true) xs → list_all (literal_true a) xs ≡ true
  go [] i = refl
  go (x ∷ xs) i = both (literal_true a x) (list_all (literal_true a) xs) (f x i.0) (go xs i.1)

split_by : {A : Type 0} (P : A → Type 0) (xs ys : List A) → AllByRecursion P (xs ++ ys) → AllByRecursion P xs × AllByRecursion P ys
split_by P [] ys h = (tt, h)
split_by P (x ∷ xs) ys h = let r : AllByRecursion P xs × AllByRecursion P ys = split_by P xs ys h.1 in ((h.0, r.0), r.1)

all_split : {A : Type 0} (P : A → Type 0) (xs ys : List A) → All P (xs ++ ys) → All P xs × All P ys
all_split P xs ys h =
    let r : AllByRecursion P xs × AllByRecursion P ys = split_by P xs ys (recursion_from_All P (xs ++ ys) h) in
    (All-from_recursion P xs r.0, All-from_recursion P ys r.1)

-- what a solver keeps where its formula gains a clause
pub usable_added : (v : ℕ) (cs : List (List Lit)) (log new : List Chain) (c : List Lit) → IsUsable v cs log → results new ≡ results log → length new ≡ length log → IsInRange v c → length cs + length log < 2 ^ 32 → IsUsable v (cs ++ c ∷ []) new
usable_added v cs log new c u same count r h =
    let both : All (IsInRange v) cs × All (IsInRange v) (results log) = all_split (IsInRange v) cs (results log) u.range in
    record {
      range = subst (λ rs. AreInRange v (cs ++ c ∷ [] ++ rs)) (sym same) (All-append (IsInRange v) (cs ++ c ∷ []) (results log)
          (All-push (IsInRange v) cs c both.0 r) both.1);
      count = omega (arith, length-append cs (c ∷ []));
    }

all_in : (P : List Lit → Type 0) (cs : List (List Lit)) → AllByRecursion P cs → (k : ℕ) (c : List Lit) → slice_get cs k ≡ Some c → P c
all_in P [] h k c e = cc
all_in P (x ∷ cs) h zero c e = subst P (some_same x c e) h.0
all_in P (x ∷ cs) h (suc k) c e = all_in P cs h.1 k c e

and_parts_of : (x y : Bool) → (x && y) ≡ true → (x ≡ true) × (y ≡ true)
and_parts_of true y h = (refl, h)
and_parts_of false y h = cc

all_true_at : (a : List Bool) (cs : List (List Lit)) → list_all (clause_true a) cs ≡ true → AllByRecursion (λ c. clause_true a c ≡ true) cs
all_true_at a [] h = tt
all_true_at a (c ∷ cs) h = let p : (clause_true a c ≡ true) × (list_all (clause_true a) cs ≡ true) = and_parts_of (clause_true a c) (list_all (clause_true a) cs) h in (p.0, all_true_at a cs p.1)

-- the clause of the opposites of true literals is false
opposites_false : (a : List Bool) (used : List Lit) → list_all (literal_true a) used ≡ true → clause_true a (map opposite used) ≡ true → ⊥
opposites_false a [] u t = both_ways false refl t
opposites_false a (l ∷ used) u t =
    let p : (literal_true a l ≡ true) × (list_all (literal_true a) used ≡ true) = and_parts_of (literal_true a l) (list_all (literal_true a) used) u in
    elim (or_cases (literal_true a (opposite l)) (clause_true a (map opposite used)) t) [
      | inl e ↦ both_ways (literal_true a (opposite l)) (opposite_turned a l ∙ ap not p.0) e
      | inr i ↦ opposites_false a used p.1 i
    ]

-- no assignment that satisfies all chains makes the used literals of a core true
pub core_refutes : (a : List Bool) (lits : List Lit) (log : List Chain) (used : List Lit) (at : ℕ) → IsCore lits log used at → list_all (clause_true a) (results log) ≡ true → list_all (literal_true a) used ≡ true → ⊥
core_refutes a lits log used at core t u = go (slice_get log at) refl core.derived where
  go : (o : Option Chain) → slice_get log at ≡ o → IsSomeAnd o (λ ch. ch.result ≡ map opposite used) → ⊥
  go None e h = h
  go (Some ch) e h = opposites_false a used u (subst (λ c. clause_true a c ≡ true) h
      (all_in (λ c. clause_true a c ≡ true) (results log) (all_true_at a (results log) t) at ch.result (slice_get-map (λ (x : Chain). x.result) log at ∙ ap (option_map (λ (x : Chain). x.result)) e)))

-- a core refutes what it used
pub answer_refutes : (v : Verdict) (f : Formula) (lits : List Lit) (log : List Chain) → IsAnswer f lits log v → ((a : List Bool) → IsTrue (all_true a f.clauses) → IsTrue (all_true a (results log))) → IfCore v (λ used at. (a : List Bool) → IsTrue (all_true a f.clauses) → IsTrue (list_all (literal_true a) used) → ⊥)
answer_refutes (Satisfied a) g lits log h f = tt
answer_refutes (Core used at) g lits log h f = λ a t u. core_refutes a lits log used at h (f a t) u

-- The comparison of marks with the result of a chain, and derivations that grow by a chain.
use Rattle.std.proofs.Common.{◌≡◌, ℕ, ◌+◌, ◌*◌, ◌<◌, ◌≤◌, arith, ◌&&◌, ◌++◌, ◌↔◌, Bool, true, false, List, [], ◌∷◌, length, get_or, take, drop, eqb, refl, sym, ◌∙◌, ap, subst, inl, inr, Some, None, Option}
use Rattle.std.specs.Prelude.{not, IsSomeAnd, IsTrue, All}
use Rattle.std.specs.List.{list_all}
use Rattle.std.proofs.lemmas.Bool.{or_cases, or_left, or_right, cases_Bool, eq-eqb, eqb-true, both_ways, and_from}
use Rattle.std.proofs.lemmas.List.{append_assoc, append-nil, take_more, map_push, drop_more, take-append-drop}
use Rattle.std.proofs.lemmas.List.Elements.{All-push, All-weaker, All-map, All-cons, All-nil, All-append}
use Rattle.clause_core.specs.declared.literal.Lit.{Lit}
use Rattle.clause_core.specs.Literal.{variable_of}
use Rattle.clause_core.specs.Formula.{IsInRange, AreInRange}
use Rattle.clause_derivation.specs.declared.chain.Chain.{Chain}
use Rattle.clause_derivation.specs.Resolution.{IsSameSet}
use Rattle.clause_core.specs.Members.{has}
use Rattle.clause_derivation.specs.Derivation.{chain_end, Derives, IsDerivation, results, singles}
use Rattle.clause_derivation.specs.Marking.{mark_of, AreMarks, IsClear, AreWithin, Ended, Unmarks, HavePlaces}
use Rattle.clause_derivation.specs.Numbering.{touched}
use Rattle.clause_derivation.proofs.MarkLemmas.{and_split}

-- every literal of a clause that is marked throughout is marked
all_at : (m : List Bool) (c : List Lit) (l : Lit) → list_all (mark_of m) c ≡ true → has c l ≡ true → mark_of m l ≡ true
all_at m [] l h i = cc
all_at m (x ∷ c) l h i =
    let both : (mark_of m x ≡ true) × (list_all (mark_of m) c ≡ true) = and_split (mark_of m x) (list_all (mark_of m) c) h in
    elim (or_cases (eqb x.code l.code) (has c l) i) [
      | inl e ↦ ap (λ n. get_or m n false) (sym (eqb-true x.code l.code e)) ∙ both.0
      | inr j ↦ all_at m c l both.1 j
    ]

-- a clause is marked throughout where each of its literals is
all_from : (m : List Bool) (c : List Lit) → ((l : Lit) → has c l ≡ true → mark_of m l ≡ true) → list_all (mark_of m) c ≡ true
all_from m [] f = refl
all_from m (x ∷ c) f = and_from (mark_of m x) (list_all (mark_of m) c)
    (f x (or_left (eqb x.code x.code) (has c x) (eq-eqb x.code x.code refl)))
    (all_from m c (λ l h. f l (or_right (eqb x.code l.code) (has c l) h)))

-- two answers that imply each other are one
same_answer : (a b : Bool) → (a ≡ true → b ≡ true) → (b ≡ true → a ≡ true) → a ≡ b
same_answer true b f g = sym (f refl)
same_answer false true f g = g refl
same_answer false false f g = refl

-- what is marked and is no literal of the result keeps its mark
kept : (a h b : Bool) → b ≡ (a && not h) → a ≡ true → h ≡ false → b ≡ true
kept a h b e p q = e ∙ ap (λ x. x && not h) p ∙ ap (λ x. not x) q

-- no literal is left where the sets are one
gone : (a h b : Bool) → b ≡ (a && not h) → a ≡ h → b ≡ false
gone true true b e p = e
gone true false b e p = absurd (both_ways true (p) refl)
gone false h b e p = e

-- what the checks say together, where the steps end in a clause whose marks are m1
agree_at : (c result touch : List Lit) (m1 m2 m3 : List Bool) (covered u clean : Bool) → AreMarks m1 c → AreWithin m1 touch → covered ≡ list_all (mark_of m1) result → Unmarks m1 m2 result u → Unmarks m2 m3 touch clean → ((covered && clean) ≡ true) ↔ IsSameSet c result
agree_at c result touch m1 m2 m3 covered u clean are within cover one two = (
  λ t l.
      let both : (covered ≡ true) × (clean ≡ true) = and_split covered clean t in
      same_answer (has c l) (has result l)
      (λ h. elim (cases_Bool (has result l)) [
        | inl i ↦ i
        | inr n ↦ absurd (both_ways (mark_of m2 l)
            (two.clean both.1 l (within l (are l ∙ h)))
            (kept (mark_of m1 l) (has result l) (mark_of m2 l) (one.cleared l) (are l ∙ h) n))
      ])
      (λ h. sym (are l) ∙ all_at m1 result l (sym cover ∙ both.0) h),
  λ same. and_from covered clean
      (cover ∙ all_from m1 result (λ l h. are l ∙ same l ∙ h))
      (two.found (λ l h. gone (mark_of m1 l) (has result l) (mark_of m2 l) (one.cleared l) (are l ∙ same l))),
)

agree_by : (o : Option (List Lit)) (result touch : List Lit) (m1 m2 m3 : List Bool) (ended covered u clean : Bool) → Ended m1 o ended → AreWithin m1 touch → covered ≡ list_all (mark_of m1) result → Unmarks m1 m2 result u → Unmarks m2 m3 touch clean → ((ended && covered && clean) ≡ true) ↔ IsSomeAnd o (λ c. IsSameSet c result)
agree_by (Some c) result touch m1 m2 m3 true covered u clean ran within cover one two = agree_at c result touch m1 m2 m3 covered u clean ran within cover one two
agree_by (Some c) result touch m1 m2 m3 false covered u clean ran within cover one two = absurd ran
agree_by None result touch m1 m2 m3 true covered u clean ran within cover one two = absurd ran
agree_by None result touch m1 m2 m3 false covered u clean ran within cover one two = (λ t. cc, λ h. absurd h)

-- A chain derives its result exactly where its steps can be taken, the result is marked throughout,
-- and nothing that it names is marked once the result is not.
pub agree : (clauses : List (List Lit)) (ch : Chain) (xs ys : List Lit) (m1 m2 m3 : List Bool) (ended covered u clean : Bool) → Ended m1 (chain_end clauses ch) ended → AreWithin m1 (touched clauses ch) → xs ≡ ch.result → covered ≡ list_all (mark_of m1) xs → ys ≡ ch.result → Unmarks m1 m2 ys u → Unmarks m2 m3 (touched clauses ch) clean → IsTrue (ended && covered && clean) ↔ Derives clauses ch
agree clauses ch xs ys m1 m2 m3 ended covered u clean ran within e cover f one two =
    agree_by (chain_end clauses ch) ch.result (touched clauses ch) m1 m2 m3 ended covered u clean ran within
    (cover ∙ ap (λ zs. list_all (mark_of m1) zs) e) (subst (λ zs. Unmarks m1 m2 zs u) f one) two

-- a derivation that gains a chain
pub grows : (clauses : List (List Lit)) (chains : List Chain) (ch : Chain) → IsDerivation clauses chains → Derives (clauses ++ results chains) ch → IsDerivation clauses (chains ++ ch ∷ [])
grows clauses [] ch h d = (subst (λ cs. Derives cs ch) (append-nil clauses) d, tt)
grows clauses (x ∷ chains) ch h d = (h.0, grows (clauses ++ x.result ∷ []) chains ch h.1 (subst (λ cs. Derives cs ch) (sym (append_assoc clauses (x.result ∷ []) (results chains))) d))

-- a chain in the midst of a derivation
pub parts : (clauses : List (List Lit)) (chains rest : List Chain) (ch : Chain) → IsDerivation clauses (chains ++ ch ∷ rest) → Derives (clauses ++ results chains) ch
parts clauses [] rest ch h = subst (λ cs. Derives cs ch) (sym (append-nil clauses)) h.0
parts clauses (x ∷ chains) rest ch h = subst (λ cs. Derives cs ch) (append_assoc clauses (x.result ∷ []) (results chains)) (parts (clauses ++ x.result ∷ []) chains rest ch h.1)

-- what the loop over the chains keeps
pub record Checked (clauses : List (List Lit)) (chains : List Chain) (i : ℕ) (m : List Bool) : Type 0 where
  pub clear : IsClear m
  pub derived : IsDerivation clauses (take i chains)
  pub places : All (HavePlaces (length m)) (clauses ++ results (take i chains))

-- one more chain that derives its result
pub checked_more : (clauses : List (List Lit)) (chains : List Chain) (i : ℕ) (m n : List Bool) (ch : Chain) → i < length chains → ch ≡ get_or chains i ch → length n ≡ length m → Checked clauses chains i m → Derives (clauses ++ results (take i chains)) ch → HavePlaces (length m) ch.result → IsClear n → Checked clauses chains (i + 1) n
checked_more clauses chains i m n ch h is same given d range clear =
    let more : take (i + 1) chains ≡ take i chains ++ ch ∷ [] = take_more chains i ch h ∙ ap (λ c. take i chains ++ c ∷ []) (sym is) in
    let all : clauses ++ results (take i chains) ++ ch.result ∷ [] ≡ clauses ++ results (take (i + 1) chains) =
    append_assoc clauses (results (take i chains)) (ch.result ∷ [])
    ∙ ap (λ cs. clauses ++ cs) (sym (map_push (λ c. c.result) (take i chains) ch) ∙ ap results (sym more)) in
    record {
      clear = clear;
      derived = subst (IsDerivation clauses) (sym more) (grows clauses (take i chains) ch given.derived d);
      places = subst (λ k. All (HavePlaces k) (clauses ++ results (take (i + 1) chains))) (sym same)
          (subst (All (HavePlaces (length m))) all (All-push (HavePlaces (length m)) (clauses ++ results (take i chains)) ch.result given.places range));
    }

-- a chain that does not derive its result
pub checked_stop : (clauses : List (List Lit)) (chains : List Chain) (i : ℕ) (ch : Chain) → i < length chains → ch ≡ get_or chains i ch → (Derives (clauses ++ results (take i chains)) ch → ⊥) → IsTrue false ↔ IsDerivation clauses chains
checked_stop clauses chains i ch h is failed =
    let split : chains ≡ take i chains ++ ch ∷ drop (i + 1) chains =
    sym (take-append-drop i chains) ∙ ap (λ cs. take i chains ++ cs) (drop_more chains i ch h ∙ ap (λ c. c ∷ drop (i + 1) chains) (sym is)) in
    (λ t. cc, λ d. absurd (failed (parts clauses (take i chains) (drop (i + 1) chains) ch (subst (IsDerivation clauses) split d))))

-- clauses whose variables are in range have places
places_of : (v k : ℕ) (cs : List (List Lit)) → 2 * v ≤ k → AreInRange v cs → All (HavePlaces k) cs
places_of v k cs h range =
    All-weaker (IsInRange v) (HavePlaces k) (λ c r. All-weaker (λ l. variable_of l < v) (λ l. l.code < k) (λ l b. omega arith) c r) cs range

-- and so have units
places_of_units : (v k : ℕ) (units : List Lit) → 2 * v ≤ k → IsInRange v units → All (HavePlaces k) (singles units)
places_of_units v k units h range =
    All-map (HavePlaces k) (λ l. l ∷ []) units
    (All-weaker (λ l. variable_of l < v) (λ l. HavePlaces k (l ∷ [])) (λ l b. All-cons (λ x. x.code < k) l [] (omega arith) (All-nil (λ x. x.code < k))) units range)

-- all that is numbered before the first chain has places
pub base_places : (v w k : ℕ) (cnf more : List (List Lit)) (units : List Lit) → v ≤ w → k ≡ 2 * w → AreInRange v cnf → AreInRange w more → IsInRange w units → All (HavePlaces k) (cnf ++ more ++ singles units)
base_places v w k cnf more units fits same one two three =
    All-append (HavePlaces k) (cnf ++ more) (singles units)
    (All-append (HavePlaces k) cnf more (places_of v k cnf (omega arith) one) (places_of w k more (omega arith) two))
    (places_of_units w k units (omega arith) three)

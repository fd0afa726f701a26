-- Assumptions that are decided before any other literal.
use Rattle.std.proofs.Common.{◌≡◌, ℕ, ◌++◌, ◌⊎◌, zero, suc, true, false, List, [], ◌∷◌, length, take, eqb, refl, sym, ◌∙◌, ap, subst, inl, inr, Option, Some, None, ◌||◌}
use Rattle.std.specs.Prelude.{All, IsSome, IsSomeAnd, IfSome, if◌then◌else◌}
use Rattle.std.specs.List.{AllByRecursion}
use Rattle.std.proofs.lemmas.Bool.{both_ways, cases_Bool, or_left, eqb-true}
use Rattle.std.proofs.lemmas.List.{append_assoc, append-nil}
use Rattle.std.proofs.lemmas.List.Elements.{All-append, All-weaker, All-take, All-push, recursion_from_All}
use Rattle.clause_core.specs.declared.literal.Lit.{Lit}
use Rattle.clause_core.specs.Literal.{opposite}
use Rattle.clause_core.specs.Members.{has}
use Rattle.sat_solver.specs.declared.entry.Entry.{Entry}
use Rattle.sat_solver.specs.declared.origin.Origin.{Origin}
use Rattle.sat_solver.specs.Naming.{IsKnown}
use Rattle.sat_solver.specs.Assigned.{literals_of, reason_in, IsReasoned, IsImplied, Grows}
use Rattle.sat_solver.specs.Answers.{AreConsistent}
use Rattle.sat_solver.specs.Searching.{AreTrue, DecidedAfter, IsDecided, IsPrefix}
use Rattle.sat_solver.proofs.MarkLemmas.{has-append}
use Rattle.sat_solver.proofs.TrailLemmas.{lit_eq}
use Rattle.sat_solver.proofs.ScanLemmas.{all_has}

literals_append : (es fs : List Entry) → literals_of (es ++ fs) ≡ literals_of es ++ literals_of fs
literals_append [] fs = refl
literals_append (e ∷ es) fs = ap (λ xs. e.lit ∷ xs) (literals_append es fs)

-- what is true stays true where the trail grows
pub true_more : (es fs : List Entry) (lits : List Lit) → AreTrue es lits → AreTrue (es ++ fs) lits
true_more es fs lits h = All-weaker (λ l. has (literals_of es) l ≡ true) (λ l. has (literals_of (es ++ fs)) l ≡ true)
    (λ l t. ap (λ c. has c l) (literals_append es fs) ∙ has-append (literals_of es) (literals_of fs) l ∙ or_left (has (literals_of es) l) (has (literals_of fs) l) t) lits h

-- more entries, all of which have a reason or their turn
decided_append : (lits : List Lit) (seen es fs : List Entry) → DecidedAfter lits seen es → DecidedAfter lits (seen ++ es) fs → DecidedAfter lits seen (es ++ fs)
decided_append lits seen [] fs d e = subst (λ xs. DecidedAfter lits xs fs) (append-nil seen) e
decided_append lits seen (x ∷ es) fs d e = (d.0, decided_append lits (seen ++ x ∷ []) es fs d.1 (subst (λ xs. DecidedAfter lits xs fs) (sym (append_assoc seen (x ∷ []) es)) e))

-- the front of a trail
decided_front : (lits : List Lit) (seen es : List Entry) (n : ℕ) → DecidedAfter lits seen es → DecidedAfter lits seen (take n es)
decided_front lits seen es zero d = tt
decided_front lits seen [] (suc n) d = tt
decided_front lits seen (x ∷ es) (suc n) d = (d.0, decided_front lits (seen ++ x ∷ []) es n d.1)

some_none : {A : Type 0} (P : A → Type 0) (B : Type 0) (o : Option A) → IsSomeAnd o P → o ≡ None → B
some_none P B (Some a) h e = cc
some_none P B None h e = absurd h

reasoned_decided : (n k : ℕ) (lits : List Lit) (seen es : List Entry) → AllByRecursion (IsImplied n k) es → DecidedAfter lits seen es
reasoned_decided n k lits seen [] h = tt
reasoned_decided n k lits seen (x ∷ es) h = (λ e. some_none (IsKnown n k) ((has lits x.lit ≡ true) ⊎ AreTrue seen lits) x.reason h.0 e, reasoned_decided n k lits (seen ++ x ∷ []) es h.1)

-- a trail that grows by entries with a reason
pub decided_grows : (n k : ℕ) (lits : List Lit) (es fs : List Entry) → IsDecided lits es → Grows n k es fs → IsDecided lits fs
decided_grows n k lits es fs d g = subst (IsDecided lits) (sym g.1) (decided_append lits [] es g.0 d (reasoned_decided n k lits es g.0 (recursion_from_All (IsImplied n k) g.0 g.2)))

-- a trail that gains a decision in its turn
pub decided_more : (lits : List Lit) (es : List Entry) (e : Entry) → IsDecided lits es → (has lits e.lit ≡ true) ⊎ AreTrue es lits → IsDecided lits (es ++ e ∷ [])
decided_more lits es e d turn = decided_append lits [] es (e ∷ []) d (λ n. turn, tt)

-- a trail that goes back
pub decided_prefix : (lits : List Lit) (es fs : List Entry) → IsDecided lits fs → IsPrefix es fs → IsDecided lits es
decided_prefix lits es fs d p = subst (IsDecided lits) (sym p) (decided_front lits [] fs (length es) d)

has_reason : (o : Option Origin) → IsSome o → o ≡ None → ⊥
has_reason (Some a) h e = cc
has_reason None h e = cc

facts_by : (lits : List Lit) (seen es : List Entry) → AllByRecursion (λ (e : Entry). IsSome e.reason) es → DecidedAfter lits seen es
facts_by lits seen [] h = tt
facts_by lits seen (x ∷ es) h = (λ e. absurd (has_reason x.reason h.0 e), facts_by lits (seen ++ x ∷ []) es h.1)

-- a trail of facts
pub decided_facts : (lits : List Lit) (es : List Entry) → All (λ (e : Entry). IsSome e.reason) es → IsDecided lits es
decided_facts lits es h = facts_by lits [] es (recursion_from_All (λ (e : Entry). IsSome e.reason) es h)

-- An entry without a reason is an assumption, or all assumptions are true.
turn_of : (lits : List Lit) (seen es : List Entry) (l : Lit) → DecidedAfter lits seen es → has (literals_of es) l ≡ true → reason_in es l ≡ None → (has lits l ≡ true) ⊎ AreTrue (seen ++ es) lits
turn_of lits seen [] l d h r = cc
turn_of lits seen (x ∷ es) l d h r = elim (cases_Bool (eqb x.lit.code l.code)) [
  | inl t ↦ elim (d.0 (sym (ap (λ b. if b then x.reason else reason_in es l) t) ∙ r)) [
    | inl a ↦ inl (ap (has lits) (sym (lit_eq x.lit l (eqb-true x.lit.code l.code t))) ∙ a)
    | inr a ↦ inr (true_more seen (x ∷ es) lits a)
  ]
  | inr f ↦ elim (turn_of lits (seen ++ x ∷ []) es l d.1 (sym (ap (λ b. b || has (literals_of es) l) f) ∙ h) (sym (ap (λ b. if b then x.reason else reason_in es l) f) ∙ r)) [
    | inl a ↦ inl a
    | inr a ↦ inr (subst (λ xs. AreTrue xs lits) (append_assoc seen (x ∷ []) es) a)
  ]
]

-- An assumption that is false has a reason.
pub refused_reason : (lits : List Lit) (es : List Entry) (l : Lit) → IsDecided lits es → AreConsistent lits → has lits l ≡ true → has (literals_of es) l ≡ false → has (literals_of es) (opposite l) ≡ true → reason_in es (opposite l) ≡ None → ⊥
refused_reason lits es l d consistent on off false_one r = elim (turn_of lits [] es (opposite l) d false_one r) [
  | inl a ↦ both_ways (has lits (opposite l)) (consistent l on) a
  | inr a ↦ both_ways (has (literals_of es) l) off (all_has (λ k. has (literals_of es) k ≡ true) lits a l on)
]

known_by : (n k : ℕ) (es : List Entry) (l : Lit) (o : Origin) → AllByRecursion (IsReasoned n k) es → reason_in es l ≡ Some o → IsKnown n k o
known_by n k [] l o a r = cc
known_by n k (x ∷ es) l o a r = elim (cases_Bool (eqb x.lit.code l.code)) [
  | inl t ↦ subst (λ q. IfSome q (IsKnown n k)) (sym (ap (λ b. if b then x.reason else reason_in es l) t) ∙ r) a.0
  | inr f ↦ known_by n k es l o a.1 (sym (ap (λ b. if b then x.reason else reason_in es l) f) ∙ r)
]

-- the reason of an entry is known
pub reason_known : (n k : ℕ) (es : List Entry) (l : Lit) (o : Origin) → All (IsReasoned n k) es → reason_in es l ≡ Some o → IsKnown n k o
reason_known n k es l o a r = known_by n k es l o (recursion_from_All (IsReasoned n k) es a) r

implied_reasoned : (n k : ℕ) (o : Option Origin) → IsSomeAnd o (IsKnown n k) → IfSome o (IsKnown n k)
implied_reasoned n k (Some o) h = h
implied_reasoned n k None h = absurd h

-- reasons stay known where the trail grows
pub reasons_grow : (n k : ℕ) (es fs : List Entry) → All (IsReasoned n k) es → Grows n k es fs → All (IsReasoned n k) fs
reasons_grow n k es fs a g = subst (All (IsReasoned n k)) (sym g.1) (All-append (IsReasoned n k) es g.0 a (All-weaker (IsImplied n k) (IsReasoned n k) (λ e. implied_reasoned n k e.reason) g.0 g.2))

pub reasons_prefix : (n k : ℕ) (es fs : List Entry) → All (IsReasoned n k) fs → IsPrefix es fs → All (IsReasoned n k) es
reasons_prefix n k es fs a p = subst (All (IsReasoned n k)) (sym p) (All-take (IsReasoned n k) (length es) fs a)

-- a decision has no reason to know
pub reasons_more : (n k : ℕ) (es : List Entry) (l : Lit) → All (IsReasoned n k) es → All (IsReasoned n k) (es ++ record { lit = l; reason = None } ∷ [])
reasons_more n k es l a = All-push (IsReasoned n k) es (record { lit = l; reason = None }) a tt

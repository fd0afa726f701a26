-- What a core without assumptions says of the log, and what logs without clauses say of a system.
use Rattle.std.proofs.Common.{◌≡◌, ℕ, ◌-◌, ◌++◌, ◌||◌, ◌&&◌, Bool, true, false, List, [], ◌∷◌, length, map, refl, sym, ◌∙◌, ap, subst, arith, Option, Some, None}
use Rattle.std.specs.Prelude.{IsSomeAnd, slice_get, option_map, not}
use Rattle.std.specs.List.{AllByRecursion}
use Rattle.std.proofs.lemmas.Bool.{and_from}
use Rattle.std.proofs.lemmas.List.{append-nil}
use Rattle.std.proofs.lemmas.List.Folds.{list_all-append}
use Rattle.std.proofs.lemmas.List.Elements.{recursion_from_All}
use Rattle.clause_core.specs.declared.literal.Lit.{Lit}
use Rattle.clause_core.specs.Literal.{opposite}
use Rattle.clause_core.specs.Members.{has}
use Rattle.clause_core.specs.Truth.{literal_true, clause_true, all_true}
use Rattle.clause_derivation.specs.declared.chain.Chain.{Chain}
use Rattle.clause_derivation.specs.Derivation.{IsDerivation, EndsEmpty, singles}
use Rattle.cnf_emit.specs.Systems.{System}
use Rattle.sat_solver.specs.Answers.{IsCore}
use Rattle.inductive_check.specs.Certificates.{Refutes}
use Rattle.ic3_frames.specs.Induction.{IsInductive}

none_used : (used : List Lit) → AllByRecursion (λ l. has [] l ≡ true) used → used ≡ []
none_used [] h = refl
none_used (l ∷ ls) h = cc

-- the last chain is the empty clause
pub core_ends : (log : List Chain) (used : List Lit) (at : ℕ) → IsCore [] log used at → EndsEmpty log
core_ends log used at c = ap (λ k. option_map (λ (ch : Chain). ch.result) (slice_get log k)) place ∙ some_empty (slice_get log at) c.derived where
  place : length log - 1 ≡ at
  place = omega (arith, c.last)

  none : used ≡ []
  none = none_used used (recursion_from_All (λ l. has [] l ≡ true) used c.among)

  some_empty : (o : Option Chain) → IsSomeAnd o (λ ch. ch.result ≡ map opposite used) → option_map (λ (ch : Chain). ch.result) o ≡ Some []
  some_empty None h = absurd h
  some_empty (Some ch) h = ap Some (h ∙ ap (map opposite) none)

-- the law of derivations
abbrev pub Sound : Type 0
Sound = (clauses : List (List Lit)) (chains : List Chain) → IsDerivation clauses chains → EndsEmpty chains → (a : List Bool) → all_true a clauses ≡ true → ⊥

-- what satisfies a list and units after it satisfies both
with_one : (a : List Bool) (clauses : List (List Lit)) (l : Lit) → all_true a clauses ≡ true → literal_true a l ≡ true → all_true a (clauses ++ singles (l ∷ [])) ≡ true
with_one a clauses l h t = list_all-append (clause_true a) clauses (singles (l ∷ [])) ∙ and_from (all_true a clauses) ((literal_true a l || false) && true) h (ap (λ x. (x || false) && true) t)

with_two : (a : List Bool) (clauses : List (List Lit)) (l m : Lit) → all_true a clauses ≡ true → literal_true a l ≡ true → literal_true a m ≡ true → all_true a (clauses ++ singles (l ∷ m ∷ [])) ≡ true
with_two a clauses l m h t u = list_all-append (clause_true a) clauses (singles (l ∷ m ∷ [])) ∙ and_from (all_true a clauses) ((literal_true a l || false) && ((literal_true a m || false) && true)) h
    (ap (λ x. (x || false) && ((literal_true a m || false) && true)) t ∙ ap (λ x. (x || false) && true) u)

-- where both logs refute, there is neither a bad start nor a bad step
pub inductive_by : Sound → (s : System) → ((a : List Bool) → literal_true a (opposite s.bad) ≡ not (literal_true a s.bad)) → (start step : List Chain) → Refutes (s.start.clauses ++ [] ++ singles (s.bad ∷ [])) start → Refutes (s.step.clauses ++ [] ++ singles (opposite s.bad ∷ s.bad_next ∷ [])) step → IsInductive s
inductive_by sound s turned start step f g = record {
  starts = λ a b. sound (s.start.clauses ++ [] ++ singles (s.bad ∷ [])) start f.derived f.empty a
      (subst (λ cs. all_true a (cs ++ singles (s.bad ∷ [])) ≡ true) (sym (append-nil s.start.clauses)) (with_one a s.start.clauses s.bad b.start b.bad));
  steps = λ a b. sound (s.step.clauses ++ [] ++ singles (opposite s.bad ∷ s.bad_next ∷ [])) step g.derived g.empty a
      (subst (λ cs. all_true a (cs ++ singles (opposite s.bad ∷ s.bad_next ∷ [])) ≡ true) (sym (append-nil s.step.clauses))
      (with_two a s.step.clauses (opposite s.bad) s.bad_next b.step (turned a ∙ ap not b.before) b.after));
}

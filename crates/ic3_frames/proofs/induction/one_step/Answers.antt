use Rattle.std.proofs.Common.{◌≡◌, ◌∙◌, ◌++◌, ◌∷◌, [], refl, ap, sym, subst}
use Rattle.std.specs.Prelude.{not}
use Rattle.clause_core.specs.declared.literal.Lit.{Lit}
use Rattle.clause_core.specs.Formula.{Formula}
use Rattle.clause_core.specs.Literal.{opposite}
use Rattle.clause_core.specs.Truth.{literal_true}
use Rattle.clause_derivation.specs.Derivation.{singles}
use Rattle.inductive_check.specs.Certificates.{Refutes}
use Rattle.ic3_frames.proofs.RefuteLemmas.{inductive_by}
use Rattle.ic3_frames.proofs.induction.one_step.Goals as goal

pub returns-clause-exact : goal.returns-clause-exact
returns-clause-exact c =
    let s = c.args.system.now in
    let start = c.in-Derived.log in
    let step = c.in-Derived-2.log in
    let turn : c.negated.result ≡ opposite s.bad = c.negated.ensures.value ∙ ap (λ (l : Lit). opposite l) c.bad-2.ensures.value in
    let first = rw c.in-Derived.is at c.in_ok-log.ensures in
    let second = rw c.in-Derived-2.is at c.in_ok-log-2.ensures in (
      λ t. inductive_by c.derivations_hold.ensures.refuted s
          (λ a. ap (λ (l : Lit). literal_true a l) (sym turn) ∙ c.negated.ensures.turned a ∙ ap (λ (l : Lit). not (literal_true a l)) c.bad-2.ensures.value)
          start step
          (subst (λ (f : Formula). Refutes (f.clauses ++ [] ++ singles (s.bad ∷ [])) start) c.start.ensures.value
          (subst (λ (l : Lit). Refutes (c.start.result.now.clauses ++ [] ++ singles (l ∷ [])) start) c.bad.ensures.value first))
          (subst (λ (f : Formula). Refutes (f.clauses ++ [] ++ singles (opposite s.bad ∷ s.bad_next ∷ [])) step) c.step.ensures.value
          (subst (λ (l : Lit). Refutes (c.step.result.now.clauses ++ [] ++ singles (opposite s.bad ∷ l ∷ [])) step) c.bad_next.ensures.value
          (subst (λ (l : Lit). Refutes (c.step.result.now.clauses ++ [] ++ singles (l ∷ c.bad_next.result ∷ [])) step) turn second))),
      λ i. refl,
    )

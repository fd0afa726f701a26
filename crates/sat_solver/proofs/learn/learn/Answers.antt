use Rattle.std.proofs.Common.{◌≡◌, ◌∙◌, ◌+◌, List, ℕ, sym, ap, subst, length}
use Rattle.std.specs.Prelude.{IsSomeAnd, slice_get}
use Rattle.clause_core.specs.declared.literal.Lit.{Lit}
use Rattle.clause_derivation.specs.declared.chain.Chain.{Chain}
use Rattle.clause_core.specs.Members.{NoneTwice}
use Rattle.sat_solver.specs.Answers.{AreOpposites, IsAnswer}
use Rattle.sat_solver.proofs.SolverLemmas.{is_core}
use Rattle.sat_solver.proofs.learn.learn.Goals as goal

-- the chain at the place that the log's length was
at_place : (log : List Chain) (c d : List Lit) (n m : ℕ) → n ≡ m → d ≡ c → IsSomeAnd (slice_get log m) (λ ch. ch.result ≡ c) → IsSomeAnd (slice_get log n) (λ ch. ch.result ≡ d)
at_place log c d n m e f h = subst (λ k. IsSomeAnd (slice_get log k) (λ (ch : Chain). ch.result ≡ d)) (sym e) (subst (λ x. IsSomeAnd (slice_get log m) (λ (ch : Chain). ch.result ≡ x)) (sym f) h)

pub returns-then-branch-clause-answer : goal.returns-then-branch-clause-answer
returns-then-branch-clause-answer c =
    let lits = c.items-then-branch.result.now in
    subst (IsAnswer c.args.cnf.now c.args.assumptions.now c.explain.new.log) (sym c.in_ok-verdict.ensures)
    (is_core c.args.assumptions.now c.explain.new.log lits (length c.items-place.result.now)
    (subst (AreOpposites c.args.assumptions.now) (c.items.ensures ∙ sym c.items-then-branch.ensures) (c.in_ok-are_opposites.ensures.opposites c.if-branch.true))
    (subst NoneTwice (sym c.items-then-branch.ensures) c.in_ok-learned.ensures.once)
    (ap (λ n. n + 1) (ap length c.items-place.ensures) ∙ sym c.in_ok-learned.ensures.added.0)
    (at_place c.explain.new.log c.in_ok-learned.learned lits (length c.items-place.result.now) (length c.args.log.now) (ap length c.items-place.ensures) c.items-then-branch.ensures c.in_ok-learned.ensures.added.1))

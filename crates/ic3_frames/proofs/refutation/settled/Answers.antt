use Rattle.std.proofs.Common.{◌∙◌, List, length, ap, sym, subst}
use Rattle.clause_core.specs.Formula.{Formula}
use Rattle.clause_derivation.specs.declared.chain.Chain.{Chain}
use Rattle.clause_derivation.specs.Derivation.{IsDerivation, last_result}
use Rattle.ic3_frames.proofs.RefuteLemmas.{core_ends}
use Rattle.ic3_frames.proofs.refutation.settled.Goals as goal

pub returns : goal.returns
returns c =
    let core = rw c.in-Core.is at c.in_ok-a.ensures.core in
    let given = c.args.solver.now.cnf.clauses in
    let log = c.solve.new.self.log in
    let derived : IsDerivation given log = subst (λ (f : Formula). IsDerivation f.clauses log) c.in_ok-a.ensures.cnf c.in_ok-a.ensures.derivation in
    record {
      derived = c.in_ok-log-in-Core.ensures.derivation given
          (ap length (sym (c.clauses-clauses.ensures.items ∙ ap (λ (f : Formula). f.clauses) (c.cnf.ensures.value ∙ c.in_ok-a.ensures.cnf))))
          (subst (IsDerivation given) (sym c.log.ensures.value) derived);
      empty = c.in_ok-log-in-Core.ensures.last ∙ ap (λ (xs : List Chain). last_result xs) c.log.ensures.value ∙ core_ends log c.in-Core.used c.in-Core.at core;
    }

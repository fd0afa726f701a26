use Rattle.std.proofs.Common.{List, Bool, subst}
use Rattle.std.specs.Prelude.{IsTrue}
use Rattle.std.specs.List.{list_all}
use Rattle.clause_core.specs.Truth.{all_true, literal_true}
use Rattle.sat_solver.specs.Answers.{Reasoning, IfCore}
use Rattle.sat_solver.proofs.SolverLemmas.{answer_refutes}
use Rattle.sat_solver.proofs.solver.Solver.solve.Goals as goal

pub returns-clause-refuted : goal.returns-clause-refuted
returns-clause-refuted c =
    subst (λ (s : Reasoning). IfCore c.in_ok-verdict.verdict (λ used at. (a : List Bool) → IsTrue (all_true a s.cnf.clauses) → IsTrue (list_all (literal_true a) used) → ⊥)) c.self.view_is
    (answer_refutes c.in_ok-verdict.verdict c.self.inside.cnf c.args.assumptions.now c.run.new.log c.in_ok-verdict.ensures.answer
    (λ a t. c.derivations_hold.ensures.sound a c.self.inside.cnf.clauses c.run.new.log t c.in_ok-verdict.ensures.solver.derivation))

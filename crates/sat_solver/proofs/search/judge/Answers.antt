use Rattle.std.proofs.Common.{◌∙◌, List, subst}
use Rattle.std.specs.Prelude.{IsTrue}
use Rattle.clause_core.specs.declared.literal.Lit.{Lit}
use Rattle.clause_core.specs.Truth.{all_true}
use Rattle.sat_solver.proofs.SolverLemmas.{assumptions_true}
use Rattle.sat_solver.proofs.search.judge.Goals as goal

pub returns-in-None : goal.returns-in-None
returns-in-None c chains = (
  record {
    clauses_true = subst (λ (cs : List (List Lit)). IsTrue (all_true c.in_ok-a.a cs)) c.clauses.ensures.items c.in-None.ensures.none;
    assumptions_true = assumptions_true c.in_ok-a.a c.args.trail.now.entries c.args.assumptions.now c.requires.assumed c.in_ok-a.ensures.keeps;
  },
  c.in_ok-a.ensures.length ∙ c.requires.variables,
)

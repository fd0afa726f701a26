use Rattle.std.proofs.Common.{◌∙◌, sym, subst}
use Rattle.clause_core.specs.Formula.{AreInRange}
use Rattle.inductive_check.proofs.OwnLemmas.{all_range}
use Rattle.inductive_check.proofs.refuting.steps_stay_clean.Goals as goal

pub refutes-requires-clause-more_fits : goal.refutes-requires-clause-more_fits
refutes-requires-clause-more_fits c =
    let s = c.args.system.now in
    subst (λ n. AreInRange n c.args.clauses.now) (sym (c.add_unit.ensures.variables ∙ c.assume_clean.ensures.variables))
    (all_range s.step.variables c.args.marks.now.variables s.current c.args.clauses.now c.requires.room c.step.ensures.system.current_in_step c.requires.all)

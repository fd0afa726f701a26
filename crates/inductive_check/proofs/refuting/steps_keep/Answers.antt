use Rattle.std.proofs.Common.{◌≡◌, ◌∙◌, ◌*◌, ◌≤◌, length, ap, sym, subst, arith}
use Rattle.clause_core.specs.Formula.{AreInRange}
use Rattle.inductive_check.proofs.OwnLemmas.{own_short, all_range}
use Rattle.inductive_check.proofs.refuting.steps_keep.Goals as goal

pub add_renamed-requires-clause-room : goal.add_renamed-requires-clause-room
add_renamed-requires-clause-room c =
    let s = c.args.system.now in
    let few : length c.args.clause.now ≤ 2 * c.args.marks.now.variables = own_short s.step.variables c.args.marks.now.variables s.current c.args.clause.now c.requires.room c.current.ensures.system.current_in_step c.requires.own in
    let one : length c.assume_clean.new.marks.units ≡ 1 = ap length c.assume_clean.ensures.units in
    omega (arith, few, one, ap length c.items.ensures, c.assume_clean.ensures.variables)

pub refutes-requires-clause-more_fits : goal.refutes-requires-clause-more_fits
refutes-requires-clause-more_fits c =
    let s = c.args.system.now in
    subst (λ n. AreInRange n c.args.clauses.now) (sym (c.add_renamed.ensures.variables ∙ c.assume_clean.ensures.variables))
    (all_range s.step.variables c.args.marks.now.variables s.current c.args.clauses.now c.requires.room c.current.ensures.system.current_in_step c.requires.all)

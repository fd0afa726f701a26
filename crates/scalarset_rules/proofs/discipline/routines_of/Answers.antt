use Rattle.std.proofs.Common.{refl, ap, ◌∙◌}
use Rattle.scalarset_rules.specs.Rules.{first_break, routine_breaks}
use Rattle.scalarset_rules.specs.Verdicts.{first_routines}
use Rattle.scalarset_rules.proofs.ScanEquations.{fold_step}
use Rattle.scalarset_rules.proofs.discipline.routines_of.Goals as goal

pub loop-r-preserved : goal.loop-r-preserved
loop-r-preserved c =
    fold_step (λ x. first_break (routine_breaks c.args.all.now x)) (first_routines c.args.all.now) (λ x xs. refl) c.args.some.now c.loop-r.r-index c.r-item.result
    c.loop-r.first c.in_ok-more.more c.first_of-first.result c.loop-r-test.true c.r-item.is c.first_of-first.ensures
    (c.in_ok-more.ensures ∙ ap (λ x. first_break (routine_breaks c.args.all.now x)) c.get.ensures) c.loop-r.invariant

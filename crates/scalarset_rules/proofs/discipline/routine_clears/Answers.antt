use Rattle.std.proofs.Common.{refl, ap, ◌∙◌}
use Rattle.scalarset_rules.specs.declared.scan.Want.TheVariants as want
use Rattle.scalarset_rules.specs.Scanning.{first_in_body}
use Rattle.murphi_typed.specs.declared.protocol.Routine.{Routine}
use Rattle.scalarset_rules.specs.Verdicts.{first_routine_clears}
use Rattle.scalarset_rules.proofs.ScanEquations.{fold_step}
use Rattle.scalarset_rules.proofs.discipline.routine_clears.Goals as goal

pub loop-r-preserved : goal.loop-r-preserved
loop-r-preserved c =
    fold_step (λ (x : Routine). first_in_body want.Clear x.body) (first_routine_clears) (λ x xs. refl) c.args.all.now c.loop-r.r-index c.r-item.result
    c.loop-r.first c.scan_body.result c.first_of-first.result c.loop-r-test.true c.r-item.is c.first_of-first.ensures
    (c.scan_body.ensures ∙ ap (λ (x : Routine). first_in_body want.Clear x.body) c.get.ensures) c.loop-r.invariant

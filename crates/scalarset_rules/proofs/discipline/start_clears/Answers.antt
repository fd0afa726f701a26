use Rattle.std.proofs.Common.{refl}
use Rattle.scalarset_rules.specs.declared.scan.Want.TheVariants as want
use Rattle.scalarset_rules.specs.Scanning.{first_in_body}
use Rattle.murphi_typed.specs.declared.protocol.Start.{Start}
use Rattle.scalarset_rules.specs.Verdicts.{first_start_clears}
use Rattle.scalarset_rules.proofs.ScanEquations.{fold_step}
use Rattle.scalarset_rules.proofs.discipline.start_clears.Goals as goal

pub loop-a-preserved : goal.loop-a-preserved
loop-a-preserved c =
    fold_step (λ (x : Start). first_in_body want.Clear x.body) (first_start_clears) (λ x xs. refl) c.args.all.now c.loop-a.a-index c.a-item.result
    c.loop-a.first c.scan_body.result c.first_of-first.result c.loop-a-test.true c.a-item.is c.first_of-first.ensures c.scan_body.ensures c.loop-a.invariant

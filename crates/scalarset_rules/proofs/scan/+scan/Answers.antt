use Rattle.std.proofs.Common.{refl, ap, ◌∙◌}
use Rattle.murphi_typed.specs.declared.stmt.Arm.{Arm}
use Rattle.murphi_typed.specs.declared.stmt.Case.{Case}
use Rattle.scalarset_rules.specs.Rules.{sooner}
use Rattle.scalarset_rules.specs.Scanning.{own_break, first_inner, first_all, first_arms, first_cases}
use Rattle.scalarset_rules.proofs.ScanEquations.{fold_step}
use Rattle.scalarset_rules.proofs.scan.+scan.Goals as goal

pub scan_all-loop-s-preserved : goal.scan_all-loop-s-preserved
scan_all-loop-s-preserved t c =
    fold_step (λ s. sooner (own_break c.args.want c.args.inside s) (first_inner c.args.want c.args.inside s)) (first_all c.args.want c.args.inside) (λ s ss. refl) c.args.body.now c.loop-s.s-index c.s-item.result
    c.loop-s.first c.first_of-more.result c.first_of-first.result c.loop-s-test.true c.s-item.is c.first_of-first.ensures
    (c.first_of-more.ensures ∙ ap (λ o. sooner o c.scan-inner.result) c.own.ensures ∙ ap (sooner (own_break c.args.want c.args.inside c.s-item.result)) c.scan-inner.ensures) c.loop-s.invariant

pub scan_arms-loop-arm-preserved : goal.scan_arms-loop-arm-preserved
scan_arms-loop-arm-preserved t c =
    fold_step (λ (a : Arm). first_all c.args.want c.args.inside a.body) (first_arms c.args.want c.args.inside) (λ a rest. refl) c.args.arms.now c.loop-arm.arm-index c.arm-item.result
    c.loop-arm.first c.scan_all-more.result c.first_of-first.result c.loop-arm-test.true c.arm-item.is c.first_of-first.ensures
    (c.scan_all-more.ensures ∙ ap (first_all c.args.want c.args.inside) c.as_slice.ensures) c.loop-arm.invariant

pub scan_cases-loop-case-preserved : goal.scan_cases-loop-case-preserved
scan_cases-loop-case-preserved t c =
    fold_step (λ (a : Case). first_all c.args.want c.args.inside a.body) (first_cases c.args.want c.args.inside) (λ a rest. refl) c.args.cases.now c.loop-case.case-index c.case-item.result
    c.loop-case.first c.scan_all-more.result c.first_of-first.result c.loop-case-test.true c.case-item.is c.first_of-first.ensures
    (c.scan_all-more.ensures ∙ ap (first_all c.args.want c.args.inside) c.as_slice.ensures) c.loop-case.invariant

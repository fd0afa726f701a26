use Rattle.std.proofs.Common.{refl, ap, ◌∙◌}
use Rattle.scalarset_rules.specs.Rules.{first_break, node_breaks, top_scope}
use Rattle.murphi_typed.specs.declared.protocol.Rule.{Rule}
use Rattle.scalarset_rules.specs.Verdicts.{first_rules}
use Rattle.scalarset_rules.proofs.ScanEquations.{fold_step}
use Rattle.scalarset_rules.proofs.discipline.rules_of.Goals as goal

pub loop-r-preserved : goal.loop-r-preserved
loop-r-preserved c =
    fold_step (λ (x : Rule). first_break (node_breaks c.args.all.now (top_scope x.params) x.body)) (first_rules c.args.all.now) (λ x xs. refl) c.args.some.now c.loop-r.r-index c.r-item.result
    c.loop-r.first c.in_ok-more.more c.first_of-first.result c.loop-r-test.true c.r-item.is c.first_of-first.ensures (c.in_ok-more.ensures ∙ ap (λ ps. first_break (node_breaks c.args.all.now (top_scope ps) c.r-item.result.body)) c.as_slice.ensures) c.loop-r.invariant

use Rattle.std.proofs.Common.{refl, ap, ◌∙◌}
use Rattle.scalarset_rules.specs.Rules.{first_break, node_breaks, top_scope}
use Rattle.murphi_typed.specs.declared.protocol.Start.{Start}
use Rattle.scalarset_rules.specs.Verdicts.{first_starts}
use Rattle.scalarset_rules.proofs.ScanEquations.{fold_step}
use Rattle.scalarset_rules.proofs.discipline.starts_of.Goals as goal

pub loop-a-preserved : goal.loop-a-preserved
loop-a-preserved c =
    fold_step (λ (x : Start). first_break (node_breaks c.args.all.now (top_scope x.params) x.body)) (first_starts c.args.all.now) (λ x xs. refl) c.args.some.now c.loop-a.a-index c.a-item.result
    c.loop-a.first c.in_ok-more.more c.first_of-first.result c.loop-a-test.true c.a-item.is c.first_of-first.ensures (c.in_ok-more.ensures ∙ ap (λ ps. first_break (node_breaks c.args.all.now (top_scope ps) c.a-item.result.body)) c.as_slice.ensures) c.loop-a.invariant

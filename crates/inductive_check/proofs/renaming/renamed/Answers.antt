use Rattle.std.proofs.Common.{◌∙◌, ap, sym}
use Rattle.inductive_check.proofs.OwnLemmas.{renamed_next}
use Rattle.inductive_check.proofs.renaming.renamed.Goals as goal

pub loop-i-preserved : goal.loop-i-preserved
loop-i-preserved c =
    renamed_next c.args.current.now c.args.next.now c.args.l (record { code = 0 }) c.loop-i.i c.loop-i-test.true c.requires c.if-c-l.false
    (λ e. c.if-c-negated.false (e ∙ sym (ap (λ k. k.code) c.negated.ensures.value)))
    ∙ c.loop-i.invariant

use Rattle.bit_layout.specs.Coded.{may_start}
use Rattle.bit_gates.specs.Facts.{kept_legal}
use Rattle.bit_gates.proofs.ChoosingLemmas.{picked_more}
use Rattle.bit_gates.proofs.starts.any_start.Goals as goal

pub loop-at-preserved : goal.loop-at-preserved
loop-at-preserved c =
    picked_more _ _ _ _ (kept_legal c.args.machine.now) _ _ _ (may_start c.args.machine.now) c.args.bits.now c.args.choices.now c.loop-at.at _ c.index-choices-at.result c.loop-at-test.true c.index-choices-at.is c.loop-at.invariant c.may_start.ensures.keeps c.in_ok-one.ensures.holds c.with_choice.ensures.keeps c.in_ok-any.ensures.edge c.in_ok-any.ensures.value

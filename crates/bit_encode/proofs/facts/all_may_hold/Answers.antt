use Rattle.lemma_strengthen.specs.declared.formula.Formula.{Formula}
use Rattle.other_abstract.specs.Tests.{may_hold}
use Rattle.other_abstract.specs.Lists.{window_in}
use Rattle.bit_encode.proofs.FactLemmas.{all_tell_more}
use Rattle.bit_encode.proofs.facts.all_may_hold.Goals as goal

pub loop-formula-preserved : goal.loop-formula-preserved
loop-formula-preserved c =
    all_tell_more _ _ _ _ c.args.scene.now.cells.now _ _ _ (λ w (f : Formula). may_hold (window_in c.args.scene.now.window) w f.prefix f.body) c.args.formulas.now c.loop-formula.formula-index _ c.formula-item.result c.loop-formula-test.true c.formula-item.is
    c.loop-formula.invariant c.may_hold.ensures.keeps c.in_ok-one.ensures.tells c.both.ensures.keeps c.in_ok-all.ensures.edge c.in_ok-all.ensures.value

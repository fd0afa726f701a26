use Rattle.lemma_strengthen.specs.declared.formula.Formula.{Formula}
use Rattle.other_abstract.specs.Tests.{may_fail}
use Rattle.other_abstract.specs.Lists.{window_in}
use Rattle.bit_encode.proofs.FactLemmas.{any_tells_more}
use Rattle.bit_encode.proofs.facts.some_may_fail.Goals as goal

pub loop-formula-preserved : goal.loop-formula-preserved
loop-formula-preserved c =
    any_tells_more _ _ _ _ c.args.scene.now.cells.now _ _ _ (λ w (f : Formula). may_fail (window_in c.args.scene.now.window) w f.prefix f.body) c.args.formulas.now c.loop-formula.formula-index _ c.formula-item.result c.loop-formula-test.true c.formula-item.is
    c.loop-formula.invariant c.may_fail.ensures.keeps c.in_ok-one.ensures.tells c.either.ensures.keeps c.in_ok-any.ensures.edge c.in_ok-any.ensures.value

use Rattle.std.proofs.Common.{take}
use Rattle.lemma_strengthen.specs.declared.formula.Formula.{Formula}
use Rattle.other_abstract.specs.Tests.{may_fail}
use Rattle.other_abstract.specs.Lists.{window_in}
use Rattle.bit_encode.proofs.FactLemmas.{AnyTells}
use Rattle.bit_encode.proofs.facts.some_may_fail.Given as goal

abbrev pub invariant-loop-formula : goal.invariant-loop-formula
invariant-loop-formula l = AnyTells l.fn.circuit l.circuit l.scene.cells.now l.any (λ w (f : Formula). may_fail (window_in l.scene.window) w f.prefix f.body) (take l.formula-index l.formulas)

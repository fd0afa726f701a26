use Rattle.std.proofs.Common.{take}
use Rattle.lemma_strengthen.specs.declared.formula.Formula.{Formula}
use Rattle.other_abstract.specs.Tests.{may_hold}
use Rattle.other_abstract.specs.Lists.{window_in}
use Rattle.bit_encode.proofs.FactLemmas.{AllTell}
use Rattle.bit_encode.proofs.facts.all_may_hold.Given as goal

abbrev pub invariant-loop-formula : goal.invariant-loop-formula
invariant-loop-formula l = AllTell l.fn.circuit l.circuit l.scene.cells.now l.all (λ w (f : Formula). may_hold (window_in l.scene.window) w f.prefix f.body) (take l.formula-index l.formulas)

use Rattle.std.proofs.Common.{◌≡◌, drop}
use Rattle.other_abstract.specs.Lists.{window_in}
use Rattle.other_abstract.specs.Stepping.{all_may_hold}
use Rattle.other_abstract.proofs.stepping.all_may_hold.Given as goal

abbrev pub invariant-loop-formula : goal.invariant-loop-formula
invariant-loop-formula l =
    all_may_hold (window_in l.scene) l.scene.cells.now (drop l.formula-index l.formulas) ≡ all_may_hold (window_in l.scene) l.scene.cells.now l.formulas

use Rattle.std.proofs.Common.{◌≡◌, drop}
use Rattle.other_abstract.specs.Making.{long_formula}
use Rattle.other_abstract.proofs.making.first_long_formula.Given as goal

abbrev pub invariant-loop-formula : goal.invariant-loop-formula
invariant-loop-formula l = long_formula l.m (drop l.formula-index l.formulas) ≡ long_formula l.m l.formulas

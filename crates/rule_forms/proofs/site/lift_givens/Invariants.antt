use Rattle.std.proofs.Common.{◌≡◌, ◌++◌, map, drop}
use Rattle.rule_parts.specs.Layers.{seen_given}
use Rattle.rule_forms.specs.Words.{lifted_in}
use Rattle.rule_forms.proofs.site.lift_givens.Given as goal

abbrev pub invariant-loop-one : goal.invariant-loop-one
invariant-loop-one l = map seen_given l.out ++ map (lifted_in l.frame) (map seen_given (drop l.one-index l.all)) ≡ map (lifted_in l.frame) (map seen_given l.all)

use Rattle.std.proofs.Common.{◌≡◌, ◌++◌, map, drop}
use Rattle.murphi_typed.specs.declared.protocol.Parameter.{Parameter}
use Rattle.rule_families.proofs.key.types_of.Given as goal

abbrev pub invariant-loop-p : goal.invariant-loop-p
invariant-loop-p l = l.out ++ map (λ (p : Parameter). p.over) (drop l.p-index l.params) ≡ map (λ (p : Parameter). p.over) l.params

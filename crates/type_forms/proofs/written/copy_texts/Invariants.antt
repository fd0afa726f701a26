use Rattle.std.proofs.Common.{◌≡◌, map, take}
use Rattle.murphi_ast.specs.declared.expr.Named.{Named}
use Rattle.type_forms.proofs.written.copy_texts.Given as goal

abbrev pub invariant-loop-one : goal.invariant-loop-one
invariant-loop-one l = l.out ≡ map (λ (n : Named). n.name) (take l.one-index l.names)

use Rattle.std.proofs.Common.{◌≡◌, Bool, ◌||◌, drop}
use Rattle.std.specs.List.{list_any}
use Rattle.term_core.specs.Values.{arith}
use Rattle.other_abstract.specs.declared.value.AbsValue.{AbsValue}
use Rattle.other_abstract.specs.declared.value.AbsValue.TheVariants.{Number}
use Rattle.other_abstract.specs.Windows.{number}
use Rattle.other_abstract.proofs.combine.calculate_with.Given as goal

abbrev pub invariant-loop-right : goal.invariant-loop-right
invariant-loop-right l =
    (p : AbsValue → Bool) → (list_any p l.out || list_any (λ b. p (Number (arith l.op (number l.left) (number b)))) (drop l.right-index l.rights))
    ≡ (list_any p l.fn.out || list_any (λ b. p (Number (arith l.op (number l.left) (number b)))) l.rights)

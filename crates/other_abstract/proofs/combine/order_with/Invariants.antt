use Rattle.std.proofs.Common.{◌≡◌, Bool, ◌||◌, drop}
use Rattle.std.specs.Prelude.{int_lt}
use Rattle.std.specs.List.{list_any}
use Rattle.other_abstract.specs.declared.value.AbsValue.{AbsValue}
use Rattle.other_abstract.specs.declared.value.AbsValue.TheVariants.{Truth}
use Rattle.other_abstract.specs.Windows.{number}
use Rattle.other_abstract.proofs.combine.order_with.Given as goal

abbrev pub invariant-loop-right : goal.invariant-loop-right
invariant-loop-right l =
    (p : AbsValue → Bool) → (list_any p l.out || list_any (λ b. p (Truth (int_lt (number l.left) (number b)))) (drop l.right-index l.rights))
    ≡ (list_any p l.fn.out || list_any (λ b. p (Truth (int_lt (number l.left) (number b)))) l.rights)

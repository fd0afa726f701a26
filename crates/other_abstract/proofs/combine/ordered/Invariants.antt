use Rattle.std.proofs.Common.{◌≡◌, Bool, ◌||◌, drop}
use Rattle.std.specs.Prelude.{int_lt}
use Rattle.std.specs.List.{list_any}
use Rattle.other_abstract.specs.declared.value.AbsValue.{AbsValue}
use Rattle.other_abstract.specs.declared.value.AbsValue.TheVariants.{Truth}
use Rattle.other_abstract.specs.Windows.{number}
use Rattle.other_abstract.proofs.combine.ordered.Given as goal

abbrev pub invariant-loop-left : goal.invariant-loop-left
invariant-loop-left l =
    (p : AbsValue → Bool) → (list_any p l.out || list_any (λ a. list_any (λ b. p (Truth (int_lt (number a) (number b)))) l.rights) (drop l.left-index l.lefts))
    ≡ list_any (λ a. list_any (λ b. p (Truth (int_lt (number a) (number b)))) l.rights) l.lefts

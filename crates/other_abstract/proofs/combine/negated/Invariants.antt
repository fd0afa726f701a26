use Rattle.std.proofs.Common.{◌≡◌, Bool, not, ◌||◌, drop}
use Rattle.std.specs.List.{list_any}
use Rattle.other_abstract.specs.declared.value.AbsValue.{AbsValue}
use Rattle.other_abstract.specs.declared.value.AbsValue.TheVariants.{Truth}
use Rattle.other_abstract.specs.Windows.{truth}
use Rattle.other_abstract.proofs.combine.negated.Given as goal

abbrev pub invariant-loop-value : goal.invariant-loop-value
invariant-loop-value l =
    (p : AbsValue → Bool) → (list_any p l.out || list_any (λ x. p (Truth (not (truth x)))) (drop l.value-index l.values))
    ≡ list_any (λ x. p (Truth (not (truth x)))) l.values

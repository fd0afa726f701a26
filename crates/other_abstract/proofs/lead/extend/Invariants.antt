use Rattle.std.proofs.Common.{◌≡◌, Bool, ◌||◌, drop}
use Rattle.std.specs.List.{list_any}
use Rattle.other_abstract.specs.declared.lead.Lead.{Lead}
use Rattle.other_abstract.specs.Lists.{led_after}
use Rattle.other_abstract.proofs.lead.extend.Given as goal

abbrev pub invariant-loop-value : goal.invariant-loop-value
invariant-loop-value l =
    (q : Lead → Bool)
    → (list_any q l.out.items || list_any (λ v. q (led_after l.lead v)) (drop l.value-index l.values))
    ≡ (list_any q l.fn.out.items || list_any (λ v. q (led_after l.lead v)) l.values)

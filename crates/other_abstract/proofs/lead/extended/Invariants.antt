use Rattle.std.proofs.Common.{◌≡◌, Bool, ◌||◌, drop}
use Rattle.std.specs.List.{list_any}
use Rattle.other_abstract.specs.declared.lead.Lead.{Lead}
use Rattle.other_abstract.specs.Lists.{led_after}
use Rattle.other_abstract.proofs.lead.extended.Given as goal

abbrev pub invariant-loop-lead : goal.invariant-loop-lead
invariant-loop-lead l =
    (q : Lead → Bool)
    → (list_any q l.out.items || list_any (λ r. list_any (λ v. q (led_after r v)) l.values) (drop l.lead-index l.leads))
    ≡ list_any (λ r. list_any (λ v. q (led_after r v)) l.values) l.leads

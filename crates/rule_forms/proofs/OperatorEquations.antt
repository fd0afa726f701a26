-- Operators, in terms of the parts that code reads.
use Rattle.std.proofs.Common.{◌≡◌}
use Rattle.rule_forms.proofs.DemandForms.{seen-Nothing, seen-One}
use Rattle.rule_forms.proofs.ListLemmas.{mapped_joined, after_after, nothing_after}

pub ruleset operators = (mapped_joined, after_after, nothing_after, seen-Nothing, seen-One)

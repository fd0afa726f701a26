-- Reads and arguments, in terms of the parts that code reads.
use Rattle.std.proofs.Common.{◌≡◌}
use Rattle.rule_forms.proofs.DemandForms.{seen-Nothing, seen-One, shown-Only, shown-At}
use Rattle.rule_forms.proofs.SiteEquations.{given-Filled, given-Standing}
use Rattle.rule_forms.proofs.ListLemmas.{mapped_joined, after_after, nothing_after}

pub ruleset reading = (mapped_joined, after_after, nothing_after, seen-Nothing, seen-One, shown-Only, shown-At, given-Filled, given-Standing)

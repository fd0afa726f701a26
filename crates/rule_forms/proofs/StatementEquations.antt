-- Statements, in terms of the parts that code reads.
use Rattle.std.proofs.Common.{◌≡◌}
use Rattle.rule_forms.proofs.DemandForms.{seen-Nothing, seen-One, layer-Under, layer-Nothing, layer-Then, layer-Written, layer-Left, layer-Kept, layer-Closed, layer-Back, shown-Only, shown-At, shown-Cleared, shown-Undefined, taken_straight, taken_open}
use Rattle.rule_forms.proofs.ListLemmas.{mapped_joined, after_after, nothing_after}

pub ruleset statements = (after_after, nothing_after, seen-Nothing, seen-One, layer-Under, layer-Nothing, layer-Then, layer-Written, layer-Left, layer-Kept, layer-Closed, layer-Back, shown-Only, shown-At, shown-Cleared, shown-Undefined, taken_straight, taken_open)

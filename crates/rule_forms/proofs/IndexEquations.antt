-- No indices, in terms of the parts that code reads.
use Rattle.std.proofs.Common.{◌≡◌}
use Rattle.rule_forms.proofs.DemandForms.{seen-Nothing, seen-One}

pub ruleset indexing = (seen-Nothing, seen-One)

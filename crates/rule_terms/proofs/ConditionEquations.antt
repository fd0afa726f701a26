-- Conditions, in terms of the parts that code reads.
use Rattle.rule_terms.proofs.ListLemmas.{after_after, nothing_after, mapped_joined}
use Rattle.rule_terms.proofs.DemandEquations.{seen-Nothing, seen-One}

pub ruleset conditions = (after_after, nothing_after, mapped_joined, seen-Nothing, seen-One)

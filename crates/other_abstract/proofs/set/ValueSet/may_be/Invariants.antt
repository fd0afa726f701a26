use Rattle.std.proofs.Common.{◌≡◌, drop}
use Rattle.std.specs.List.{list_any}
use Rattle.other_abstract.specs.Tests.{passes}
use Rattle.other_abstract.proofs.set.ValueSet.may_be.Given as goal

abbrev pub invariant-loop-value : goal.invariant-loop-value
invariant-loop-value l = list_any (passes l.wanted) (drop l.value-index l.value-items) ≡ list_any (passes l.wanted) l.self

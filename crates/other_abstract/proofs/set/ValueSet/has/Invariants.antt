use Rattle.std.proofs.Common.{◌≡◌, drop}
use Rattle.std.specs.List.{list_any}
use Rattle.other_abstract.specs.Windows.{same_value}
use Rattle.other_abstract.proofs.set.ValueSet.has.Given as goal

abbrev pub invariant-loop-one : goal.invariant-loop-one
invariant-loop-one l = list_any (same_value l.value) (drop l.one-index l.one-items) ≡ list_any (same_value l.value) l.self

use Rattle.std.proofs.Common.{◌≡◌, ◌++◌, drop}
use Rattle.scalarset_rules.specs.Seen.{scope_at}
use Rattle.scalarset_rules.specs.Pieces.{list_parts}
use Rattle.scalarset_rules.proofs.place.add_parts.Given as goal

abbrev pub invariant-loop-selector : goal.invariant-loop-selector
invariant-loop-selector l = (l.out ++ list_parts (scope_at l.level.depth l.level.bound l.stands) (drop l.selector-index l.selectors)) ≡ (l.fn.front ++ list_parts (scope_at l.level.depth l.level.bound l.stands) l.selectors)

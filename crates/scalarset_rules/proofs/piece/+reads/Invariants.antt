use Rattle.std.proofs.Common.{◌≡◌, ◌++◌, map, drop}
use Rattle.scalarset_rules.specs.Seen.{scope_at, seen_piece}
use Rattle.scalarset_rules.specs.Pieces.{list_chain, list_indices, list_arguments}
use Rattle.scalarset_rules.proofs.piece.+reads.Given as goal

abbrev pub invariant-chain-loop-link : goal.invariant-chain-loop-link
invariant-chain-loop-link l = (map seen_piece l.out ++ list_chain (scope_at l.level.depth l.level.bound l.stands) (drop l.link-index l.rest)) ≡ list_chain (scope_at l.level.depth l.level.bound l.stands) l.rest

abbrev pub invariant-selected-loop-selector : goal.invariant-selected-loop-selector
invariant-selected-loop-selector l = (map seen_piece l.out ++ list_indices (scope_at l.level.depth l.level.bound l.stands) (drop l.selector-index l.selectors)) ≡ list_indices (scope_at l.level.depth l.level.bound l.stands) l.selectors

abbrev pub invariant-argument_list-loop-arg : goal.invariant-argument_list-loop-arg
invariant-argument_list-loop-arg l = (map seen_piece l.out ++ list_arguments (scope_at l.level.depth l.level.bound l.stands) (drop l.arg-index l.args)) ≡ list_arguments (scope_at l.level.depth l.level.bound l.stands) l.args

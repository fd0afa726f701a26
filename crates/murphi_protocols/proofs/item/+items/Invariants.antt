use Rattle.std.proofs.Common.{◌≤◌, ◌<◌, ◌+◌, ◌*◌, ◌-◌, length, ℕ, List, [], ◌∷◌, ◌++◌}
use Rattle.murphi_grammar.specs.Names as n
use Rattle.murphi_grammar.specs.Parts.{Part, ◌▸◌, ◌∥◌, one, form, many}
use Rattle.murphi_grammar.specs.Pieces.{cut, piece, piece_build}
use Rattle.murphi_expressions.specs.Says.{SoFar, itself}
use Rattle.murphi_protocols.specs.Parts.{after, added, GapsSoFar}
use Rattle.murphi_protocols.proofs.item.+items.Given as goal

abbrev pub decreases-items : goal.decreases-items
decreases-items l = 8 * (length l.tokens.now - l.at) + 4

abbrev pub decreases-optional_item : goal.decreases-optional_item
decreases-optional_item l = 8 * (length l.tokens.now - l.at) + 3

abbrev pub decreases-item : goal.decreases-item
decreases-item l = 8 * (length l.tokens.now - l.at) + 2

abbrev pub decreases-group : goal.decreases-group
decreases-group l = 8 * (length l.tokens.now - l.at) + 1

abbrev pub decreases-more_items : goal.decreases-more_items
decreases-more_items l = 8 * (length l.tokens.now - l.at) + 1

abbrev pub invariant-more_items-loop-alloc : goal.invariant-more_items-loop-alloc
invariant-more_items-loop-alloc l = record {
  so_far : SoFar (piece n.MoreItems) (piece_build n.MoreItems) (cut n.MoreItems) (after (added l.fn.first)) l.room l.tokens l.at l.next l.items;
  on : l.at ≤ l.next;
  within : l.next ≤ length l.tokens;
}

abbrev pub decreases-more_items-loop-alloc : goal.decreases-more_items-loop-alloc
decreases-more_items-loop-alloc l = length l.tokens - l.next

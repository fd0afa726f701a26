use Rattle.std.proofs.Common.{◌≡◌, ◌++◌, ◌+◌, ◌*◌, length, map, reverse, drop}
use Rattle.scalarset_rules.specs.Accesses.{opened_in}
use Rattle.scalarset_rules.specs.Seen.{seen_access, seen_piece, by_call}
use Rattle.scalarset_rules.specs.Pieces.{opened_pieces}
use Rattle.scalarset_rules.proofs.opened.+opening.Given as goal

abbrev pub invariant-open_all-loop-piece : goal.invariant-open_all-loop-piece
invariant-open_all-loop-piece l = (map seen_access l.out ++ by_call l.by (opened_pieces (opened_in (reverse l.routines)) l.depth (map seen_piece (drop l.piece-index l.pieces)))) ≡ by_call l.by (opened_pieces (opened_in (reverse l.routines)) l.depth (map seen_piece l.pieces))

abbrev pub decreases-open_all : goal.decreases-open_all
decreases-open_all l = length l.routines.now * 3 + 2

abbrev pub decreases-open_one : goal.decreases-open_one
decreases-open_one l = length l.routines.now * 3 + 1

abbrev pub decreases-enter : goal.decreases-enter
decreases-enter l = length l.routines.now * 3

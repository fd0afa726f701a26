use Rattle.std.proofs.Common.{◌≡◌, drop}
use Rattle.std.specs.List.{list_any}
use Rattle.other_abstract.specs.Lists.{window_in}
use Rattle.other_abstract.specs.Stepping.{piece_may_fail}
use Rattle.other_abstract.proofs.starting.pieces_may_fail.Given as goal

abbrev pub invariant-loop-piece : goal.invariant-loop-piece
invariant-loop-piece l =
    list_any (piece_may_fail (window_in l.kept) (window_in l.scene) l.pattern) (drop l.piece-index l.pieces)
    ≡ list_any (piece_may_fail (window_in l.kept) (window_in l.scene) l.pattern) l.pieces

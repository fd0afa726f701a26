use Rattle.std.proofs.Common.{ℕ, ◌<◌, ◌≤◌, get_or}
use Rattle.term_core.specs.declared.machine.Piece.{Piece}
use Rattle.term_rows.proofs.opening.made.Given as goal

abbrev pub invariant-loop-piece : goal.invariant-loop-piece
invariant-loop-piece l = (k : ℕ) (d : Piece) → k < l.piece-index → (get_or l.fn.pieces k d).binders ≤ l.length

use Rattle.std.proofs.Common.{◌≡◌, ◌++◌, drop, map}
use Rattle.lemma_strengthen.specs.Opening.{formula_of}
use Rattle.lemma_strengthen.proofs.normal.formulas.Given as goal

abbrev pub invariant-loop-piece : goal.invariant-loop-piece
invariant-loop-piece l = l.out ++ map (formula_of l.kind l.length) (drop l.piece-index l.pieces) ≡ map (formula_of l.kind l.length) l.pieces

use Rattle.std.proofs.Common.{◌≡◌, ◌+◌, drop}
use Rattle.rule_pieces.specs.Around.{binders_in}
use Rattle.rule_pieces.proofs.piece.binders.Given as goal

abbrev pub invariant-loop-a : goal.invariant-loop-a
invariant-loop-a l = l.count + binders_in (drop l.a-index l.around) ≡ binders_in l.around

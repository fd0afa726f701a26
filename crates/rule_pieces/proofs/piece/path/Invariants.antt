use Rattle.std.proofs.Common.{◌≡◌, ◌++◌, drop}
use Rattle.rule_inline.specs.Demands.{negated}
use Rattle.rule_pieces.specs.Around.{lefts_in}
use Rattle.rule_pieces.proofs.piece.path.Given as goal

abbrev pub invariant-loop-at : goal.invariant-loop-at
invariant-loop-at l = l.out ++ negated (lefts_in (drop l.at l.around)) ≡ l.fn.front ++ negated (lefts_in l.around)

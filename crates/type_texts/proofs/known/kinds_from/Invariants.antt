use Rattle.std.proofs.Common.{◌≡◌, take, drop}
use Rattle.type_texts.proofs.known.kinds_from.Given as goal

abbrev pub invariant-loop-one : goal.invariant-loop-one
invariant-loop-one l = l.out ≡ take l.one-index (drop l.first l.all)

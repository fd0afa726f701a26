use Rattle.std.proofs.Common.{take}
use Rattle.other_abstract.specs.Lists.{window_in}
use Rattle.bit_starts.proofs.LeaveLemmas.{AnySettles}
use Rattle.bit_starts.proofs.leave.has_settled.Given as goal

abbrev pub invariant-loop-value : goal.invariant-loop-value
invariant-loop-value l = AnySettles l.fn.circuit l.circuit l.any (window_in l.kept) l.family l.to (take l.value-index l.values)

use Rattle.std.proofs.Common.{arith}
use Rattle.other_abstract.proofs.MakingLemmas.{sums_done}
use Rattle.other_abstract.proofs.making.count_cells.Goals as goal

pub returns : goal.returns
returns c = sums_done c.args.nodes c.args.families.now c.loop-family.family-index c.loop-family.sum (omega arith) c.loop-family.invariant.0 c.loop-family.invariant.1

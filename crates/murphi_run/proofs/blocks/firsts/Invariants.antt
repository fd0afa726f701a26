use Rattle.std.proofs.Common.{◌≡◌, ◌++◌, drop}
use Rattle.murphi_run.specs.Blocks.{firsts_from}
use Rattle.murphi_run.proofs.blocks.firsts.Given as goal

abbrev pub invariant-loop-one : goal.invariant-loop-one
invariant-loop-one l = l.out ++ firsts_from l.nodes l.next (drop l.one-index l.all) ≡ firsts_from l.nodes l.fn.first l.all

use Rattle.std.proofs.Common.{◌≡◌, ◌+◌, drop}
use Rattle.murphi_run.specs.Blocks.{sizes}
use Rattle.murphi_run.proofs.blocks.sizes.Given as goal

abbrev pub invariant-loop-one : goal.invariant-loop-one
invariant-loop-one l = l.count + sizes l.nodes (drop l.one-index l.all) ≡ sizes l.nodes l.all

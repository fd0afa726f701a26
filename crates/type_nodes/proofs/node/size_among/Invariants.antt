use Rattle.std.proofs.Common.{◌≡◌, drop}
use Rattle.murphi_types.specs.Texts.{size_among}
use Rattle.type_nodes.proofs.node.size_among.Given as goal

abbrev pub invariant-loop-one : goal.invariant-loop-one
invariant-loop-one l = size_among l.node (drop l.one-index l.all) ≡ size_among l.node l.all

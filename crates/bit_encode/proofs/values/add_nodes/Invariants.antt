use Rattle.std.proofs.Common.{◌≡◌, ◌++◌, map, take}
use Rattle.other_abstract.specs.declared.value.AbsValue.TheVariants.{Node}
use Rattle.bit_encode.proofs.values.add_nodes.Given as goal

abbrev pub invariant-loop-node : goal.invariant-loop-node
invariant-loop-node l = l.out.items ≡ l.fn.out.items ++ map Node (take l.node-index l.nodes)

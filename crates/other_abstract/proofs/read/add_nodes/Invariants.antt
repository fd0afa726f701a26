use Rattle.std.proofs.Common.{◌≡◌, Bool, ◌||◌, map, drop, [], ◌∷◌, ◌++◌}
use Rattle.std.specs.List.{list_any}
use Rattle.other_abstract.specs.declared.node.AbsNode.TheVariants.{Other}
use Rattle.other_abstract.specs.declared.value.AbsValue.{AbsValue}
use Rattle.other_abstract.specs.declared.value.AbsValue.TheVariants.{Node}
use Rattle.other_abstract.proofs.read.add_nodes.Given as goal

abbrev pub invariant-loop-node : goal.invariant-loop-node
invariant-loop-node l =
    (p : AbsValue → Bool)
    → (list_any p l.out || list_any p (map Node (drop l.node-index l.nodes ++ Other ∷ [])))
    ≡ (list_any p l.fn.out || list_any p (map Node (l.nodes ++ Other ∷ [])))

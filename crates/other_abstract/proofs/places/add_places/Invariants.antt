use Rattle.std.proofs.Common.{◌≡◌, ◌++◌, List, map, drop}
use Rattle.other_abstract.specs.declared.node.AbsNode.{AbsNode}
use Rattle.other_abstract.proofs.places.add_places.Given as goal

abbrev pub invariant-loop-list : goal.invariant-loop-list
invariant-loop-list l =
    l.out.items ++ map (λ (at : List AbsNode). record { family = l.family; at = at }) (drop l.list-index l.lists)
    ≡ l.fn.out.items ++ map (λ (at : List AbsNode). record { family = l.family; at = at }) l.lists

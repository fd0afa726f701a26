use Rattle.std.proofs.Common.{◌≡◌, ◌+◌, ◌-◌, ◌*◌, ◌++◌, ◌∷◌, [], max}
use Rattle.std.specs.List.{flat_map}
use Rattle.term_core.specs.Nodes.{nodes, nodes_from}
use Rattle.other_abstract.specs.declared.node.AbsNode.TheVariants.{Kept, Fired}
use Rattle.other_abstract.specs.Patterns.{patterns_after}
use Rattle.other_abstract.proofs.patterns.+patterns.Given as goal

abbrev pub invariant-add_kept-loop-node : goal.invariant-add_kept-loop-node
invariant-add_kept-loop-node l =
    (l.out.items ++ flat_map (λ k. patterns_after l.kept l.fired l.left (l.fn.front ++ Kept k ∷ [])) (nodes_from (l.node + 1) (l.kept - l.node))
    ≡ l.fn.out.items ++ flat_map (λ k. patterns_after l.kept l.fired l.left (l.fn.front ++ Kept k ∷ [])) (nodes l.kept))
    × (l.front ≡ l.fn.front)

abbrev pub invariant-add_fired-loop-node : goal.invariant-add_fired-loop-node
invariant-add_fired-loop-node l =
    (l.out.items ++ flat_map (λ k. patterns_after l.kept (max l.fired k) l.left (l.fn.front ++ Fired k ∷ [])) (nodes_from (l.node + 1) (l.count - l.node))
    ≡ l.fn.out.items ++ flat_map (λ k. patterns_after l.kept (max l.fired k) l.left (l.fn.front ++ Fired k ∷ [])) (nodes l.count))
    × (l.front ≡ l.fn.front)

abbrev pub decreases-add_patterns : goal.decreases-add_patterns
decreases-add_patterns a = 2 * a.left

abbrev pub decreases-add_kept : goal.decreases-add_kept
decreases-add_kept a = 2 * a.left + 1

abbrev pub decreases-add_fired : goal.decreases-add_fired
decreases-add_fired a = 2 * a.left + 1

use Rattle.std.proofs.Common.{◌≡◌, ◌+◌, ◌-◌, ◌*◌, ◌++◌, ◌∷◌, []}
use Rattle.std.specs.List.{flat_map}
use Rattle.term_core.specs.declared.term.Term as t
use Rattle.term_core.specs.Nodes.{nodes_from}
use Rattle.term_core.specs.Values.{below}
use Rattle.lemma_strengthen.specs.OpenLists.{instances_after}
use Rattle.lemma_strengthen.proofs.instance.+choose.Given as goal

abbrev pub invariant-choose_next-loop-node : goal.invariant-choose_next-loop-node
invariant-choose_next-loop-node l =
    (l.out ++ flat_map (λ k. instances_after l.window l.body l.left (l.fn.names ++ t.Var k ∷ [])) (nodes_from l.node (l.window - l.node)) ≡ l.fn.out ++ flat_map (λ k. instances_after l.window l.body l.left (l.fn.names ++ t.Var k ∷ [])) (below l.window))
    × (l.names ≡ l.fn.names)

abbrev pub decreases-choose : goal.decreases-choose
decreases-choose a = 2 * a.left

abbrev pub decreases-choose_next : goal.decreases-choose_next
decreases-choose_next a = 2 * a.left + 1

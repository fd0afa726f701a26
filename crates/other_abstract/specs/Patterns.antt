-- The patterns of so many node parameters, in order: kept nodes first, then the fired ones so far and one more.
use Rattle.std.specs.Prelude.{ℕ, zero, suc, max, List, [], ◌∷◌, ◌++◌, map}
use Rattle.std.specs.List.{flat_map}
use Rattle.term_core.specs.declared.machine.TermRule.{TermRule}
use Rattle.term_core.specs.Firing.{node_parameters}
use Rattle.term_core.specs.Nodes.{nodes}
use Rattle.other_abstract.specs.declared.node.AbsNode.{AbsNode}
use Rattle.other_abstract.specs.declared.node.AbsNode.TheVariants.{Kept, Fired}

abbrev pub patterns_from : ℕ → ℕ → ℕ → List (List AbsNode)
patterns_from m fired zero = [] ∷ []
patterns_from m fired (suc count) =
    flat_map (λ k. map (λ p. Kept k ∷ p) (patterns_from m fired count)) (nodes m)
    ++ flat_map (λ k. map (λ p. Fired k ∷ p) (patterns_from m (max fired k) count)) (nodes (suc fired))

-- the patterns of a rule or start
abbrev pub patterns_of : ℕ → TermRule → List (List AbsNode)
patterns_of m r = patterns_from m 0 (node_parameters r)

-- the same after the nodes so far, as code goes over them
abbrev pub patterns_after : ℕ → ℕ → ℕ → List AbsNode → List (List AbsNode)
patterns_after m fired zero front = front ∷ []
patterns_after m fired (suc left) front =
    flat_map (λ k. patterns_after m fired left (front ++ Kept k ∷ [])) (nodes m)
    ++ flat_map (λ k. patterns_after m (max fired k) left (front ++ Fired k ∷ [])) (nodes (suc fired))

use Rattle.std.proofs.Common.{◌≡◌, ◌++◌, ◌∷◌, map, drop}
use Rattle.std.specs.List.{flat_map}
use Rattle.other_abstract.proofs.places.longer.Given as goal

abbrev pub invariant-loop-node : goal.invariant-loop-node
invariant-loop-node l =
    l.out.items ++ flat_map (λ n. map (λ rest. n ∷ rest) l.rests) (drop l.node-index l.nodes) ≡ flat_map (λ n. map (λ rest. n ∷ rest) l.rests) l.nodes

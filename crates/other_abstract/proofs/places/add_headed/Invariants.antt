use Rattle.std.proofs.Common.{◌≡◌, ◌++◌, ◌∷◌, map, drop}
use Rattle.other_abstract.proofs.places.add_headed.Given as goal

abbrev pub invariant-loop-rest : goal.invariant-loop-rest
invariant-loop-rest l =
    l.out.items ++ map (λ rest. l.node ∷ rest) (drop l.rest-index l.rests) ≡ l.fn.out.items ++ map (λ rest. l.node ∷ rest) l.rests

use Rattle.std.proofs.Common.{◌≡◌, ◌++◌, drop}
use Rattle.other_abstract.specs.Places.{places_in}
use Rattle.other_abstract.proofs.places.places_in.Given as goal

abbrev pub invariant-loop-at : goal.invariant-loop-at
invariant-loop-at l = l.out.items ++ places_in l.nodes l.at (drop l.at l.families) ≡ places_in l.nodes 0 l.families

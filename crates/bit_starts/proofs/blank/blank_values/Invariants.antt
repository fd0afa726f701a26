use Rattle.std.proofs.Common.{◌≡◌, ◌++◌, map, drop}
use Rattle.other_abstract.specs.declared.place.Place.{Place}
use Rattle.other_abstract.specs.Machines.{blank_of}
use Rattle.bit_starts.proofs.blank.blank_values.Given as goal

abbrev pub invariant-loop-place : goal.invariant-loop-place
invariant-loop-place l =
    l.out.items ++ map (λ (place : Place). blank_of l.families place.family) (drop l.place-index l.places) ≡ map (λ (place : Place). blank_of l.families place.family) l.places

use Rattle.std.proofs.Common.{map, take, get_or, []}
use Rattle.other_abstract.specs.declared.place.Place.{Place}
use Rattle.bit_encode.proofs.CellLemmas.{AreMade}
use Rattle.bit_encode.proofs.window.coded_places.Given as goal

abbrev pub invariant-loop-place : goal.invariant-loop-place
invariant-loop-place l = AreMade l.fn.circuit l.circuit (map (λ (place : Place). get_or l.families place.family []) (take l.place-index l.places)) l.cells.items

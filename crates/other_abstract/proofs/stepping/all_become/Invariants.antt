use Rattle.std.proofs.Common.{◌≡◌, drop}
use Rattle.std.specs.List.{list_all}
use Rattle.other_abstract.specs.Lists.{window_in}
use Rattle.other_abstract.specs.Stepping.{becomes}
use Rattle.other_abstract.proofs.stepping.all_become.Given as goal

abbrev pub invariant-loop-place : goal.invariant-loop-place
invariant-loop-place l =
    list_all (becomes (window_in l.next) (window_in l.scene) l.scene.cells.now l.next.cells.now l.updates l.pattern) (drop l.place-index l.places)
    ≡ list_all (becomes (window_in l.next) (window_in l.scene) l.scene.cells.now l.next.cells.now l.updates l.pattern) l.places

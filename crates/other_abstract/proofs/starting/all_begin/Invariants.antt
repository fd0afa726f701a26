use Rattle.std.proofs.Common.{◌≡◌, drop}
use Rattle.std.specs.List.{list_all}
use Rattle.other_abstract.specs.Lists.{window_in}
use Rattle.other_abstract.specs.Stepping.{begins}
use Rattle.other_abstract.proofs.starting.all_begin.Given as goal

abbrev pub invariant-loop-place : goal.invariant-loop-place
invariant-loop-place l =
    list_all (begins (window_in l.kept) (window_in l.scene) l.kept.cells.now l.updates l.pattern) (drop l.place-index l.places)
    ≡ list_all (begins (window_in l.kept) (window_in l.scene) l.kept.cells.now l.updates l.pattern) l.places

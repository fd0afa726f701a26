use Rattle.std.proofs.Common.{◌≡◌, true, drop}
use Rattle.std.specs.List.{list_all}
use Rattle.other_abstract.specs.Tests.{passes, may}
use Rattle.other_abstract.specs.Lists.{window_in}
use Rattle.other_abstract.proofs.stepping.may_hold_at.Given as goal

abbrev pub invariant-loop-list : goal.invariant-loop-list
invariant-loop-list l =
    list_all (λ ns. may (window_in l.scene) l.scene.cells.now ns l.body (passes true)) (drop l.list-index l.lists)
    ≡ list_all (λ ns. may (window_in l.scene) l.scene.cells.now ns l.body (passes true)) l.lists

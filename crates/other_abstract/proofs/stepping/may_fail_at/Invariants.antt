use Rattle.std.proofs.Common.{◌≡◌, ◌++◌, false, drop}
use Rattle.std.specs.List.{list_any}
use Rattle.other_abstract.specs.Tests.{passes, may}
use Rattle.other_abstract.specs.Lists.{window_in}
use Rattle.other_abstract.proofs.stepping.may_fail_at.Given as goal

abbrev pub invariant-loop-list : goal.invariant-loop-list
invariant-loop-list l =
    list_any (λ ns. may (window_in l.scene) l.scene.cells.now (l.front ++ ns) l.body (passes false)) (drop l.list-index l.lists)
    ≡ list_any (λ ns. may (window_in l.scene) l.scene.cells.now (l.front ++ ns) l.body (passes false)) l.lists

use Rattle.std.proofs.Common.{take, false, ◌++◌}
use Rattle.other_abstract.specs.Tests.{passes, may}
use Rattle.other_abstract.specs.Lists.{window_in}
use Rattle.bit_encode.proofs.FactLemmas.{AnyTells}
use Rattle.bit_encode.proofs.facts.may_fail_at.Given as goal

abbrev pub invariant-loop-list : goal.invariant-loop-list
invariant-loop-list l = AnyTells l.fn.circuit l.circuit l.scene.cells.now l.any (λ w ns. may (window_in l.scene.window) w (l.front ++ ns) l.body (passes false)) (take l.list-index l.lists)

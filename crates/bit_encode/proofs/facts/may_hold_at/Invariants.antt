use Rattle.std.proofs.Common.{take, true}
use Rattle.other_abstract.specs.Tests.{passes, may}
use Rattle.other_abstract.specs.Lists.{window_in}
use Rattle.bit_encode.proofs.FactLemmas.{AllTell}
use Rattle.bit_encode.proofs.facts.may_hold_at.Given as goal

abbrev pub invariant-loop-list : goal.invariant-loop-list
invariant-loop-list l = AllTell l.fn.circuit l.circuit l.scene.cells.now l.all (λ w ns. may (window_in l.scene.window) w ns l.body (passes true)) (take l.list-index l.lists)

use Rattle.std.proofs.Common.{take}
use Rattle.other_abstract.specs.Lists.{window_in}
use Rattle.other_abstract.specs.Machines.{window}
use Rattle.other_abstract.specs.Stepping.{begins}
use Rattle.bit_starts.proofs.LeaveLemmas.{AllTell}
use Rattle.bit_starts.proofs.leave.all_begin.Given as goal

abbrev pub invariant-loop-place : goal.invariant-loop-place
invariant-loop-place l =
    AllTell l.fn.circuit l.circuit l.kept.cells.now l.all (λ t place. begins (window_in l.kept.window) (window l.starting.machine.now l.starting.fired) t l.starting.updates.now l.starting.pattern.now place) (take l.place-index l.places)

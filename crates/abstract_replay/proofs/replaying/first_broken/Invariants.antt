use Rattle.std.proofs.Common.{◌≡◌, drop}
use Rattle.abstract_replay.specs.Steps.{IsReached}
use Rattle.abstract_replay.proofs.replaying.first_broken.Given as goal

abbrev pub invariant-loop-step : goal.invariant-loop-step
invariant-loop-step l =
    (l.number ≡ l.step-index) × IsReached l.machine l.first.values l.steps l.step-index l.before.values (drop l.step-index l.steps)

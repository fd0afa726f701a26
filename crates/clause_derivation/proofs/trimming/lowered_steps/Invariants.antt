use Rattle.std.proofs.Common.{◌≡◌, map, take}
use Rattle.clause_derivation.specs.Trimming.{lowered_step}
use Rattle.clause_derivation.proofs.trimming.lowered_steps.Given as goal

abbrev pub invariant-loop-step : goal.invariant-loop-step
invariant-loop-step l = l.out.items ≡ map (lowered_step l.base l.dropped) (take l.step-index l.steps)

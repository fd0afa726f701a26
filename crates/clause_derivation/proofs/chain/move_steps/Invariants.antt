use Rattle.std.proofs.Common.{◌≡◌, ◌++◌, take, drop, map}
use Rattle.clause_derivation.specs.Renumbering.{moved_step}
use Rattle.clause_derivation.proofs.chain.move_steps.Given as goal

abbrev pub invariant-loop-step : goal.invariant-loop-step
invariant-loop-step l = l.steps ≡ map (moved_step l.at) (take l.step-index l.fn.steps) ++ drop l.step-index l.fn.steps

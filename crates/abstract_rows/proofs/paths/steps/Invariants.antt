use Rattle.std.specs.List.{All}
use Rattle.abstract_replay.specs.Paths.{StepFits}
use Rattle.abstract_rows.proofs.paths.steps.Given as goal

abbrev pub invariant-loop-next : goal.invariant-loop-next
invariant-loop-next l = All (StepFits l.m) l.steps

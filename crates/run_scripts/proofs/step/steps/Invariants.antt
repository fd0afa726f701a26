use Rattle.std.proofs.Common.{◌≡◌, drop}
use Rattle.run_scripts.specs.Reading.{steps}
use Rattle.run_scripts.proofs.step.steps.Given as goal

abbrev pub invariant-loop-token : goal.invariant-loop-token
invariant-loop-token l = steps l.nodes l.typed l.p (drop l.token-index l.tokens) ≡ steps l.nodes l.typed l.fn.p l.tokens

use Rattle.std.proofs.Common.{arith}
use Rattle.clause_derivation.proofs.StepLemmas.{past_step}
use Rattle.clause_derivation.proofs.marking.resolve.Goals as goal

pub returns-then-pivot-marked : goal.returns-then-pivot-marked
returns-then-pivot-marked c = past_step c.args.marked.now c.args.pivot c.args.with.now c.requires.places (omega arith)

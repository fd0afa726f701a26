use Rattle.std.proofs.Common.{arith}
use Rattle.flat_check.proofs.SearchLemmas.{clean_all}
use Rattle.flat_check.proofs.search.steps_from.Goals as goal

pub returns : goal.returns
returns c = clean_all c.args.names.now c.args.items.now c.args.from.now (λ k h. c.loop-rule.invariant k (omega arith))

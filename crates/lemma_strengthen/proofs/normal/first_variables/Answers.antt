use Rattle.lemma_strengthen.specs.Opening.{variables}
use Rattle.lemma_strengthen.proofs.CountLemmas.{variables_more}
use Rattle.lemma_strengthen.proofs.normal.first_variables.Goals as goal

pub loop-number-preserved : goal.loop-number-preserved
loop-number-preserved c = variables_more c.loop-number.out c.push.new.self (variables c.args.count) c.loop-number.number c.args.count c.loop-number-test.true c.in_ok-push.ensures.ok c.loop-number.invariant

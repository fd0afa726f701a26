use Rattle.type_items.proofs.BodyLemmas.{stated-done}
use Rattle.type_items.proofs.bodies.judge_statements.Goals as goal

pub returns : goal.returns
returns c =
    stated-done c.args.entries c.args.declared c.args.body.now c.statements.new.context c.in_ok-done.done c.shorten.new.list
    c.sooner-fault.result c.in_ok-done.ensures.part c.in_ok-done.ensures.context c.shorten.ensures c.sooner-fault.ensures

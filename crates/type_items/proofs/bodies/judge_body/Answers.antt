use Rattle.type_items.proofs.BodyLemmas.{body-done}
use Rattle.type_items.proofs.bodies.judge_body.Goals as goal

pub returns : goal.returns
returns c =
    body-done c.args.inside c.args.guard.now c.args.locals.now c.args.body.now c.len-entries.result c.in_ok-tested.tested
    c.judge_guard.new.context c.in_ok-declared.declared c.in_ok-done.done c.bodied-made.result
    c.len-entries.ensures c.in_ok-tested.ensures.part c.in_ok-tested.ensures.context c.in_ok-declared.ensures
    c.in_ok-done.ensures c.bodied-made.ensures

use Rattle.type_items.proofs.MadeLemmas.{start-put}
use Rattle.type_items.proofs.steps.start_made.Goals as goal

pub returns : goal.returns
returns c =
    start-put c.args.opened.now c.args.past c.args.title.now c.args.at c.args.bodied c.args.made c.in_ok-made.made c.with_fault-inside.result
    c.as_slice-params.result.now c.instances-own.result c.plus-count.result c.in_ok-fault.fault
    c.as_slice-params.ensures c.instances-own.ensures c.plus-count.ensures c.in_ok-fault.ensures c.in_ok-made.ensures c.with_fault-inside.ensures

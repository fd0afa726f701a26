use Rattle.type_items.proofs.MadeLemmas.{start-whole}
use Rattle.type_items.proofs.added.start_of.Goals as goal

pub returns : goal.returns
returns c =
    start-whole c.args.opened.now c.args.title c.args.params.now c.args.part c.in_ok-head.head c.start_from-one.result
    c.in_ok-head.ensures c.start_from-one.ensures

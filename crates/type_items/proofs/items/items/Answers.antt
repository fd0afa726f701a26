use Rattle.type_items.proofs.ItemLemmas.{items-done}
use Rattle.type_items.proofs.items.items.Goals as goal

pub returns : goal.returns
returns c =
    items-done c.args.context.scope c.args.size.now c.args.all.now c.args.context.known c.as_slice-routines.result.now
    c.in_ok-opened.opened c.nothing_gathered-start.result c.in_ok-done.done c.items_of-given.result
    c.as_slice-routines.ensures c.in_ok-opened.ensures c.nothing_gathered-start.ensures c.in_ok-done.ensures c.items_of-given.ensures

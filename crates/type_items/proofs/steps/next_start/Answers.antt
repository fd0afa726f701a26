use Rattle.type_items.proofs.MadeLemmas.{next-start}
use Rattle.type_items.proofs.steps.next_start.Goals as goal

pub returns : goal.returns
returns c =
    next-start c.args.opened.now c.args.title.now c.args.count c.args.params.now c.args.part c.args.made c.in_ok-made.made
    c.in_ok-text.text c.in_ok-one.one c.in_ok-text.ensures c.in_ok-one.ensures c.in_ok-made.ensures

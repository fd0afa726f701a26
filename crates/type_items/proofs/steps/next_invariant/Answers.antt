use Rattle.type_items.proofs.MadeLemmas.{next-invariant}
use Rattle.type_items.proofs.steps.next_invariant.Goals as goal

pub returns : goal.returns
returns c =
    next-invariant c.args.opened.now c.args.size.now c.args.written.now c.args.title.now c.args.count c.args.params.now c.args.tree c.args.made c.in_ok-made.made
    c.in_ok-text.text c.in_ok-one.one c.in_ok-text.ensures c.in_ok-one.ensures c.in_ok-made.ensures

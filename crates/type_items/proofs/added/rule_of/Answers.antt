use Rattle.type_items.proofs.MadeLemmas.{rule-whole}
use Rattle.type_items.proofs.added.rule_of.Goals as goal

pub returns : goal.returns
returns c =
    rule-whole c.args.opened.now c.args.title c.args.params.now c.args.part c.in_ok-head.head c.rule_from-one.result
    c.in_ok-head.ensures c.rule_from-one.ensures

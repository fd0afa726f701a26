use Rattle.type_statements.proofs.DoneLemmas.{label-done}
use Rattle.type_statements.proofs.plain.label.Goals as goal

pub returns-clause-rest : goal.returns-clause-rest
returns-clause-rest c =
    λ rest. label-done c.args.context.now c.expr.new.context c.args.on.now c.args.one.now c.args.done.now c.more_labels.new.done c.in_ok-part.part c.as_right-part.result c.place_of.result rest
    c.in_ok-part.ensures.part c.in_ok-part.ensures.context c.place_of.ensures c.as_right-part.ensures c.in_ok-more_labels.ensures

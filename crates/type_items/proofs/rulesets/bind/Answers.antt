use Rattle.type_items.proofs.RulesetLemmas.{bound}
use Rattle.type_items.proofs.rulesets.bind.Goals as goal

pub returns : goal.returns
returns c =
    bound c.args.one.now c.args.inside c.type_place_of.result c.type_expr.new.context c.enter.new.self c.in_ok-over.over
    c.simple_wanted-over.result c.simple_part-simple.result c.add_parameter.new.params c.sooner-fault.result
    c.in_ok-over.ensures.part c.in_ok-over.ensures.context c.type_place_of.ensures c.simple_wanted-over.ensures
    c.simple_part-simple.ensures c.in_ok-enter.ensures c.in_ok-add_parameter.ensures c.sooner-fault.ensures

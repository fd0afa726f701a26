use Rattle.type_forms.specs.Writing.{named_as}
use Rattle.type_declarations.proofs.TypeLemmas.{type-done}
use Rattle.type_declarations.proofs.declare.declare_type.Goals as goal

pub returns : goal.returns
returns c =
    type-done c.args.globally c.args.name.now.name c.args.body.now c.args.done.now c.declare_name.new.done (named_as c.in_ok-naming.naming) c.named_type.new.context c.in_ok-made.made c.sooner-done.result c.in_ok-what.what
    c.in_ok-naming.ensures c.in_ok-made.ensures.part c.in_ok-made.ensures.context c.sooner-done.ensures c.in_ok-what.ensures c.in_ok-declare_name.ensures

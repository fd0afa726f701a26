use Rattle.type_declarations.proofs.DeclaringLemmas.{declared-turn}
use Rattle.type_declarations.proofs.declare.declare.Goals as goal

pub returns : goal.returns
returns c =
    λ d h. declared-turn c.args.globally c.args.one.now d c.args.done.now c.declare_one.new.done h c.in_ok-declare_one.ensures

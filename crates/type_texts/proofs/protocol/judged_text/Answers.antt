use Rattle.type_texts.proofs.TextEquations.{fault-done, typed-done}
use Rattle.type_texts.proofs.protocol.judged_text.Goals as goal

pub returns-clause-fault : goal.returns-clause-fault
returns-clause-fault c =
    fault-done c.args.node c.args.tree.now c.in_ok-repeated.repeated c.in_ok-given.given.fault c.sooner-first.result
    c.in_ok-repeated.ensures c.in_ok-given.ensures.fault c.sooner-first.ensures

pub returns-clause-typed : goal.returns-clause-typed
returns-clause-typed c =
    typed-done c.args.node c.args.tree.now c.in_ok-of_nodes.of_nodes c.in_ok-given.given.items c.in_ok-typed.typed
    c.in_ok-of_nodes.ensures c.in_ok-given.ensures.items c.in_ok-typed.ensures

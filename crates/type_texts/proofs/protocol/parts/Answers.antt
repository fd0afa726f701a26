use Rattle.type_texts.proofs.TextEquations.{items-done, parts-done}
use Rattle.type_texts.proofs.protocol.parts.Goals as goal

pub returns-clause-items : goal.returns-clause-items
returns-clause-items c =
    items-done c.args.node c.args.tree.now c.in_ok-size.size c.in_ok-declared.declared c.as_slice-rules.result.now
    c.in_ok-made.made.items c.in_ok-size.ensures c.in_ok-declared.ensures c.as_slice-rules.ensures
    c.in_ok-made.ensures.items

pub returns-clause-fault : goal.returns-clause-fault
returns-clause-fault c =
    parts-done c.args.node c.args.tree.now c.in_ok-size.size c.in_ok-declared.declared c.as_slice-rules.result.now
    c.in_ok-made.made.fault c.in_ok-size.ensures c.in_ok-declared.ensures c.as_slice-rules.ensures
    c.in_ok-made.ensures.fault

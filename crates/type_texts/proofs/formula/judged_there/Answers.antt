use Rattle.type_texts.proofs.LemmaEquations.{part-done, tree-done, kinds-done}
use Rattle.type_texts.proofs.formula.judged_there.Goals as goal

pub returns-clause-tree : goal.returns-clause-tree
returns-clause-tree c =
    tree-done c.args.typed.now c.args.e.now c.args.context.now c.in_ok-part.part c.in_ok-part.ensures.part

pub returns-clause-kinds : goal.returns-clause-kinds
returns-clause-kinds c =
    kinds-done c.args.typed.now c.args.e.now c.args.context.now c.lemma.new.context c.as_slice-all.result.now
    c.in_ok-kinds.kinds c.len-count.result c.in_ok-part.ensures.context c.as_slice-all.ensures c.len-count.ensures
    c.in_ok-kinds.ensures

pub returns-clause-fault : goal.returns-clause-fault
returns-clause-fault c =
    λ there. c.in_ok-fault.ensures
    (part-done c.args.typed.now c.args.e.now c.args.context.now c.in_ok-part.part c.in_ok-part.ensures.part there)

use Rattle.type_texts.proofs.LemmaEquations.{context-is}
use Rattle.type_texts.proofs.formula.judged.Goals as goal

pub returns-clause-tree : goal.returns-clause-tree
returns-clause-tree c =
    c.in_ok-made.ensures.tree
    (context-is c.args.typed.now c.lemma_scope-scope.result c.in_ok-known.known c.lemma_scope-scope.ensures c.in_ok-known.ensures)

pub returns-clause-kinds : goal.returns-clause-kinds
returns-clause-kinds c =
    c.in_ok-made.ensures.kinds
    (context-is c.args.typed.now c.lemma_scope-scope.result c.in_ok-known.known c.lemma_scope-scope.ensures c.in_ok-known.ensures)

pub returns-clause-fault : goal.returns-clause-fault
returns-clause-fault c =
    c.in_ok-made.ensures.fault
    (context-is c.args.typed.now c.lemma_scope-scope.result c.in_ok-known.known c.lemma_scope-scope.ensures c.in_ok-known.ensures)

use Rattle.type_texts.proofs.LemmaEquations.{fault-done}
use Rattle.type_texts.proofs.formula.lemma_fault.Goals as goal

pub returns : goal.returns
returns c =
    fault-done c.args.typed.now c.args.e.now c.args.part.now c.as_slice-names.result.now c.in_ok-repeated.repeated
    c.place_of-at.result c.passed-limit.result c.sooner-rest.result c.sooner-first.result c.as_slice-names.ensures
    c.in_ok-repeated.ensures c.place_of-at.ensures c.passed-limit.ensures c.sooner-rest.ensures c.sooner-first.ensures

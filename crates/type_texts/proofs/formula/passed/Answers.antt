use Rattle.std.proofs.Common.{sym}
use Rattle.type_texts.proofs.LemmaEquations.{typed}
use Rattle.type_texts.proofs.formula.passed.Goals as goal

pub returns-in-Some : goal.returns-in-Some
returns-in-Some c =
    typed c.args.at c.args.part.now _ c.weight_fault.result (sym c.in-Some.is) c.weight_fault.ensures

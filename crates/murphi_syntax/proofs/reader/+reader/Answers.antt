-- A sign with nothing to its right.
use Rattle.std.proofs.Common.{◌+◌}
use Rattle.murphi_ast.specs.Grammar.{Primary}
use Rattle.murphi_syntax.specs.Answers.{IsExpr}
use Rattle.murphi_syntax.specs.declared.expr.ExprRead.TheVariants.{Stop}
use Rattle.murphi_syntax.proofs.ExprArms.{compared_stop}
use Rattle.murphi_syntax.proofs.reader.+reader.Goals as goal

pub compared-returns-in-Stop-clause-is : goal.compared-returns-in-Stop-clause-is
compared-returns-in-Stop-clause-is t c =
    let stopped : IsExpr Primary c.args.nesting c.args.tokens.now (c.args.at + 1) (Stop c.in-Stop.place) = rw c.in-Stop.is at c.in_ok-place-in-Some.ensures.is in
    compared_stop _ _ _ _ _ c.in-Stop.place c.in-Stop.place c.in-Some.ensures.is stopped

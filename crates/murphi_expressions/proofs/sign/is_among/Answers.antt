use Rattle.std.proofs.Common.{sym, ◌∙◌}
use Rattle.murphi_expressions.proofs.SignLemmas.{among_some}
use Rattle.murphi_expressions.proofs.sign.is_among.Goals as goal

pub returns-in-Some : goal.returns-in-Some
returns-in-Some c =
    (rw c.symbol_of.ensures at c.is_one_of.ensures) ∙
    among_some c.args.tokens.now c.args.at c.in-Some.token.now c.args.symbols.now (sym c.in-Some.ensures.value)

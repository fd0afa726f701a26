-- Another token stands behind the end.
use Rattle.std.proofs.Common.{sym}
use Rattle.murphi_syntax.proofs.Places.{end_more}
use Rattle.murphi_syntax.proofs.protocol.is_end.Goals as goal

pub returns-in-Some-token_at : goal.returns-in-Some-token_at
returns-in-Some-token_at c =
    end_more c.args.tokens.now c.args.at c.in-Some.token.now c.in-Some-token_at.field-0.now (sym c.in-Some.ensures.value) c.in-EndOfText.ensures (sym c.in-Some-token_at.ensures.value)

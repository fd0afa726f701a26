-- No `*/` stands at the index, so the bytes behind it say where one is.
use Rattle.std.proofs.Common.{sym, ◌∙◌}
use Rattle.murphi_lex.proofs.ByteLemmas.{closing_more}
use Rattle.murphi_lex.proofs.bytes.closing.Goals as goal

pub loop-i-preserved : goal.loop-i-preserved
loop-i-preserved c = closing_more _ _ _ c.loop-i-test.true (sym c.closes.ensures.is ∙ c.if-closes.false) c.loop-i.invariant

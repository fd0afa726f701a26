use Rattle.rule_inline.proofs.FormulaPrefix.{pieces_within}
use Rattle.rule_inline.proofs.laws.pieces_within_prefix.Goals as goal

pub returns : goal.returns
returns c = record { within = pieces_within }

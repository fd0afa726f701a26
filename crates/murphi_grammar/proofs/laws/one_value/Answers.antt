use Rattle.murphi_grammar.proofs.Readings.{one_value}
use Rattle.murphi_grammar.proofs.laws.one_value.Goals as goal

pub returns : goal.returns
returns c = one_value

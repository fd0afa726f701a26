use Rattle.murphi_grammar.proofs.Readings.{one_way}
use Rattle.murphi_grammar.proofs.laws.one_reading.Goals as goal

pub returns : goal.returns
returns c = one_way

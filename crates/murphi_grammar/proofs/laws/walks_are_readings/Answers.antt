use Rattle.murphi_grammar.proofs.Readings.{walked}
use Rattle.murphi_grammar.proofs.laws.walks_are_readings.Goals as goal

pub returns : goal.returns
returns c = walked

use Rattle.bit_encode.proofs.FitLemmas.{legal_fits}
use Rattle.bit_encode.proofs.laws.legal_codes_fit.Goals as goal

pub returns : goal.returns
returns c = legal_fits

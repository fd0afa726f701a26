use Rattle.bit_encode.proofs.CodeLemmas.{bits_are_read}
use Rattle.bit_encode.proofs.CellLemmas.{enough_bits, least_bits, place_has_code}
use Rattle.bit_encode.proofs.laws.positions_have_codes.Goals as goal

pub returns-clause-bits : goal.returns-clause-bits
returns-clause-bits c = bits_are_read

pub returns-clause-widths : goal.returns-clause-widths
returns-clause-widths c = λ n. (enough_bits n, least_bits n)

pub returns-clause-positions : goal.returns-clause-positions
returns-clause-positions c = place_has_code

use Rattle.std.proofs.Common.{refl}
use Rattle.bit_encode.proofs.laws.codes_are_as_worked.Goals as goal

pub returns-clause-widths : goal.returns-clause-widths
returns-clause-widths c = (refl, refl)

pub returns-clause-codes : goal.returns-clause-codes
returns-clause-codes c = (refl, refl, refl, refl, refl, refl)

pub returns-clause-counts : goal.returns-clause-counts
returns-clause-counts c = (refl, refl)

use Rattle.bit_encode.proofs.CodeLemmas.{below_power}
use Rattle.bit_encode.proofs.code.width.Goals as goal

pub returns-clause-enough : goal.returns-clause-enough
returns-clause-enough c = below_power c.args.values

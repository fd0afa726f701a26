use Rattle.bit_gates.proofs.Growing.{same_told}
use Rattle.bit_gates.proofs.gates.same.Goals as goal

pub returns-clause-value : goal.returns-clause-value
returns-clause-value c = same_told _ _ c.args.a c.args.b c.not.result c.in_ok-e.e c.ite.ensures.keeps c.requires.a_edge c.requires.b_edge c.in_ok-e.ensures.edge c.in_ok-e.ensures.value c.not.ensures.value

use Rattle.circuit_core.proofs.ChoiceLemmas.{picked_by}
use Rattle.circuit_core.proofs.circuit.Circuit.either.Goals as goal

pub returns-clause-value : goal.returns-clause-value
returns-clause-value c = picked_by c.args.self.now c.input.new.self c.ite.new.self c.in_ok-fresh.fresh c.in_ok-e.e c.args.a c.args.b c.in_ok-fresh.ensures.value c.input.ensures.keeps c.in_ok-e.ensures.value c.requires.a_edge c.requires.b_edge

use Rattle.circuit_core.proofs.ChoiceLemmas.{first_choice, rest_edge, next_choice, whole_choice}
use Rattle.circuit_core.proofs.circuit.Circuit.by_inputs.Goals as goal

pub loop-e-init : goal.loop-e-init
loop-e-init c = first_choice c.args.self.now c.args.from.now _ c.requires.edges c.requires.some

pub either-requires-clause-a_edge : goal.either-requires-clause-a_edge
either-requires-clause-a_edge c =
    rest_edge c.args.self.now c.loop-e.self c.args.from.now c.loop-e.e-index _ c.requires.edges c.loop-e.invariant.grows c.loop-e-test.true

pub loop-e-preserved : goal.loop-e-preserved
loop-e-preserved c =
    next_choice c.args.self.now c.loop-e.self c.either.new.self c.loop-e.chosen c.in_ok-chosen.chosen c.args.from.now c.loop-e.e-index _ c.loop-e.invariant c.requires.edges c.loop-e-test.true
    c.in_ok-chosen.ensures.edge c.in_ok-chosen.ensures.value c.in_ok-chosen.ensures.inputs c.either.ensures.grows

pub returns-clause-one : goal.returns-clause-one
returns-clause-one c = (whole_choice c.args.self.now c.loop-e.self c.loop-e.chosen c.args.from.now c.loop-e.e-index c.loop-e.invariant c.loop-e-test.false).one

pub returns-clause-each : goal.returns-clause-each
returns-clause-each c = (whole_choice c.args.self.now c.loop-e.self c.loop-e.chosen c.args.from.now c.loop-e.e-index c.loop-e.invariant c.loop-e-test.false).each

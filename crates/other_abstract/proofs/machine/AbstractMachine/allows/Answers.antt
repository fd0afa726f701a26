use Rattle.other_abstract.proofs.DecidingLemmas.{fires_decided, step_moved, shown}
use Rattle.other_abstract.proofs.machine.AbstractMachine.allows.Goals as goal

pub returns : goal.returns
returns c =
    let M = c.args.self.now in
    let r = c.index-as_slice-step.result in
    let there = shown M.machine.rules c.as_slice.result.now c.args.step.now.rule r c.as_slice.ensures c.requires.rule c.index-as_slice-step.is in
    fires_decided c.places_are_those_of_the_cells.ensures.places c.lists_are_in_order.ensures.cells M c.args.from.now.values c.args.step.now.rule r c.args.step.now.pattern c.args.step.now.wide.values c.args.step.now.to.values c.in_ok-b.b
    there (c.requires.pattern r there) c.requires.wide c.requires.to
    (step_moved M c.args.from.now.values c.as_slice-2.result.now r c.args.step.now.pattern c.nodes.result.now c.args.step.now.wide.values c.as_slice-3.result.now c.args.step.now.to.values c.as_slice-4.result.now c.in_ok-b.b
    c.as_slice-2.ensures c.nodes.ensures c.as_slice-3.ensures c.as_slice-4.ensures c.in_ok-b.ensures)

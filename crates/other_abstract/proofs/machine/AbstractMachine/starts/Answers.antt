use Rattle.other_abstract.proofs.DecidingLemmas.{starts_decided, start_moved, shown}
use Rattle.other_abstract.proofs.machine.AbstractMachine.starts.Goals as goal

pub returns : goal.returns
returns c =
    let M = c.args.self.now in
    let r = c.index-as_slice-start.result in
    let there = shown M.machine.starts c.as_slice.result.now c.args.start r c.as_slice.ensures c.requires.start c.index-as_slice-start.is in
    starts_decided c.places_are_those_of_the_cells.ensures.places c.lists_are_in_order.ensures.cells M c.args.start r c.args.pattern.now c.args.to.now.values c.in_ok-b.b
    there (c.requires.pattern r there) c.requires.to
    (start_moved M r c.args.pattern.now c.nodes.result.now c.args.to.now.values c.as_slice-2.result.now c.in_ok-b.b c.nodes.ensures c.as_slice-2.ensures c.in_ok-b.ensures)

use Rattle.other_abstract.specs.Lists.{window_in}
use Rattle.other_abstract.specs.Machines.{window}
use Rattle.bit_starts.proofs.LeaveLemmas.{given_tells}
use Rattle.bit_starts.proofs.leave.is_given.Goals as goal

pub returns-clause-tells : goal.returns-clause-tells
returns-clause-tells c =
    given_tells _ _ c.args.kept.now.cells.now (window_in c.args.kept.now.window) (window c.args.starting.now.machine.now c.args.starting.now.fired) c.args.starting.now.pattern.now c.as_slice.result.now c.as_slice-2.result.now c.args.body.now c.args.place.now
    c.in_ok-found.found c.values.result.now c.in_ok-to.to c.members.result.now c.in_ok-e.e
    c.as_slice.ensures c.in_ok-found.ensures c.values.ensures.values c.as_slice-2.ensures c.in_ok-to.ensures.cell c.members.ensures c.has_settled.ensures.keeps c.in_ok-e.ensures.value

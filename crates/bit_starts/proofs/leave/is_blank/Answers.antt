use Rattle.std.proofs.Common.{◌∙◌, ap}
use Rattle.term_core.specs.declared.machine.TermMachine.{TermMachine}
use Rattle.other_abstract.specs.Lists.{window_in}
use Rattle.other_abstract.specs.Machines.{window}
use Rattle.bit_starts.proofs.LeaveLemmas.{blank_tells}
use Rattle.bit_starts.proofs.leave.is_blank.Goals as goal

pub returns-clause-tells : goal.returns-clause-tells
returns-clause-tells c =
    blank_tells _ _ c.args.kept.now.cells.now (window_in c.args.kept.now.window) (window c.args.starting.now.machine.now c.args.starting.now.fired) c.args.starting.now.pattern.now c.as_slice.result.now c.args.place.now
    c.as_slice-families.result.now c.blank_of-old.result c.in_ok-to.to c.members.result.now c.in_ok-e.e
    c.blank_of-old.ensures (c.as_slice-families.ensures ∙ ap (λ (m : TermMachine). m.families) c.machine.ensures) c.as_slice.ensures c.in_ok-to.ensures.cell c.members.ensures c.edge_of.ensures.keeps c.in_ok-e.ensures.value

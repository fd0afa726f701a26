use Rattle.bit_layout.proofs.CodedLemmas.{coded_step, step_coded, steps_coded}
use Rattle.bit_layout.proofs.laws.coded_steps_are_steps.Goals as goal

pub returns-clause-steps : goal.returns-clause-steps
returns-clause-steps c M x = (
  coded_step c.choices_are_listed.ensures c.legal_codes_fit.ensures c.definitions_are_decided.ensures.steps M x,
  λ s. step_coded c.choices_are_listed.ensures c.legal_codes_fit.ensures c.definitions_are_decided.ensures.steps M x s.0 s.1 s.2 s.3 s.4 s.5 s.6,
)

pub returns-clause-codes : goal.returns-clause-codes
returns-clause-codes c = steps_coded c.positions_have_codes.ensures.bits c.positions_have_codes.ensures.widths c.choices_are_listed.ensures c.lists_are_in_order.ensures.cells c.places_are_those_of_the_cells.ensures.places

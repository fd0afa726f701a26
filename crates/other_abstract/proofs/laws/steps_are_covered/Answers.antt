use Rattle.other_abstract.proofs.SimulationLemmas.{step_covered}
use Rattle.other_abstract.proofs.StartLemmas.{start_covered, fault_covered}
use Rattle.other_abstract.proofs.laws.steps_are_covered.Goals as goal

pub returns-clause-steps : goal.returns-clause-steps
returns-clause-steps c = step_covered (record {
  places = c.places_are_those_of_the_cells.ensures.places;
  cells_there = c.lists_are_in_order.ensures.cells;
  filled = c.places_are_those_of_the_cells.ensures.filled;
  blank = c.places_are_those_of_the_cells.ensures.blank;
  stepped = c.updates_make_steps.ensures.cells;
  next = c.updates_make_steps.ensures.state;
  started = c.updates_make_steps.ensures.starts;
  blank_state = c.states_have_a_value_at_each_cell.ensures.blank;
  reached = c.states_have_a_value_at_each_cell.ensures.reached;
})

pub returns-clause-starts : goal.returns-clause-starts
returns-clause-starts c = start_covered (record {
  places = c.places_are_those_of_the_cells.ensures.places;
  cells_there = c.lists_are_in_order.ensures.cells;
  filled = c.places_are_those_of_the_cells.ensures.filled;
  blank = c.places_are_those_of_the_cells.ensures.blank;
  stepped = c.updates_make_steps.ensures.cells;
  next = c.updates_make_steps.ensures.state;
  started = c.updates_make_steps.ensures.starts;
  blank_state = c.states_have_a_value_at_each_cell.ensures.blank;
  reached = c.states_have_a_value_at_each_cell.ensures.reached;
})

pub returns-clause-faults : goal.returns-clause-faults
returns-clause-faults c = fault_covered (record {
  places = c.places_are_those_of_the_cells.ensures.places;
  cells_there = c.lists_are_in_order.ensures.cells;
  filled = c.places_are_those_of_the_cells.ensures.filled;
  blank = c.places_are_those_of_the_cells.ensures.blank;
  stepped = c.updates_make_steps.ensures.cells;
  next = c.updates_make_steps.ensures.state;
  started = c.updates_make_steps.ensures.starts;
  blank_state = c.states_have_a_value_at_each_cell.ensures.blank;
  reached = c.states_have_a_value_at_each_cell.ensures.reached;
})

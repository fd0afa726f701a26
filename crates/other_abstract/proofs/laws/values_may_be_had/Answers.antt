use Rattle.other_abstract.proofs.CoverLemmas.{covers}
use Rattle.other_abstract.proofs.laws.values_may_be_had.Goals as goal

pub returns : goal.returns
returns c N m families d s frame t choice state fit = covers (record {
  places = c.places_are_those_of_the_cells.ensures.places;
  cells_there = c.lists_are_in_order.ensures.cells;
  filled = c.places_are_those_of_the_cells.ensures.filled;
  blank = c.places_are_those_of_the_cells.ensures.blank;
  stepped = c.updates_make_steps.ensures.cells;
  next = c.updates_make_steps.ensures.state;
  started = c.updates_make_steps.ensures.starts;
  blank_state = c.states_have_a_value_at_each_cell.ensures.blank;
  reached = c.states_have_a_value_at_each_cell.ensures.reached;
}) N m families d s choice state frame t fit

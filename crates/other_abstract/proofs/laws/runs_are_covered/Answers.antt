use Rattle.other_abstract.proofs.RunLemmas.{safe_holds, inductive_holds, starts_hold}
use Rattle.other_abstract.proofs.laws.runs_are_covered.Goals as goal

pub returns-clause-safe : goal.returns-clause-safe
returns-clause-safe c N M s whole fit prefixes enough safe =
    safe_holds (record {
      places = c.places_are_those_of_the_cells.ensures.places;
      cells_there = c.lists_are_in_order.ensures.cells;
      filled = c.places_are_those_of_the_cells.ensures.filled;
      blank = c.places_are_those_of_the_cells.ensures.blank;
      stepped = c.updates_make_steps.ensures.cells;
      next = c.updates_make_steps.ensures.state;
      started = c.updates_make_steps.ensures.starts;
      blank_state = c.states_have_a_value_at_each_cell.ensures.blank;
      reached = c.states_have_a_value_at_each_cell.ensures.reached;
    }) N M whole fit prefixes enough safe s

pub returns-clause-inductive : goal.returns-clause-inductive
returns-clause-inductive c N M s whole fit prefixes enough ind =
    inductive_holds (record {
      places = c.places_are_those_of_the_cells.ensures.places;
      cells_there = c.lists_are_in_order.ensures.cells;
      filled = c.places_are_those_of_the_cells.ensures.filled;
      blank = c.places_are_those_of_the_cells.ensures.blank;
      stepped = c.updates_make_steps.ensures.cells;
      next = c.updates_make_steps.ensures.state;
      started = c.updates_make_steps.ensures.starts;
      blank_state = c.states_have_a_value_at_each_cell.ensures.blank;
      reached = c.states_have_a_value_at_each_cell.ensures.reached;
    }) N M whole fit prefixes enough ind s

pub returns-clause-starts : goal.returns-clause-starts
returns-clause-starts c N M k r p whole fit prefixes enough none at nodes =
    starts_hold (record {
      places = c.places_are_those_of_the_cells.ensures.places;
      cells_there = c.lists_are_in_order.ensures.cells;
      filled = c.places_are_those_of_the_cells.ensures.filled;
      blank = c.places_are_those_of_the_cells.ensures.blank;
      stepped = c.updates_make_steps.ensures.cells;
      next = c.updates_make_steps.ensures.state;
      started = c.updates_make_steps.ensures.starts;
      blank_state = c.states_have_a_value_at_each_cell.ensures.blank;
      reached = c.states_have_a_value_at_each_cell.ensures.reached;
    }) N M whole fit prefixes enough none k r p at nodes

use Rattle.rule_inline.proofs.PresentsLaw.{translation_presents}
use Rattle.rule_inline.proofs.laws.translation_presents.Goals as goal

pub returns : goal.returns
returns c = record { presented = translation_presents c.placing_keeps_values.ensures.values c.expressions_have_values_of_their_types.ensures.inner c.bodies_keep_to_their_types.ensures.cells c.bodies_keep_to_their_types.ensures.results c.bodies_keep_to_their_types.ensures.called c.bodies_keep_to_their_types.ensures.top c.bodies_keep_to_their_types.ensures.blank c.places_are_those_of_the_cells.ensures.filled c.places_are_those_of_the_cells.ensures.blank c.states_have_a_value_at_each_cell.ensures.one c.states_have_the_values_of_their_cells.ensures c.steps_keep_the_cells.ensures.steps c.steps_keep_the_cells.ensures.starts c.turns_do_not_meet.ensures.faults c.turns_do_not_meet.ensures.ends c.turns_do_not_meet.ensures.on c.turns_do_not_meet.ensures.places c.unbroken_texts_keep_turns_apart.ensures.apart c.unbroken_texts_keep_turns_apart.ensures.functions }

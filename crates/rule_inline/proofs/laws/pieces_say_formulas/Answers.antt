use Rattle.rule_inline.proofs.FunctionLoops.{formulas_said}
use Rattle.rule_inline.proofs.laws.pieces_say_formulas.Goals as goal

pub returns : goal.returns
returns c = record { said = formulas_said c.placing_keeps_values.ensures.values c.expressions_have_values_of_their_types.ensures.inner c.bodies_keep_to_their_types.ensures.cells c.bodies_keep_to_their_types.ensures.results c.bodies_keep_to_their_types.ensures.called c.bodies_keep_to_their_types.ensures.top c.places_are_those_of_the_cells.ensures.filled c.unbroken_texts_keep_turns_apart.ensures.functions }

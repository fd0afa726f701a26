use Rattle.murphi_typed.proofs.StateLemmas.{state_has}
use Rattle.murphi_typed.proofs.laws.states_have_the_values_of_their_cells.Goals as goal

pub returns : goal.returns
returns c = state_has

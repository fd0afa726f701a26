use Rattle.bit_layout.proofs.CodedLemmas.{window_coded}
use Rattle.bit_layout.proofs.laws.fitting_states_have_codes.Goals as goal

pub returns : goal.returns
returns c W w place fits = window_coded c.positions_have_codes.ensures.bits c.positions_have_codes.ensures.widths c.lists_are_in_order.ensures.cells W w place fits

use Rattle.bit_layout.proofs.CodedLemmas.{coded_start, start_coded, starts_coded}
use Rattle.bit_layout.proofs.laws.coded_starts_are_starts.Goals as goal

pub returns-clause-starts : goal.returns-clause-starts
returns-clause-starts c M x = (
  coded_start c.choices_are_listed.ensures c.legal_codes_fit.ensures c.definitions_are_decided.ensures.starts M x,
  λ s. start_coded c.choices_are_listed.ensures c.legal_codes_fit.ensures c.definitions_are_decided.ensures.starts M x s.0 s.1 s.2 s.3 s.4,
)

pub returns-clause-codes : goal.returns-clause-codes
returns-clause-codes c = starts_coded c.positions_have_codes.ensures.bits c.positions_have_codes.ensures.widths c.choices_are_listed.ensures c.lists_are_in_order.ensures.cells

use Rattle.term_core.proofs.CellLemmas.{choice_there}
use Rattle.term_core.proofs.OrderLemmas.{choices_back, cells_back}
use Rattle.term_core.proofs.ListLemmas.{sort_values, may_values}
use Rattle.term_core.proofs.laws.lists_are_in_order.Goals as goal

pub returns-clause-choices : goal.returns-clause-choices
returns-clause-choices c = choice_there

pub returns-clause-places : goal.returns-clause-places
returns-clause-places c = choices_back

pub returns-clause-cells : goal.returns-clause-cells
returns-clause-cells c = cells_back

pub returns-clause-sorts : goal.returns-clause-sorts
returns-clause-sorts c = sort_values

pub returns-clause-families : goal.returns-clause-families
returns-clause-families c = may_values

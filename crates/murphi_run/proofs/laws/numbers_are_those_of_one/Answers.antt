use Rattle.murphi_run.proofs.RankLemmas.{rank_below, rank_same}
use Rattle.murphi_run.proofs.NumberLemmas.{cell_within, cells_apart}
use Rattle.murphi_run.proofs.laws.numbers_are_those_of_one.Goals as goal

pub returns-clause-ranks : goal.returns-clause-ranks
returns-clause-ranks c = rank_below

pub returns-clause-values : goal.returns-clause-values
returns-clause-values c = rank_same

pub returns-clause-within : goal.returns-clause-within
returns-clause-within c = cell_within

pub returns-clause-cells : goal.returns-clause-cells
returns-clause-cells c = cells_apart

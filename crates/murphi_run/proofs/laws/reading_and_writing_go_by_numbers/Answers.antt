use Rattle.murphi_run.proofs.HoldLemmas.{set_holds}
use Rattle.murphi_run.proofs.laws.reading_and_writing_go_by_numbers.Goals as goal

pub returns-clause-reads : goal.returns-clause-reads
returns-clause-reads c = λ N layout values cells b place holds there has. holds place.owner b there place.path place.at has

pub returns-clause-writes : goal.returns-clause-writes
returns-clause-writes c = λ N layout values cells b place new fits holds there has. set_holds N layout values cells b place new fits holds there has

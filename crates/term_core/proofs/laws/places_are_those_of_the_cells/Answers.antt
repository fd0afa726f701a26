use Rattle.term_core.proofs.CellLemmas.{places, blank_cell}
use Rattle.term_core.proofs.TableLemmas.{filled_value, written_value, other_value}
use Rattle.term_core.proofs.laws.places_are_those_of_the_cells.Goals as goal

pub returns-clause-places : goal.returns-clause-places
returns-clause-places c = places

pub returns-clause-filled : goal.returns-clause-filled
returns-clause-filled c = filled_value

pub returns-clause-written : goal.returns-clause-written
returns-clause-written c = written_value

pub returns-clause-others : goal.returns-clause-others
returns-clause-others c = other_value

pub returns-clause-blank : goal.returns-clause-blank
returns-clause-blank c = blank_cell

use Rattle.term_core.proofs.TableLemmas.{length-table, table_there, written_there, others_there, tables_same}
use Rattle.term_core.proofs.laws.tables_have_a_value_at_each_cell.Goals as goal

pub returns-clause-whole : goal.returns-clause-whole
returns-clause-whole g c = length-table

pub returns-clause-values : goal.returns-clause-values
returns-clause-values g c = table_there

pub returns-clause-written : goal.returns-clause-written
returns-clause-written g c = written_there

pub returns-clause-others : goal.returns-clause-others
returns-clause-others g c = others_there

pub returns-clause-one : goal.returns-clause-one
returns-clause-one g c = tables_same

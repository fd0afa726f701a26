-- The spelling relates one reading to a text, the computed one.
use Rattle.murphi_ast.specs.Bytes.{start}
use Rattle.murphi_lex.proofs.SpellingLemmas.{reading_once, reading-reads}
use Rattle.murphi_lex.proofs.scanning.one_reading.Goals as goal

pub returns-clause-one : goal.returns-clause-one
returns-clause-one c = reading_once

pub returns-clause-some : goal.returns-clause-some
returns-clause-some c = λ bytes. reading-reads bytes start

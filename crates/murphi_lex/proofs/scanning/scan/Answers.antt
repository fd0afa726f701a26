-- What was computed is what the bytes are read as.
use Rattle.murphi_ast.specs.Bytes.{start}
use Rattle.murphi_lex.specs.Seen.{reading_seen}
use Rattle.murphi_lex.proofs.SpellingLemmas.{computed_reads, computed_only, reads_ended}
use Rattle.murphi_lex.proofs.scanning.scan.Goals as goal

pub returns-clause-reads : goal.returns-clause-reads
returns-clause-reads c = computed_reads c.args.bytes.now (reading_seen c.in_ok-scanned.scanned) c.in_ok-scanned.ensures

pub returns-clause-ended : goal.returns-clause-ended
returns-clause-ended c = reads_ended start c.args.bytes.now _ _ (computed_reads c.args.bytes.now (reading_seen c.in_ok-scanned.scanned) c.in_ok-scanned.ensures)

pub returns-clause-only : goal.returns-clause-only
returns-clause-only c = computed_only c.args.bytes.now (reading_seen c.in_ok-scanned.scanned) c.in_ok-scanned.ensures

use Rattle.std.proofs.Common.{◌≡◌, map, drop}
use Rattle.job_files.specs.Told.{lemma_name, second_among, second_use}
use Rattle.job_files.specs.Uses.{names_in}
use Rattle.job_files.proofs.uses.second_lemma.Given as goal

abbrev pub invariant-loop-lemma : goal.invariant-loop-lemma
invariant-loop-lemma l = second_among (names_in l.used.entries) (map lemma_name (drop l.lemma-index l.all)) ≡ second_use (map lemma_name l.all)

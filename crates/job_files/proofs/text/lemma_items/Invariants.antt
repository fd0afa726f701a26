use Rattle.std.proofs.Common.{◌≤◌, ◌-◌, length, ℕ}
use Rattle.murphi_grammar.specs.Names as n
use Rattle.job_files.specs.Files.{lemma_word}
use Rattle.job_files.specs.Walks.{TextSoFar}
use Rattle.job_files.proofs.text.lemma_items.Given as goal

abbrev pub invariant-loop-alloc : goal.invariant-loop-alloc
invariant-loop-alloc l = record {
  so_far : TextSoFar lemma_word n.LemmaItem l.room l.tokens l.at l.next l.lemmas;
  on : l.at ≤ l.next;
  within : l.next ≤ length l.tokens;
}

abbrev pub decreases-loop-alloc : goal.decreases-loop-alloc
decreases-loop-alloc l = length l.tokens - l.next

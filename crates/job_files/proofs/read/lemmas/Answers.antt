use Rattle.std.proofs.Common.{◌≡◌, Err, subst, sym}
use Rattle.job_files.specs.Files.{SpellsLemmas, BeginsLemmas}
use Rattle.job_files.specs.Told.{IsAnswered, TellsBytes, TellsLemmas, lemma_name}
use Rattle.job_files.proofs.Answering.{readable_lemmas, bytes_told, bytes_only, lexed_told, lexed_only}
use Rattle.job_files.proofs.read.lemmas.Goals as goal

pub returns-in-Ok-clause-only : goal.returns-in-Ok-clause-only
returns-in-Ok-clause-only c = λ answer told.
    bytes_only SpellsLemmas BeginsLemmas lemma_name readable_lemmas c.args.bytes.now c.in-Ok.ts.items c.lemmas_told-answer.result answer c.in-Ok.ensures.only c.in-Ok.ensures.first
    (subst (λ z. TellsLemmas z c.lemmas_told-answer.result) c.as_slice.ensures.value c.lemmas_told-answer.ensures) told

pub returns-in-Err-clause-only : goal.returns-in-Err-clause-only
returns-in-Err-clause-only c = λ answer told.
    subst (λ z. IsAnswered (Err z) answer) (sym c.lexed.ensures)
    (lexed_only SpellsLemmas BeginsLemmas lemma_name readable_lemmas c.args.bytes.now c.in-Err.e answer c.in-Err.ensures.only c.in-Err.ensures.first told)

pub returns-in-Err-clause-told : goal.returns-in-Err-clause-told
returns-in-Err-clause-told c =
    subst (λ z. TellsBytes TellsLemmas c.args.bytes.now (Err z)) (sym c.lexed.ensures)
    (lexed_told SpellsLemmas BeginsLemmas lemma_name readable_lemmas c.args.bytes.now c.in-Err.e c.in-Err.ensures.refused)

use Rattle.std.proofs.Common.{Err, subst, sym}
use Rattle.run_scripts.specs.Reading.{IsReadAs}
use Rattle.run_scripts.specs.Told.{IsAnswered, TellsBytes}
use Rattle.run_scripts.proofs.Telling.{bytes_only, bytes_told, lexed_only, lexed_told, read_told}
use Rattle.run_scripts.proofs.read.script.Goals as goal

pub returns-in-Ok-clause-told : goal.returns-in-Ok-clause-told
returns-in-Ok-clause-told c =
    bytes_told c.args.nodes c.args.typed.now c.args.bytes.now c.in-Ok.ts.items c.read_tokens-answer.result c.in-Ok.ensures.spelled
    (read_told c.args.nodes c.args.typed.now c.in-Ok.ts.items c.read_tokens-answer.result
    (subst (λ z. IsReadAs c.args.nodes c.args.typed.now z c.read_tokens-answer.result) c.as_slice.ensures.value c.read_tokens-answer.ensures))

pub returns-in-Ok-clause-only : goal.returns-in-Ok-clause-only
returns-in-Ok-clause-only c = λ answer told.
    bytes_only c.args.nodes c.args.typed.now c.args.bytes.now c.in-Ok.ts.items c.read_tokens-answer.result answer c.in-Ok.ensures.only c.in-Ok.ensures.first
    (subst (λ z. IsReadAs c.args.nodes c.args.typed.now z c.read_tokens-answer.result) c.as_slice.ensures.value c.read_tokens-answer.ensures) told

pub returns-in-Err-clause-told : goal.returns-in-Err-clause-told
returns-in-Err-clause-told c =
    subst (λ z. TellsBytes c.args.nodes c.args.typed.now c.args.bytes.now (Err z)) (sym c.lexed.ensures)
    (lexed_told c.args.nodes c.args.typed.now c.args.bytes.now c.in-Err.e c.in-Err.ensures.refused)

pub returns-in-Err-clause-only : goal.returns-in-Err-clause-only
returns-in-Err-clause-only c = λ answer told.
    subst (λ z. IsAnswered (Err z) answer) (sym c.lexed.ensures)
    (lexed_only c.args.nodes c.args.typed.now c.args.bytes.now c.in-Err.e answer c.in-Err.ensures.only c.in-Err.ensures.first told)

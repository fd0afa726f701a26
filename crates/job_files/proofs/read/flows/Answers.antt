use Rattle.std.proofs.Common.{◌≡◌, Err, subst, sym}
use Rattle.job_files.specs.Files.{SpellsFlows, BeginsFlows}
use Rattle.job_files.specs.Told.{IsAnswered, TellsBytes, TellsFlows, flow_name}
use Rattle.job_files.proofs.Answering.{readable_flows, bytes_told, bytes_only, lexed_told, lexed_only}
use Rattle.job_files.proofs.read.flows.Goals as goal

pub returns-in-Ok-clause-only : goal.returns-in-Ok-clause-only
returns-in-Ok-clause-only c = λ answer told.
    bytes_only SpellsFlows BeginsFlows flow_name readable_flows c.args.bytes.now c.in-Ok.ts.items c.flows_told-answer.result answer c.in-Ok.ensures.only c.in-Ok.ensures.first
    (subst (λ z. TellsFlows z c.flows_told-answer.result) c.as_slice.ensures.value c.flows_told-answer.ensures) told

pub returns-in-Err-clause-only : goal.returns-in-Err-clause-only
returns-in-Err-clause-only c = λ answer told.
    subst (λ z. IsAnswered (Err z) answer) (sym c.lexed.ensures)
    (lexed_only SpellsFlows BeginsFlows flow_name readable_flows c.args.bytes.now c.in-Err.e answer c.in-Err.ensures.only c.in-Err.ensures.first told)

pub returns-in-Err-clause-told : goal.returns-in-Err-clause-told
returns-in-Err-clause-told c =
    subst (λ z. TellsBytes TellsFlows c.args.bytes.now (Err z)) (sym c.lexed.ensures)
    (lexed_told SpellsFlows BeginsFlows flow_name readable_flows c.args.bytes.now c.in-Err.e c.in-Err.ensures.refused)

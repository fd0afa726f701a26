use Rattle.std.proofs.Common.{map}
use Rattle.std.specs.String.{string_bytes}
use Rattle.cmp_cli.specs.Words.{AskFor, IsRequest, IsNoRequest}
use Rattle.cmp_cli.proofs.ReadingLemmas.{request_asks, no_request_asks, when_some, when_none}
use Rattle.cmp_cli.proofs.RunLemmas.{answer_of_file, verdict_of_file, refused_of_file}
use Rattle.cmp_cli.proofs.program.outcome.Given.{Over}
use Rattle.cmp_cli.proofs.program.outcome.Goals as goal

asks : (g : Over) (c : goal.After-drop-request g) → AskFor (map string_bytes c.args.words.now) c.as_str.result.now
asks g c =
    request_asks (map string_bytes c.args.words.now) c.in-Ok-Some.request c.protocol_of-file.result.now c.as_str.result.now
    (when_some (IsNoRequest (map string_bytes c.args.words.now)) (IsRequest (map string_bytes c.args.words.now)) c.in-Ok-Some.field-0 c.in-Ok-Some.request c.in-Ok-Some.ensures c.in-Ok-Some.field-0-is) c.protocol_of-file.ensures c.as_str.ensures

pub returns-in-Ok-Some-clause-is : goal.returns-in-Ok-Some-clause-is
returns-in-Ok-Some-clause-is g c =
    answer_of_file (map string_bytes c.args.words.now) (g.S.Source.told c.args.files.now) c.as_str.result.now c.checked-found.result
    (asks g c) c.checked-found.ensures.is

pub returns-in-Ok-Some-clause-spelled : goal.returns-in-Ok-Some-clause-spelled
returns-in-Ok-Some-clause-spelled g c =
    verdict_of_file (map string_bytes c.args.words.now) (g.S.Source.told c.args.files.now) c.as_str.result.now c.checked-found.result
    (asks g c) c.checked-found.ensures.spelled

pub returns-in-Ok-Some-clause-refused : goal.returns-in-Ok-Some-clause-refused
returns-in-Ok-Some-clause-refused g c =
    refused_of_file (map string_bytes c.args.words.now) (g.S.Source.told c.args.files.now) c.as_str.result.now c.checked-found.result
    (asks g c) c.checked-found.ensures.refused

pub returns-in-Ok-None-clause-spelled : goal.returns-in-Ok-None-clause-spelled
returns-in-Ok-None-clause-spelled g c file bytes p other is spells =
    no_request_asks (map string_bytes c.args.words.now) file (when_none (IsNoRequest (map string_bytes c.args.words.now)) (IsRequest (map string_bytes c.args.words.now)) c.in-Ok-None.field-0 c.in-Ok-None.ensures c.in-Ok-None.field-0-is) other

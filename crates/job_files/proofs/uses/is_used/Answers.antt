use Rattle.std.proofs.Common.{◌∙◌, ap, is_some}
use Rattle.std.specs.Str.{bytes_eq}
use Rattle.std.specs.Map.{lookup}
use Rattle.job_files.proofs.UseLemmas.{found_is}
use Rattle.job_files.proofs.uses.is_used.Goals as goal

pub returns : goal.returns
returns c =
    c.contains_key.ensures ∙ ap (λ n. is_some (lookup (λ k. bytes_eq n k.items) c.args.used.now.entries)) c.bytes.ensures
    ∙ found_is c.args.name.now c.args.used.now.entries

use Rattle.std.proofs.Common.{map, sym, ◌∙◌}
use Rattle.std.specs.String.{string_bytes}
use Rattle.cmp_cli.proofs.ReadingLemmas.{nothing_read, misfit_read}
use Rattle.cmp_cli.proofs.words.requested.Goals as goal

pub returns-then-not-branch : goal.returns-then-not-branch
returns-then-not-branch c =
    misfit_read (map string_bytes c.args.words.now) c.in-Some.request (sym c.in_ok-spelled_by.ensures ∙ c.in-Some.is)
    (λ well. let taken = c.in_ok-is_well-in-Some.ensures.1 well in let not_taken = c.if-not-branch.true in cc)

pub returns-in-None : goal.returns-in-None
returns-in-None c = nothing_read (map string_bytes c.args.words.now) (sym c.in_ok-spelled_by.ensures ∙ c.in-None.is)

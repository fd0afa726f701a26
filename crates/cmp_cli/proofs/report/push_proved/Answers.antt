use Rattle.std.proofs.Common.{◌∙◌, ap}
use Rattle.std.specs.Prelude.{List, ◌++◌}
use Rattle.cmp_cli.specs.Report.{Line}
use Rattle.cmp_cli.proofs.ReportLemmas.{three_and_more}
use Rattle.cmp_cli.proofs.report.push_proved.Goals as goal

pub returns : goal.returns
returns c =
    three_and_more _ _ _ _ _ _ _ _ _ c.in_ok-push_plain.ensures c.in_ok-push_plain-2.ensures c.in_ok-push_plain-3.ensures
    (c.in_ok-append.ensures ∙ ap (λ (more : List Line). c.push_plain-3.new.lines ++ more) (rw c.as_slice.ensures at c.in_ok-claims.ensures))

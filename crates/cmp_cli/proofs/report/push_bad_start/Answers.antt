use Rattle.cmp_cli.proofs.ReportLemmas.{three_and_more, one_and_more}
use Rattle.cmp_cli.proofs.report.push_bad_start.Goals as goal

pub returns : goal.returns
returns c =
    three_and_more _ _ _ _ _ _ _ _ _ c.in_ok-push_plain.ensures c.in_ok-push_plain-2.ensures c.in_ok-push_violates.ensures
    (one_and_more _ _ _ _ _ c.in_ok-push_item.ensures c.in_ok-push_state.ensures)

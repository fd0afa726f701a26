use Rattle.std.proofs.Common.{◌∷◌, ◌++◌, codes}
use Rattle.cmp_cli.specs.Report.{line, quoted, item_title, state_lines}
use Rattle.cmp_cli.proofs.ReportLemmas.{one_and_more, both_parts}
use Rattle.cmp_cli.proofs.report.push_firing.Goals as goal

pub returns : goal.returns
returns c =
    let fire = line (codes "fire " ++ quoted (item_title c.args.p.now.rules c.args.rule)) in
    let wide = state_lines (codes "wide") c.args.p.now c.args.from.now in
    let after = state_lines (codes "state") c.args.p.now c.args.to.now in
    both_parts c.args.lines.now c.push_state.new.lines c.push_state-2.new.lines (fire ∷ wide) after
    (one_and_more _ _ _ _ _ c.in_ok-push_item.ensures c.in_ok-push_state.ensures)
    c.in_ok-push_state-2.ensures

use Rattle.std.proofs.Common.{◌∷◌, codes}
use Rattle.cmp_cli.specs.Report.{line, formula_line, state_lines, firing_lines}
use Rattle.cmp_cli.proofs.ReportLemmas.{three_and_more, both_parts}
use Rattle.cmp_cli.proofs.report.push_bad_step.Goals as goal

pub returns : goal.returns
returns c =
    let answer = line (codes "answer not inductive") in
    let node = line (codes "node none") in
    let violates = formula_line (codes "violates ") c.args.p.now.rules c.args.formula in
    let before = state_lines (codes "from") c.args.p.now c.args.from.now in
    let firing = firing_lines c.args.p.now c.args.from.now c.args.rule c.args.to.now in
    both_parts c.args.lines.now c.push_state.new.lines c.push_firing.new.lines (answer ∷ node ∷ violates ∷ before) firing
    (three_and_more _ _ _ _ _ _ _ _ _ c.in_ok-push_plain.ensures c.in_ok-push_plain-2.ensures c.in_ok-push_violates.ensures c.in_ok-push_state.ensures)
    c.in_ok-push_firing.ensures

use Rattle.std.proofs.Common.{◌<◌, ◌∙◌, length, subst}
use Rattle.run_scripts.specs.Scripts.{titles}
use Rattle.run_scripts.proofs.TitleLemmas.{opens_no, opens_yes}
use Rattle.run_scripts.proofs.titles.opened.Goals as goal

pub returns-then-is_open : goal.returns-then-is_open
returns-then-is_open c =
    let within : c.loop-at.at < length (titles c.args.typed.now c.args.firing) = subst (λ n. c.loop-at.at < n) c.count-at-end.ensures c.loop-at-test.true in
    opens_yes c.args.nodes c.args.typed.now c.args.firing (titles c.args.typed.now c.args.firing) c.loop-at.at c.is_open.result within c.is_open.ensures c.if-is_open.true
    ∙ c.loop-at.invariant

pub loop-at-preserved : goal.loop-at-preserved
loop-at-preserved c =
    let within : c.loop-at.at < length (titles c.args.typed.now c.args.firing) = subst (λ n. c.loop-at.at < n) c.count-at-end.ensures c.loop-at-test.true in
    opens_no c.args.nodes c.args.typed.now c.args.firing (titles c.args.typed.now c.args.firing) c.loop-at.at c.is_open.result within c.is_open.ensures c.if-is_open.false
    ∙ c.loop-at.invariant

use Rattle.run_scripts.specs.Scripts.{titles}
use Rattle.run_scripts.proofs.TitleLemmas.{table_more}
use Rattle.run_scripts.proofs.titles.firsts.Goals as goal

pub loop-at-preserved : goal.loop-at-preserved
loop-at-preserved c =
    table_more (titles c.args.typed.now c.args.firing) c.loop-at.at c.title_of.result.now c.loop-at.first.entries _ c.title_of.ensures c.in_ok-keep.ensures c.loop-at.invariant

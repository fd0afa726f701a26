use Rattle.std.proofs.Common.{◌∙◌, arith}
use Rattle.type_items.proofs.ListLemmas.{popped}
use Rattle.type_items.proofs.lists.shorten.Goals as goal

pub loop-list-preserved : goal.loop-list-preserved
loop-list-preserved g c =
    popped c.args.length c.loop-list.list c.pop-last.new.self c.pop-last.result (omega arith) c.pop-last.ensures ∙ c.loop-list.invariant

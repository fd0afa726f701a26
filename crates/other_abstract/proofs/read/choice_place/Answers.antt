use Rattle.std.proofs.lemmas.Option.{slice_get-get_or}
use Rattle.other_abstract.specs.Windows.{size}
use Rattle.other_abstract.specs.Lists.{window_in, choices_before}
use Rattle.other_abstract.proofs.ReadLemmas.{choices_lost}
use Rattle.other_abstract.proofs.read.choice_place.Goals as goal

-- the next place would pass a word
pub returns-in-None : goal.returns-in-None
returns-in-None c =
    let W = window_in c.args.scene.now in
    choices_lost (size W) W.kept c.loop-node.before c.args.nodes.now c.loop-node.node-index _ (choices_before (size W) W.kept 0 c.args.nodes.now)
    c.loop-node.invariant.0 (slice_get-get_or c.args.nodes.now c.loop-node.node-index _ c.loop-node-test.true) c.requires c.in-None.ensures

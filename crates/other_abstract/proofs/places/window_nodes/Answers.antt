use Rattle.std.proofs.Common.{◌++◌, map}
use Rattle.term_core.specs.Nodes.{nodes}
use Rattle.other_abstract.specs.declared.node.AbsNode.TheVariants.{Kept, Fired}
use Rattle.other_abstract.proofs.PlaceLemmas.{names_more}
use Rattle.other_abstract.proofs.places.window_nodes.Goals as goal

-- one kept node more
pub loop-k-preserved : goal.loop-k-preserved
loop-k-preserved c =
    names_more Kept c.loop-k.out.items c.push.new.self.items (map Kept (nodes c.args.kept)) c.loop-k.k c.args.kept c.loop-k-test.true c.in_ok-push.ensures.items c.loop-k.invariant

-- one fired node more
pub loop-j-preserved : goal.loop-j-preserved
loop-j-preserved c =
    names_more Fired c.loop-j.out.items c.push-in-loop-j.new.self.items (map Kept (nodes c.args.kept) ++ map Fired (nodes c.args.fired)) c.loop-j.j c.args.fired c.loop-j-test.true c.in_ok-push-2.ensures.items c.loop-j.invariant

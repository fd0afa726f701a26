use Rattle.std.proofs.Common.{◌≡◌, ◌<◌, ◌^◌, drop, true}
use Rattle.std.specs.List.{list_all}
use Rattle.term_core.specs.Nodes.{is_node}
use Rattle.term_core.specs.Lists.{nodes_place}
use Rattle.term_core.proofs.state.NodeState.choice_place.Given as goal

abbrev pub invariant-loop-node : goal.invariant-loop-node
invariant-loop-node l =
    (list_all (is_node l.self.nodes) (drop l.node-index l.at) ≡ true)
    × (nodes_place l.self.nodes l.place (drop l.node-index l.at) ≡ nodes_place l.self.nodes 0 l.at)
    × (l.place < l.self.nodes ^ l.node-index)

use Rattle.std.proofs.Common.{◌≡◌, ◌+◌, ◌*◌, ◌++◌, map, drop}
use Rattle.rule_parts.specs.Seen.{seen_spot, seen_entry, seen_tested, seen_family}
use Rattle.rule_parts.specs.Layers.{seen_layer, read_entry}
use Rattle.rule_parts.proofs.LayerWeights.{layer_weight, shown_weight, givens_weight}
use Rattle.rule_parts.proofs.now.+now.Given as goal

abbrev pub invariant-reads-loop-e : goal.invariant-reads-loop-e
invariant-reads-loop-e l = map seen_tested l.out ++ map (read_entry l.asked.frame (seen_layer l.from (map seen_family l.families)).now (seen_spot l.asked.spot.now) l.asked.path.now l.asked.key.now) (map seen_entry (drop l.e-index l.es)) ≡ map (read_entry l.asked.frame (seen_layer l.from (map seen_family l.families)).now (seen_spot l.asked.spot.now) l.asked.path.now l.asked.key.now) (map seen_entry l.es)

abbrev pub decreases-now : goal.decreases-now
decreases-now l = 4 * layer_weight l.layer.now

abbrev pub decreases-under : goal.decreases-under
decreases-under l = 4 * layer_weight l.before.now + 1

abbrev pub decreases-written : goal.decreases-written
decreases-written l = 4 * (layer_weight l.before.now + shown_weight l.new.now) + 2

abbrev pub decreases-left : goal.decreases-left
decreases-left l = 4 * layer_weight l.before.now + 1

abbrev pub decreases-branch : goal.decreases-branch
decreases-branch l = 4 * (layer_weight l.taken.now + layer_weight l.other.now) + 1

abbrev pub decreases-chosen : goal.decreases-chosen
decreases-chosen l = 4 * (layer_weight l.before.now + layer_weight l.chain.now) + 1

abbrev pub decreases-kept : goal.decreases-kept
decreases-kept l = 4 * (layer_weight l.before.now + layer_weight l.after.now) + 1

abbrev pub decreases-over_nodes : goal.decreases-over_nodes
decreases-over_nodes l = 4 * (layer_weight l.before.now + layer_weight l.body.now) + 1

abbrev pub decreases-entered : goal.decreases-entered
decreases-entered l = 4 * (layer_weight l.before.now + givens_weight l.given.now) + 1

abbrev pub decreases-back : goal.decreases-back
decreases-back l = 4 * (layer_weight l.before.now + layer_weight l.body.now) + 1

abbrev pub decreases-written_term : goal.decreases-written_term
decreases-written_term l = 4 * shown_weight l.new.now + 1

abbrev pub decreases-shown : goal.decreases-shown
decreases-shown l = 4 * shown_weight l.new.now

abbrev pub decreases-shown_at : goal.decreases-shown_at
decreases-shown_at l = 4 * layer_weight l.from.now + 3

abbrev pub decreases-reads : goal.decreases-reads
decreases-reads l = 4 * layer_weight l.from.now + 2

abbrev pub decreases-read_entry : goal.decreases-read_entry
decreases-read_entry l = 4 * layer_weight l.from.now + 1

abbrev pub decreases-given_term : goal.decreases-given_term
decreases-given_term l = 4 * givens_weight l.given.now

use Rattle.std.proofs.Common.{◌≡◌, ◌+◌, ◌-◌, ◌≤◌, ◌<◌, ◌^◌, ◌∷◌, ◌++◌, [], length, drop, suc}
use Rattle.std.specs.List.{list_all, list_any}
use Rattle.term_core.specs.Nodes.{nodes, nodes_from}
use Rattle.term_core.specs.Values.{truth}
use Rattle.term_core.specs.Meaning.{value_of}
use Rattle.term_core.specs.Views.{cells_of}
use Rattle.term_core.specs.Lists.{list_nesting, list_place}
use Rattle.term_core.proofs.+value.Given as goal

abbrev pub invariant-eval::all_hold-loop-part : goal.invariant-eval::all_hold-loop-part
invariant-eval::all_hold-loop-part l =
    (l.frame ≡ l.fn.frame)
    × (length l.frame.nodes + list_nesting (drop l.part-index l.parts) ≤ l.frame.room)
    × (list_all (λ t. truth (value_of l.state.nodes (cells_of l.state) l.fn.frame.nodes t)) (drop l.part-index l.parts) ≡ list_all (λ t. truth (value_of l.state.nodes (cells_of l.state) l.fn.frame.nodes t)) l.parts)

abbrev pub invariant-eval::one_holds-loop-part : goal.invariant-eval::one_holds-loop-part
invariant-eval::one_holds-loop-part l =
    (l.frame ≡ l.fn.frame)
    × (length l.frame.nodes + list_nesting (drop l.part-index l.parts) ≤ l.frame.room)
    × (list_any (λ t. truth (value_of l.state.nodes (cells_of l.state) l.fn.frame.nodes t)) (drop l.part-index l.parts) ≡ list_any (λ t. truth (value_of l.state.nodes (cells_of l.state) l.fn.frame.nodes t)) l.parts)

abbrev pub invariant-eval::holds_for_all-loop-before :
    goal.invariant-eval::holds_for_all-loop-before
invariant-eval::holds_for_all-loop-before l =
    (l.frame ≡ l.fn.frame)
    × (list_all (λ n. truth (value_of l.state.nodes (cells_of l.state) (l.fn.frame.nodes ++ n ∷ []) l.body)) (nodes_from (suc l.before) (l.state.nodes - l.before)) ≡ list_all (λ n. truth (value_of l.state.nodes (cells_of l.state) (l.fn.frame.nodes ++ n ∷ []) l.body)) (nodes l.state.nodes))

abbrev pub invariant-eval::holds_for_one-loop-before :
    goal.invariant-eval::holds_for_one-loop-before
invariant-eval::holds_for_one-loop-before l =
    (l.frame ≡ l.fn.frame)
    × (list_any (λ n. truth (value_of l.state.nodes (cells_of l.state) (l.fn.frame.nodes ++ n ∷ []) l.body)) (nodes_from (suc l.before) (l.state.nodes - l.before)) ≡ list_any (λ n. truth (value_of l.state.nodes (cells_of l.state) (l.fn.frame.nodes ++ n ∷ []) l.body)) (nodes l.state.nodes))

abbrev pub invariant-eval::place-loop-term : goal.invariant-eval::place-loop-term
invariant-eval::place-loop-term l =
    (l.frame ≡ l.fn.frame)
    × (length l.frame.nodes + list_nesting (drop l.term-index l.at) ≤ l.frame.room)
    × (list_place l.state.nodes (cells_of l.state) l.fn.frame.nodes l.place (drop l.term-index l.at) ≡ list_place l.state.nodes (cells_of l.state) l.fn.frame.nodes 0 l.at)
    × (l.place < l.state.nodes ^ l.term-index)

-- Facts of two coded states, one of a window and one of its kept nodes alone.
use Rattle.std.specs.Prelude.{ℕ, ◌≡◌, Bool, true, ◌&&◌, List}
use Rattle.std.specs.List.{list_all}
use Rattle.term_core.specs.declared.machine.TermRule.{TermRule}
use Rattle.lemma_strengthen.specs.declared.formula.Formula.{Formula}
use Rattle.circuit_core.specs.declared.edge.Edge.{Edge}
use Rattle.circuit_core.specs.Network.{Network}
use Rattle.other_abstract.specs.declared.node.AbsNode.{AbsNode}
use Rattle.other_abstract.specs.declared.place.Place.{Place}
use Rattle.other_abstract.specs.Windows.{Window, same_value}
use Rattle.other_abstract.specs.May.{AbsCells, value_at}
use Rattle.other_abstract.specs.Tests.{passes, may}
use Rattle.other_abstract.specs.Stepping.{kept_value, all_may_hold, becomes}
use Rattle.bit_encode.specs.declared.set.Possible.{Possible}
use Rattle.bit_encode.specs.MaySets.{Agrees}
use Rattle.bit_encode.specs.Coding.{Shows, IsExactly}

-- the set is that of the cell of a family at these nodes
unfoldable pub IsCellIn : Network → List (List Possible) → Window → ℕ → List AbsNode → List Possible → Type 0
IsCellIn c cells W f ns s = (x : ℕ → Bool) (val : Edge → Bool) → Agrees c x val → (w : AbsCells) → Shows val cells w → IsExactly val s (value_at W w f ns)

-- an edge is true exactly where a fact of both coded states holds
unfoldable pub TellsBoth : Network → List (List Possible) → List (List Possible) → Edge → (AbsCells → AbsCells → Bool) → Type 0
TellsBoth c wide kept e f =
    (x : ℕ → Bool) (val : Edge → Bool) → Agrees c x val → (w t : AbsCells) → Shows val wide w → Shows val kept t → val e ≡ f w t

-- an edge is true exactly where a fact of three coded states holds: of the window, before the step and after it
unfoldable pub TellsSides : Network → List (List Possible) → List (List Possible) → List (List Possible) → Edge → (AbsCells → AbsCells → AbsCells → Bool) → Type 0
TellsSides c wide before after e f =
    (x : ℕ → Bool) (val : Edge → Bool) → Agrees c x val → (w s t : AbsCells) → Shows val wide w → Shows val before s → Shows val after t → val e ≡ f w s t

-- whether each of these cells of a kept state is that of a window's state, fired nodes read as Other
abbrev pub are_left : Window → Window → AbsCells → AbsCells → List Place → Bool
are_left W K w s ps = list_all (λ (place : Place). same_value (kept_value W w place) (value_at K s place.family place.at)) ps

-- whether a rule may fire under a pattern in a window's state, from one kept state to another
abbrev pub fires : Window → Window → Window → List Formula → TermRule → List AbsNode → List Place → AbsCells → AbsCells → AbsCells → Bool
fires W K L phi r p ps w s t =
    are_left W K w s ps && (all_may_hold W w phi && (may W w p r.guard (passes true) && list_all (becomes L W w t r.updates p) ps))

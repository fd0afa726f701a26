-- Where indices may lead, as leads with edges, and what a read may be there.
use Rattle.std.specs.Prelude.{ℕ, ◌≡◌, Bool, ◌&&◌, List, map, slice_get, unwrap_or, Option, None, Some, All, if◌then◌else◌}
use Rattle.std.specs.List.{list_any}
use Rattle.term_core.specs.declared.term.Term.{Term}
use Rattle.term_core.specs.Cells.{is_cell, place_of}
use Rattle.circuit_core.specs.declared.edge.Edge.{Edge}
use Rattle.circuit_core.specs.Network.{Network, IsEdge}
use Rattle.other_abstract.specs.declared.node.AbsNode.{AbsNode}
use Rattle.other_abstract.specs.declared.value.AbsValue.{AbsValue}
use Rattle.other_abstract.specs.declared.value.AbsValue.TheVariants.{Undefined}
use Rattle.other_abstract.specs.declared.lead.Lead.{Lead}
use Rattle.other_abstract.specs.declared.lead.Lead.TheVariants.{At, Anywhere, Nowhere}
use Rattle.other_abstract.specs.Windows.{Window, size, node_number}
use Rattle.other_abstract.specs.May.{AbsCells}
use Rattle.other_abstract.specs.Tests.{any_values}
use Rattle.other_abstract.specs.Lists.{list_lead}
use Rattle.bit_encode.specs.declared.set.Possible.{Possible}
use Rattle.bit_encode.specs.declared.leads.PossibleLead.{PossibleLead}
use Rattle.bit_encode.specs.MaySets.{held}
use Rattle.bit_encode.specs.Coding.{Shows}

-- whether a lead that passes a test is possible: the edge of some such lead is true
abbrev pub held_lead : (Edge → Bool) → (Lead → Bool) → List PossibleLead → Bool
held_lead val q rs = list_any (λ (o : PossibleLead). q o.lead && val o.edge) rs

-- each edge is one of the circuit
abbrev pub HasLeadEdges : Network → List PossibleLead → Type 0
HasLeadEdges c rs = All (λ (o : PossibleLead). IsEdge c o.edge) rs

-- the value at a place of a state; undefined where there is no place, or none of the state
abbrev pub placed_value : AbsCells → Option ℕ → AbsValue
placed_value w None = Undefined
placed_value w (Some k) = unwrap_or (slice_get w k) Undefined

-- the set at a place, if there is one
abbrev pub placed_set : List (List Possible) → Option ℕ → Option (List Possible)
placed_set cells None = None
placed_set cells (Some k) = slice_get cells k

abbrev pub numbers_of : Window → List AbsNode → List ℕ
numbers_of W ns = map (node_number W.kept) ns

-- the set of the cell of a family at these nodes, if there is such a cell
abbrev pub set_at : Window → List (List Possible) → ℕ → List AbsNode → Option (List Possible)
set_at W cells f ns =
    if is_cell (size W) W.families f (numbers_of W ns) then slice_get cells (place_of (size W) W.families f (numbers_of W ns)) else None

-- whether a cell with this set may have a value that passes; where there is no cell, undefined stands for its value
abbrev pub set_passes : (Edge → Bool) → (AbsValue → Bool) → Option (List Possible) → Bool
set_passes val p None = p Undefined
set_passes val p (Some s) = held val p s

-- whether a read may give a value that passes where its indices lead, by the sets of the cells
abbrev pub read_held : (Edge → Bool) → List (List Possible) → Window → ℕ → (AbsValue → Bool) → Lead → Bool
read_held val cells W f p (At ns) = set_passes val p (set_at W cells f ns)
read_held val cells W f p Anywhere = list_any p (any_values W f)
read_held val cells W f p Nowhere = p Undefined

-- The leads are those of indices: whatever state the edges of the cells code, the edges are true exactly for the leads
-- that the indices may have in that state, with these nodes for their variables.
unfoldable pub IsLed : (Edge → Bool) → List (List Possible) → Window → List AbsNode → List Term → List PossibleLead → Type 0
IsLed val cells W env ts rs = (w : AbsCells) → Shows val cells w → (q : Lead → Bool) → held_lead val q rs ≡ list_lead W w env ts q

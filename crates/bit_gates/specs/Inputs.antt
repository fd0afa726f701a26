-- The inputs of a circuit as the layout has them.
use Rattle.std.specs.Prelude.{◌≡◌, ℕ, ◌<◌, ◌&&◌, Bool, List, length, map, All}
use Rattle.std.specs.List.{slice_index_or}
use Rattle.circuit_core.specs.declared.edge.Edge.{Edge}
use Rattle.circuit_core.specs.Network.{Network, IsEdge}
use Rattle.other_abstract.specs.declared.machine.AbstractMachine.{AbstractMachine}
use Rattle.other_abstract.specs.Machines.{window, fired_of}
use Rattle.other_abstract.specs.Stepping.{all_may_hold}
use Rattle.other_abstract.specs.Tests.{window_nodes}
use Rattle.other_abstract.specs.Places.{places}
use Rattle.bit_encode.specs.declared.set.Possible.{Possible}
use Rattle.bit_encode.specs.Codes.{bits_at, is_legal}
use Rattle.bit_encode.specs.MaySets.{Agrees}
use Rattle.bit_encode.specs.Coding.{HasCells, AreCoded}
use Rattle.bit_encode.specs.Steps.{TellsBoth, are_left}
use Rattle.bit_layout.specs.declared.choice.Choice.{Choice}
use Rattle.bit_layout.specs.Layout.{lists_in, window_place}
use Rattle.bit_gates.specs.declared.window.CodedWindow.{CodedWindow}
use Rattle.bit_gates.specs.declared.window.Opened.{Opened}
use Rattle.bit_gates.specs.Facts.{IsFact}

-- The sets are those of the cells of a window with so many fired nodes, coded from this place on.
pub record IsWindowOf (M : AbstractMachine) (c : Network) (w : CodedWindow) (fired place : ℕ) : Type 0 where
  pub number : w.fired ≡ fired
  pub nodes : w.nodes.items ≡ window_nodes (window M fired)
  pub edges : HasCells c w.cells.items
  pub coded : (x : ℕ → Bool) (val : Edge → Bool) → Agrees c x val → AreCoded val x place (lists_in M fired) w.cells.items

-- windows with 0 fired nodes, 1 and so on, one after the other
pub record AreWindows (M : AbstractMachine) (c : Network) (ws : List CodedWindow) (count : ℕ) : Type 0 where
  pub many : length ws ≡ count
  pub each : (j : ℕ) (d : CodedWindow) → j < count → IsWindowOf M c (slice_index_or ws j d) j (window_place M j)

-- edges are these bits of the assignment, from this place on
pub record AreBits (c : Network) (bits : List Edge) (place count : ℕ) : Type 0 where
  pub edges : All (IsEdge c) bits
  pub value : (x : ℕ → Bool) (val : Edge → Bool) → Agrees c x val → map val bits ≡ bits_at x place count

-- What the window asks by itself: that its code is legal, and that the kept state before the step is that of the window,
-- fired nodes read as Other, and all formulas may hold for all nodes of the window.
pub record IsOpened (M : AbstractMachine) (c : Network) (o : Opened) (wide before : List (List Possible)) (fired place : ℕ) : Type 0 where
  pub legal_edge : IsEdge c o.legal
  pub ready_edge : IsEdge c o.ready
  pub legal : IsFact c o.legal (λ x. is_legal x place (lists_in M fired))
  pub opens : TellsBoth c wide before o.ready
      (λ w s. are_left (window M fired) (window M 0) w s (places (window M 0)) && all_may_hold (window M fired) w M.formulas)

-- what windows ask by themselves, each at its place
pub record AreOpened (M : AbstractMachine) (c : Network) (os : List Opened) (ws : List CodedWindow) (before : List (List Possible)) (count : ℕ) : Type 0 where
  pub many : length os ≡ count
  pub each : (j : ℕ) (o : Opened) (d : CodedWindow) → j < count → IsOpened M c (slice_index_or os j o) (slice_index_or ws j d).cells.items before j (window_place M j)

-- the choices name rules, of which there are so many, and windows, of which there are so many
abbrev pub AreWithin : ℕ → ℕ → List Choice → Type 0
AreWithin rules windows choices = All (λ (c : Choice). (c.number < rules) × (fired_of c.pattern < windows)) choices

-- What holds of codes. Each statement is the contract of a public function of `laws` that does nothing.
use Rattle.std.specs.Prelude.{◌≡◌, ◌↔◌, Some, slice_get, ℕ, ◌<◌, ◌≤◌, ◌^◌, Bool, List, length, IsTrue}
use Rattle.circuit_core.specs.declared.edge.Edge.{Edge}
use Rattle.other_abstract.specs.declared.value.AbsValue.{AbsValue}
use Rattle.bit_encode.specs.declared.set.Possible.{Possible}
use Rattle.other_abstract.specs.declared.node.AbsNode.{AbsNode}
use Rattle.other_abstract.specs.Windows.{Window, same_value}
use Rattle.other_abstract.specs.Machines.{read_kept}
use Rattle.term_core.specs.declared.machine.TermRule.{TermRule}
use Rattle.other_abstract.specs.declared.machine.AbstractMachine.{AbstractMachine}
use Rattle.other_abstract.specs.May.{AbsCells}
use Rattle.other_abstract.specs.Machines.{FitsWindow, IsPattern, AbsFires, Violates, window, fired_of}
use Rattle.other_abstract.specs.Places.{places}
use Rattle.other_abstract.specs.Stepping.{is_step}
use Rattle.circuit_core.specs.Network.{Network}
use Rattle.std.specs.List.{list_any}
use Rattle.lemma_strengthen.specs.declared.formula.Formula.{Formula}
use Rattle.other_abstract.specs.Tests.{may_fail}
use Rattle.bit_encode.specs.Terms.{TellsIn}
use Rattle.bit_encode.specs.Steps.{TellsSides, fires}
use Rattle.bit_encode.specs.MaySets.{Agrees, held}
use Rattle.bit_encode.specs.Forms.{FormsAreSaid}
use Rattle.bit_encode.specs.Codes.{width, number_of, bits_of, bits_at, coded_place, cell_lists, coded_state, is_legal}
use Rattle.bit_encode.specs.Coding.{Shows, AreCoded, IsExactly, legal_edges}

-- The bits of a number stand for it, where there are enough of them.
abbrev pub BitsStandForNumbers : Type 0
BitsStandForNumbers = (w n : ℕ) → n < 2 ^ w → number_of (bits_of w n) ≡ n

-- The width is the least that is enough.
abbrev pub WidthsAreLeast : Type 0
WidthsAreLeast = (n : ℕ) → (n ≤ 2 ^ width n) × ((b : ℕ) → n ≤ 2 ^ b → width n ≤ b)

-- Inputs that are the bits of a position of the list code that position.
abbrev pub PositionsHaveCodes : Type 0
PositionsHaveCodes =
    (x : ℕ → Bool) (first : ℕ) (values : List AbsValue) (place : ℕ)
    → place < length values
    → bits_at x first (width (length values)) ≡ bits_of (width (length values)) place
    → coded_place x first values ≡ place

-- Where the sets of cells are coded by inputs and the code is legal, the sets show the coded state.
abbrev pub LegalCodesShowStates : Type 0
LegalCodesShowStates =
    (val : Edge → Bool) (x : ℕ → Bool) (first : ℕ) (lists : List (List AbsValue)) (cells : List (List Possible))
    → AreCoded val x first lists cells
    → IsTrue (is_legal x first lists)
    → Shows val cells (coded_state x first lists)

-- The code is legal exactly where each cell has some value.
abbrev pub LegalCodesAreSeen : Type 0
LegalCodesAreSeen =
    (val : Edge → Bool) (x : ℕ → Bool) (first : ℕ) (lists : List (List AbsValue)) (cells : List (List Possible))
    → AreCoded val x first lists cells
    → legal_edges val cells ≡ is_legal x first lists

-- A legal code is of a state of the window: it has a value for each cell, and each is one that the cell may have.
abbrev pub LegalCodesFit : Type 0
LegalCodesFit = (W : Window) (x : ℕ → Bool) (first : ℕ) → IsTrue (is_legal x first (cell_lists W)) → FitsWindow W (coded_state x first (cell_lists W))

-- Where each of two sets has one value, the edge of their agreement is true exactly where the one, with a fired node
-- read as Other, is the other.
abbrev pub AgreementIsSeen : Type 0
AgreementIsSeen =
    (val : Edge → Bool) (from to : List Possible) (v w : AbsValue)
    → IsExactly val from v
    → IsExactly val to w
    → held val (λ u. held val (same_value (read_kept u)) to) from ≡ same_value (read_kept v) w

-- The sets of all forms but reads come from those of their parts.
abbrev pub FormsComeFromParts : Type 0
FormsComeFromParts = (val : Edge → Bool) (cells : List (List Possible)) (W : Window) (env : List AbsNode) → FormsAreSaid val cells W env

-- Over the cells of the kept nodes in order, what firing a rule under a pattern asks of the three states is the step of
-- the abstract machine, for a kept state that has a value for each of them.
abbrev pub FiringIsAStep : Type 0
FiringIsAStep =
    (M : AbstractMachine) (r : TermRule) (p : List AbsNode) (s w t : AbsCells)
    → length s ≡ length (places (window M 0))
    → fires (window M (fired_of p)) (window M 0) (window M 0) M.formulas r p (places (window M 0)) w s t ≡ is_step M s r p w t

-- So where the sets of the window and of the two kept states are coded by inputs and the codes are legal, an edge that tells
-- what firing asks is true exactly where the coded states are those of a step.
abbrev pub CodedFiringIsAStep : Type 0
CodedFiringIsAStep =
    (M : AbstractMachine) (r : TermRule) (p : List AbsNode) (c : Network) (x : ℕ → Bool) (val : Edge → Bool) (a b d : ℕ)
    (wide before after : List (List Possible)) (e : Edge)
    → Agrees c x val
    → AreCoded val x a (cell_lists (window M (fired_of p))) wide
    → IsTrue (is_legal x a (cell_lists (window M (fired_of p))))
    → AreCoded val x b (cell_lists (window M 0)) before
    → IsTrue (is_legal x b (cell_lists (window M 0)))
    → AreCoded val x d (cell_lists (window M 0)) after
    → IsTrue (is_legal x d (cell_lists (window M 0)))
    → TellsSides c wide before after e (fires (window M (fired_of p)) (window M 0) (window M 0) M.formulas r p (places (window M 0)))
    → val e ≡ is_step M (coded_state x b (cell_lists (window M 0))) r p (coded_state x a (cell_lists (window M (fired_of p)))) (coded_state x d (cell_lists (window M 0)))

-- And so, for a rule of the machine and a pattern of it, the edge is true exactly where firing the rule leads from the one
-- coded kept state to the other by the coded state of the window.
abbrev pub CodedStepsAreSteps : Type 0
CodedStepsAreSteps =
    (M : AbstractMachine) (k : ℕ) (r : TermRule) (p : List AbsNode) (c : Network) (x : ℕ → Bool) (val : Edge → Bool) (a b d : ℕ)
    (wide before after : List (List Possible)) (e : Edge)
    → slice_get M.machine.rules k ≡ Some r
    → IsPattern M.kept r p
    → Agrees c x val
    → AreCoded val x a (cell_lists (window M (fired_of p))) wide
    → IsTrue (is_legal x a (cell_lists (window M (fired_of p))))
    → AreCoded val x b (cell_lists (window M 0)) before
    → IsTrue (is_legal x b (cell_lists (window M 0)))
    → AreCoded val x d (cell_lists (window M 0)) after
    → IsTrue (is_legal x d (cell_lists (window M 0)))
    → TellsSides c wide before after e (fires (window M (fired_of p)) (window M 0) (window M 0) M.formulas r p (places (window M 0)))
    → IsTrue (val e)
    ↔ AbsFires M (coded_state x b (cell_lists (window M 0))) k p (coded_state x a (cell_lists (window M (fired_of p)))) (coded_state x d (cell_lists (window M 0)))

-- Where the sets of a kept state are coded by inputs and the code is legal, an edge that tells that some formula may be
-- false is true exactly where the coded state violates a formula.
abbrev pub CodedViolationsAreViolations : Type 0
CodedViolationsAreViolations =
    (M : AbstractMachine) (c : Network) (x : ℕ → Bool) (val : Edge → Bool) (a : ℕ) (cells : List (List Possible)) (e : Edge)
    → Agrees c x val
    → AreCoded val x a (cell_lists (window M 0)) cells
    → IsTrue (is_legal x a (cell_lists (window M 0)))
    → TellsIn c cells e (λ w. list_any (λ (f : Formula). may_fail (window M 0) w f.prefix f.body) M.formulas)
    → IsTrue (val e) ↔ ((k : ℕ) × (f : Formula) × (slice_get M.formulas k ≡ Some f) × Violates M (coded_state x a (cell_lists (window M 0))) f)

-- What holds whatever the machine. Each statement is proved: it is the contract of a public function of
-- `laws` that does nothing, and crates above call that function where they use the law.
use Rattle.std.specs.Prelude.{◌≡◌, ◌↔◌, ◌⊎◌, ℕ, ◌+◌, ◌<◌, ◌≤◌, List, ◌++◌, length, Some, slice_get, IsTrue}
use Rattle.std.specs.List.{All, Contains}
use Rattle.term_core.specs.declared.value.Value.{Value}
use Rattle.term_core.specs.declared.value.Value.TheVariants.{Node}
use Rattle.term_core.specs.declared.value.Sort.{Sort}
use Rattle.term_core.specs.declared.machine.CellFamily.{CellFamily}
use Rattle.term_core.specs.declared.machine.Piece.{Piece}
use Rattle.term_core.specs.declared.machine.TermMachine.{TermMachine}
use Rattle.term_core.specs.declared.term.Term.{Term}
use Rattle.term_core.specs.Nodes.{AreNodes, choices}
use Rattle.term_core.specs.Values.{is_of_sort, values_of_sort}
use Rattle.term_core.specs.Meaning.{Cells, value_of}
use Rattle.term_core.specs.Cells.{Cell, State, IsState, cells, cells_from, is_cell, place_of, choice_place, table, table_value, table_with, cell_value, filled, may_have, family_may_have, family_values}
use Rattle.term_core.specs.Variables.{free_variables, fits}
use Rattle.term_core.specs.Reading.{occurs, cells_read}
use Rattle.term_core.specs.Firing.{HasFalsePiece, AllPiecesHold, Label, IsRun, IsLabelledRun}
use Rattle.term_core.specs.Substitution.{placed}

-- Placing

-- Placing binds all variables at once: where each term that comes in place of a variable that occurs stands
-- for a node, the placed term has the value of the term in the frame of these nodes.
abbrev pub PlacingBinds : Type 0
PlacingBinds =
    (N : ℕ) (read : Cells) (frame ns : List ℕ) (to : ℕ) (terms : List Term) (t : Term)
    → length frame ≡ to
    → length ns ≡ length terms
    → ((k : ℕ) (by : Term) (n : ℕ) → IsTrue (occurs k t) → slice_get terms k ≡ Some by → slice_get ns k ≡ Some n
    → value_of N read frame by ≡ Node n)
    → value_of N read frame (placed to terms t) ≡ value_of N read ns t

-- A placed term has its free variables below those of the frame that it is for, or as far past them as the
-- term had its own past the list.
abbrev pub PlacingBounds : Type 0
PlacingBounds =
    (to more : ℕ) (terms : List Term) (t : Term)
    → All (λ by. free_variables by ≤ to) terms
    → free_variables t ≤ length terms + more
    → free_variables (placed to terms t) ≤ to + more

-- Where the terms that come in fit the families, a placed term fits exactly where the term does.
abbrev pub PlacingFits : Type 0
PlacingFits =
    (families : List CellFamily) (to : ℕ) (terms : List Term) (t : Term)
    → All (λ by. IsTrue (fits families by)) terms
    → fits families (placed to terms t) ≡ fits families t

-- Reading

-- What a term reads that fits the families are cells of them.
abbrev pub ReadsAreCells : Type 0
ReadsAreCells =
    (N : ℕ) (families : List CellFamily) (read : Cells) (frame : List ℕ) (t : Term)
    → IsTrue (fits families t)
    → All (λ c. IsTrue (is_cell N families c.family c.at)) (cells_read N read frame t)

-- So it has one value wherever all cells agree.
abbrev pub CellsGiveValues : Type 0
CellsGiveValues =
    (N : ℕ) (families : List CellFamily) (read other : Cells) (frame : List ℕ) (t : Term)
    → IsTrue (fits families t)
    → ((f : ℕ) (at : List ℕ) → IsTrue (is_cell N families f at) → read f at ≡ other f at)
    → value_of N read frame t ≡ value_of N other frame t

-- Choices, cells and values in order

-- A choice of nodes stands at its place among all choices of as many nodes,
abbrev pub ChoicesHavePlaces : Type 0
ChoicesHavePlaces =
    (N count : ℕ) (ns : List ℕ)
    → length ns ≡ count
    → AreNodes N ns
    → slice_get (choices N count) (choice_place N ns) ≡ Some ns

-- and whatever stands among them is a choice of as many nodes, at its place.
abbrev pub PlacesHaveChoices : Type 0
PlacesHaveChoices =
    (N count place : ℕ) (ns : List ℕ)
    → slice_get (choices N count) place ≡ Some ns
    → (length ns ≡ count) × AreNodes N ns × (choice_place N ns ≡ place)

-- Whatever stands among the cells is a cell, at its place.
abbrev pub PlacesHaveCells : Type 0
PlacesHaveCells =
    (N : ℕ) (families : List CellFamily) (place : ℕ) (c : Cell)
    → slice_get (cells N families) place ≡ Some c
    → IsTrue (is_cell N families c.family c.at) × (place_of N families c.family c.at ≡ place)

-- The values of a sort are listed, and so are those that a cell of a family may have.
abbrev pub SortsListValues : Type 0
SortsListValues = (N : ℕ) (sort : Sort) (v : Value) → IsTrue (is_of_sort N sort v) ↔ Contains (values_of_sort N sort) v

abbrev pub FamiliesListValues : Type 0
FamiliesListValues = (N : ℕ) (family : CellFamily) (v : Value) → IsTrue (family_may_have N family v) ↔ Contains (family_values N family) v

-- Tables of values of one type

-- A table has a value for each cell,
abbrev pub TablesAreWhole : Type 0 → Type 0
TablesAreWhole X = (N : ℕ) (families : List CellFamily) (g : ℕ → List ℕ → X) → length (table N families g) ≡ length (cells N families)

-- at each cell that of its function.
abbrev pub TablesHaveValues : Type 0 → Type 0
TablesHaveValues X =
    (N : ℕ) (families : List CellFamily) (none : X) (g : ℕ → List ℕ → X) (f : ℕ) (at : List ℕ)
    → IsTrue (is_cell N families f at)
    → table_value N families none (table N families g) f at ≡ g f at

-- A cell that is written has the new value,
abbrev pub WritingGives : Type 0 → Type 0
WritingGives X =
    (N : ℕ) (families : List CellFamily) (none : X) (s : List X) (f : ℕ) (at : List ℕ) (new : X)
    → length s ≡ length (cells N families)
    → IsTrue (is_cell N families f at)
    → table_value N families none (table_with N families s f at new) f at ≡ new

-- and every other one its old value.
abbrev pub WritingKeeps : Type 0 → Type 0
WritingKeeps X =
    (N : ℕ) (families : List CellFamily) (none : X) (s : List X) (f g : ℕ) (at other : List ℕ) (new : X)
    → IsTrue (is_cell N families f at)
    → IsTrue (is_cell N families g other)
    → ((f ≡ g) × (at ≡ other) → ⊥)
    → table_value N families none (table_with N families s f at new) g other ≡ table_value N families none s g other

-- Tables that have one value at each cell are one.
abbrev pub ValuesMakeTables : Type 0 → Type 0
ValuesMakeTables X =
    (N : ℕ) (families : List CellFamily) (none : X) (s t : List X)
    → length s ≡ length (cells N families)
    → length t ≡ length (cells N families)
    → ((f : ℕ) (at : List ℕ) → IsTrue (is_cell N families f at) → table_value N families none s f at ≡ table_value N families none t f at)
    → s ≡ t

-- A state filled with values that the cells may have is a state.
abbrev pub FilledIsState : Type 0
FilledIsState =
    (N : ℕ) (families : List CellFamily) (g : ℕ → List ℕ → Value)
    → ((f : ℕ) (at : List ℕ) → IsTrue (is_cell N families f at) → IsTrue (may_have N families f (g f at)))
    → IsState N families (filled N families g)

-- Families after other families

-- The cells of the families after others come after theirs, and are numbered on from them.
abbrev pub AppendedCells : Type 0
AppendedCells = (N : ℕ) (fs gs : List CellFamily) → cells N (fs ++ gs) ≡ cells N fs ++ cells_from N (length fs) gs

-- The families before keep their numbers, their cells, what these may have, and their values,
abbrev pub FirstFamilies : Type 0
FirstFamilies =
    (N : ℕ) (fs gs : List CellFamily) (s t : State) (f : ℕ) (at : List ℕ) (v : Value)
    → length s ≡ length (cells N fs)
    → f < length fs
    → (is_cell N (fs ++ gs) f at ≡ is_cell N fs f at)
    × (may_have N (fs ++ gs) f v ≡ may_have N fs f v)
    × (cell_value N (fs ++ gs) (s ++ t) f at ≡ cell_value N fs s f at)

-- and those after have theirs under numbers that are as much greater.
abbrev pub LaterFamilies : Type 0
LaterFamilies =
    (N : ℕ) (fs gs : List CellFamily) (s t : State) (f : ℕ) (at : List ℕ) (v : Value)
    → length s ≡ length (cells N fs)
    → (is_cell N (fs ++ gs) (length fs + f) at ≡ is_cell N gs f at)
    × (may_have N (fs ++ gs) (length fs + f) v ≡ may_have N gs f v)
    × (cell_value N (fs ++ gs) (s ++ t) (length fs + f) at ≡ cell_value N gs t f at)

-- A term that fits families fits more of them.
abbrev pub MoreFamiliesFit : Type 0
MoreFamiliesFit = (fs gs : List CellFamily) (t : Term) → IsTrue (fits fs t) → IsTrue (fits (fs ++ gs) t)

-- Pieces and runs

-- Of a list of pieces all hold, or some is false,
abbrev pub PiecesHoldOrFail : Type 0
PiecesHoldOrFail = (N : ℕ) (read : Cells) (pieces : List Piece) (p : List ℕ) → AllPiecesHold N read pieces p ⊎ HasFalsePiece N read pieces p

-- and never both.
abbrev pub PiecesNeverBoth : Type 0
PiecesNeverBoth =
    (N : ℕ) (read : Cells) (pieces : List Piece) (p : List ℕ) → AllPiecesHold N read pieces p
    → HasFalsePiece N read pieces p → ⊥

-- A start and firings give the states of one run,
abbrev pub LabelsGiveOneRun : Type 0
LabelsGiveOneRun =
    (N : ℕ) (m : TermMachine) (start : Label) (labels : List Label) (states others : List State)
    → IsLabelledRun N m start labels states
    → IsLabelledRun N m start labels others
    → states ≡ others

-- what they give is a run,
abbrev pub LabelledRunsAreRuns : Type 0
LabelledRunsAreRuns =
    (N : ℕ) (m : TermMachine) (start : Label) (labels : List Label) (states : List State)
    → IsLabelledRun N m start labels states
    → IsRun N m states

-- and some start and firings give each run.
abbrev pub RunsHaveLabels : Type 0
RunsHaveLabels =
    (N : ℕ) (m : TermMachine) (states : List State)
    → IsRun N m states
    → (start : Label) × (labels : List Label) × IsLabelledRun N m start labels states

-- When a machine of terms presents a typed protocol: for every number of nodes it has the same starts, guards,
-- faults and steps. The cells of a protocol and those of a machine stand in different orders; they are related by
-- variable, field names and indices.
use Rattle.std.specs.Prelude.{◌≡◌, ℕ, ◌≤◌, false, List, [], ◌∷◌, Option, None, Some, slice_get, IsTrue}
use Rattle.std.specs.Option.{option_map_or}
use Rattle.term_core.specs.declared.value.Value.{Value}
use Rattle.term_core.specs.declared.value.Value.TheVariants as value
use Rattle.term_core.specs.declared.machine.CellFamily.{CellFamily}
use Rattle.term_core.specs.declared.machine.TermRule.{TermRule}
use Rattle.term_core.specs.declared.machine.TermMachine.{TermMachine}
use Rattle.term_core.specs.Meaning.{Cells, holds}
use Rattle.term_core.specs.Cells.{State as MachineState, cell_value, filled, blank_state}
use Rattle.term_core.specs.Firing.{IsChoice, HasFalsePiece, AllPiecesHold, IsStep, start_state}
use Rattle.murphi_typed.specs.declared.protocol.Rule.{Rule}
use Rattle.murphi_typed.specs.declared.protocol.Start.{Start}
use Rattle.murphi_typed.specs.declared.protocol.Typed.{Typed}
use Rattle.murphi_typed.specs.Families.{path_of}
use Rattle.murphi_typed.specs.Store.{Global, Cells as Store}
use Rattle.murphi_typed.specs.Outcome.{Outcome, Got, Fault}
use Rattle.murphi_typed.specs.Steps.{State, cells_of, are_parameters, started, fired}
use Rattle.murphi_typed.specs.Keeping.{IsState}
use Rattle.rule_inline.specs.Tables.{Key}
use Rattle.rule_inline.specs.Machine.{CellsOf, families_of}

-- indices with nodes in the holes
abbrev pub at_nodes : Key → List ℕ → List Value
at_nodes [] ns = []
at_nodes (Some v ∷ key) ns = v ∷ at_nodes key ns
at_nodes (None ∷ key) [] = []
at_nodes (None ∷ key) (n ∷ ns) = value.Node n ∷ at_nodes key ns

-- the cell of a family at these nodes
abbrev pub cell_in : Store → CellsOf → List ℕ → Value
cell_in now c ns = now (Global c.global) (path_of c.steps) (at_nodes c.key ns)

abbrev pub machine_cells : Typed → Store → Cells
machine_cells T now f ns = option_map_or (λ c. cell_in now c ns) (slice_get (families_of T) f) value.Undefined

-- the state of a machine that has the values of a protocol's state
abbrev pub state_over : ℕ → Typed → List CellFamily → State → MachineState
state_over N T families s = filled N families (machine_cells T (cells_of N T s))

-- the nodes among the parameters
abbrev pub nodes_in : List Value → List ℕ
nodes_in [] = []
nodes_in (value.Node n ∷ p) = n ∷ nodes_in p
nodes_in (_ ∷ p) = nodes_in p

-- what a rule of the machine does in a state where the rule of the protocol does this: where the guard faults, or
-- is true and the body faults, some piece is false for some nodes. Else all pieces are true for all nodes; the
-- guard is false where the protocol's is, and where it is true the step leads to the state that the body leaves,
-- and to no other. No list of pieces is both, so each of these is an equivalence.
abbrev pub FiresAs : ℕ → Typed → TermMachine → State → TermRule → List ℕ → Outcome (Option State) → Type 0
FiresAs N T m s r ns (Fault at) = HasFalsePiece N (cell_value N m.families (state_over N T m.families s)) r.ok ns
FiresAs N T m s r ns (Got None) =
    AllPiecesHold N (cell_value N m.families (state_over N T m.families s)) r.ok ns
    × (holds N (cell_value N m.families (state_over N T m.families s)) ns r.guard ≡ false)
FiresAs N T m s r ns (Got (Some next)) =
    AllPiecesHold N (cell_value N m.families (state_over N T m.families s)) r.ok ns
    × IsStep N m.families (state_over N T m.families s) r ns (state_over N T m.families next)

-- the same of a start, whose terms are taken in the state before anything is written
abbrev pub StartsAs : ℕ → Typed → TermMachine → TermRule → List ℕ → Outcome State → Type 0
StartsAs N T m r ns (Fault at) = HasFalsePiece N (cell_value N m.families (blank_state N m.families)) r.ok ns
StartsAs N T m r ns (Got next) =
    AllPiecesHold N (cell_value N m.families (blank_state N m.families)) r.ok ns
    × (state_over N T m.families next ≡ start_state N m.families r ns)

-- an instance of a rule of the protocol is one of the machine's, with the parameters that are nodes
pub record IsInstance (N : ℕ) (rules : List TermRule) (title : List ℕ) (p : List Value) (r : TermRule) (ns : List ℕ) : Type 0 where
  pub number : ℕ
  pub found : slice_get rules number ≡ Some r
  pub title_is : r.title ≡ title
  pub choice : IsChoice N r ns
  pub nodes_are : nodes_in p ≡ ns

-- rule k of the protocol with these parameters
pub record HasRule (N : ℕ) (T : Typed) (m : TermMachine) (k : ℕ) (p : List Value) (r : TermRule) (ns : List ℕ) : Type 0 where
  pub rule : Rule
  pub found : slice_get T.rules k ≡ Some rule
  pub parameters : IsTrue (are_parameters N rule.params p)
  pub is_instance : IsInstance N m.rules rule.title p r ns
  pub fires : (s : State) → IsState N T s → FiresAs N T m s r ns (fired N T rule p s)

pub record HasStart (N : ℕ) (T : Typed) (m : TermMachine) (k : ℕ) (p : List Value) (r : TermRule) (ns : List ℕ) : Type 0 where
  pub start : Start
  pub found : slice_get T.starts k ≡ Some start
  pub parameters : IsTrue (are_parameters N start.params p)
  pub is_instance : IsInstance N m.starts start.title p r ns
  pub starts : StartsAs N T m r ns (started N T start p)

-- a machine presents a protocol: with any number of nodes from 1 up each rule and each start, with whatever
-- parameters, is one of the machine's and does the same in every state; and the machine has no others
pub record Presents (T : Typed) (m : TermMachine) : Type 0 where
  pub rules : (N k : ℕ) (rule : Rule) (p : List Value) → 1 ≤ N → slice_get T.rules k ≡ Some rule
      → IsTrue (are_parameters N rule.params p) → (r : TermRule) × (ns : List ℕ) × HasRule N T m k p r ns
  pub starts : (N k : ℕ) (start : Start) (p : List Value) → 1 ≤ N → slice_get T.starts k ≡ Some start
      → IsTrue (are_parameters N start.params p) → (r : TermRule) × (ns : List ℕ) × HasStart N T m k p r ns
  pub other_rules : (N number : ℕ) (r : TermRule) (ns : List ℕ) → 1 ≤ N → slice_get m.rules number ≡ Some r
      → IsChoice N r ns → (k : ℕ) × (p : List Value) × HasRule N T m k p r ns
  pub other_starts : (N number : ℕ) (r : TermRule) (ns : List ℕ) → 1 ≤ N → slice_get m.starts number ≡ Some r
      → IsChoice N r ns → (k : ℕ) × (p : List Value) × HasStart N T m k p r ns

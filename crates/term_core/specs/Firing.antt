-- Starts, steps and runs of a machine with N nodes. In a guard the variables are the rule's node
-- parameters. In an update they are the parameters and then the cell's indices, in a piece the parameters
-- and then its binders. All terms of a step are taken in the state before it.
use Rattle.std.specs.Prelude.{◌≡◌, ℕ, Bool, true, false, nat_eq, List, [], ◌∷◌, ◌++◌, length, count_by, Option, None, Some, if◌then◌else◌, slice_get, IsTrue}
use Rattle.std.specs.List.{All}
use Rattle.std.specs.Option.{option_map_or}
use Rattle.term_core.specs.declared.value.Value.{Value}
use Rattle.term_core.specs.declared.value.Value.TheVariants.{Undefined, Node}
use Rattle.term_core.specs.declared.term.Term.{Term}
use Rattle.term_core.specs.declared.machine.CellFamily.{CellFamily}
use Rattle.term_core.specs.declared.machine.Piece.{Piece}
use Rattle.term_core.specs.declared.machine.Update.{Update}
use Rattle.term_core.specs.declared.machine.TermRule.{TermRule}
use Rattle.term_core.specs.declared.machine.TermMachine.{TermMachine}
use Rattle.term_core.specs.Nodes.{AreNodes}
use Rattle.term_core.specs.Meaning.{Cells, value_of, holds}
use Rattle.term_core.specs.Cells.{State, is_cell, cell_value, filled, may_have, blank_state}

abbrev pub is_node_value : Value → Bool
is_node_value (Node n) = true
is_node_value _ = false

-- how many parameters of a rule are nodes
abbrev pub node_parameters : TermRule → ℕ
node_parameters r = count_by is_node_value r.values

-- a node for each node parameter of the rule
pub record IsChoice (N : ℕ) (r : TermRule) (p : List ℕ) : Type 0 where
  pub count : length p ≡ node_parameters r
  pub nodes : AreNodes N p

-- the guard of a rule is true
abbrev pub IsEnabled : ℕ → Cells → TermRule → List ℕ → Type 0
IsEnabled N cells r p = IsTrue (holds N cells p r.guard)

-- a piece is false for these nodes as its binders
pub record IsFalseFor (N : ℕ) (cells : Cells) (p : List ℕ) (piece : Piece) (bound : List ℕ) : Type 0 where
  pub count : length bound ≡ piece.binders
  pub nodes : AreNodes N bound
  pub false_there : holds N cells (p ++ bound) piece.body ≡ false

-- a piece is true for all nodes as its binders
abbrev pub IsTrueForAll : ℕ → Cells → List ℕ → Piece → Type 0
IsTrueForAll N cells p piece =
    (bound : List ℕ) → length bound ≡ piece.binders → AreNodes N bound → IsTrue (holds N cells (p ++ bound) piece.body)

-- some piece of a list is false for some nodes
abbrev pub HasFalsePiece : ℕ → Cells → List Piece → List ℕ → Type 0
HasFalsePiece N cells pieces p =
    (k : ℕ) × (piece : Piece) × (slice_get pieces k ≡ Some piece)
    × ((bound : List ℕ) × IsFalseFor N cells p piece bound)

-- all pieces of a list are true for all nodes
abbrev pub AllPiecesHold : ℕ → Cells → List Piece → List ℕ → Type 0
AllPiecesHold N cells pieces p = All (IsTrueForAll N cells p) pieces

-- the term that writes the cells of a family, if there is one
abbrev pub update_for : List Update → ℕ → Option Term
update_for [] f = None
update_for (u ∷ us) f = if nat_eq u.family f then Some u.body else update_for us f

-- whether a rule writes the cells of a family
abbrev pub is_written : TermRule → ℕ → Bool
is_written r f = option_map_or (λ _. true) (update_for r.updates f) false

-- what firing a rule makes of a cell: the value of the update of its family, or else its old value
abbrev pub new_value : ℕ → Cells → TermRule → List ℕ → ℕ → List ℕ → Value
new_value N cells r p f at = option_map_or (λ body. value_of N cells (p ++ at) body) (update_for r.updates f) (cells f at)

-- what firing a rule makes of a state
abbrev pub next_state : ℕ → List CellFamily → State → TermRule → List ℕ → State
next_state N families s r p = filled N families (new_value N (cell_value N families s) r p)

-- firing a rule leads from one state to the other: its guard is true, and each cell that it writes may have
-- the value that it gets
pub record IsStep (N : ℕ) (families : List CellFamily) (s : State) (r : TermRule) (p : List ℕ) (t : State) : Type 0 where
  pub enabled : IsEnabled N (cell_value N families s) r p
  pub next : t ≡ next_state N families s r p
  pub allowed : (f : ℕ) (at : List ℕ) → IsTrue (is_cell N families f at) → IsTrue (is_written r f) →
      IsTrue (may_have N families f (new_value N (cell_value N families s) r p f at))

-- a value that a cell of this family cannot have counts as undefined
abbrev pub settled : ℕ → List CellFamily → ℕ → Value → Value
settled N families f v = if may_have N families f v then v else Undefined

-- what a start makes of a cell; its terms are taken in the state before anything is written
abbrev pub start_value : ℕ → List CellFamily → TermRule → List ℕ → ℕ → List ℕ → Value
start_value N families r p f at = settled N families f (new_value N (cell_value N families (blank_state N families)) r p f at)

-- the state that a start leaves
abbrev pub start_state : ℕ → List CellFamily → TermRule → List ℕ → State
start_state N families r p = filled N families (start_value N families r p)

-- start k of the machine, with these nodes, leaves this state
abbrev pub Starts : ℕ → TermMachine → ℕ → List ℕ → State → Type 0
Starts N m k p t = (r : TermRule) × (slice_get m.starts k ≡ Some r) × IsChoice N r p × (t ≡ start_state N m.families r p)

-- rule k of the machine, with these nodes, leads from one state to the other
abbrev pub Fires : ℕ → TermMachine → State → ℕ → List ℕ → State → Type 0
Fires N m s k p t = (r : TermRule) × (slice_get m.rules k ≡ Some r) × IsChoice N r p × IsStep N m.families s r p t

-- a run, its last state first
abbrev pub IsRun : ℕ → TermMachine → List State → Type 0
IsRun N m [] = ⊥
IsRun N m (s ∷ []) = (k : ℕ) × (p : List ℕ) × Starts N m k p s
IsRun N m (t ∷ s ∷ earlier) = ((k : ℕ) × (p : List ℕ) × Fires N m s k p t) × IsRun N m (s ∷ earlier)

-- a start or a rule by its number, with the nodes that it is taken for
pub record Label : Type 0 where
  pub number : ℕ
  pub nodes : List ℕ

-- the run that a start and firings give, the last firing and the last state first
abbrev pub IsLabelledRun : ℕ → TermMachine → Label → List Label → List State → Type 0
IsLabelledRun N m start [] (s ∷ []) = Starts N m start.number start.nodes s
IsLabelledRun N m start (l ∷ ls) (t ∷ s ∷ earlier) = Fires N m s l.number l.nodes t × IsLabelledRun N m start ls (s ∷ earlier)
IsLabelledRun N m start _ _ = ⊥

-- a state is reached where some run ends in it
abbrev pub IsReached : ℕ → TermMachine → State → Type 0
IsReached N m s = (earlier : List State) × IsRun N m (s ∷ earlier)

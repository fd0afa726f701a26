-- What the parts of the checker that search for a finding say. They speak of the variables and the items
-- of a protocol, and of states as lists of cells.
use Rattle.std.specs.Prelude.{◌≡◌, ◌≢◌, ℕ, List, ◌++◌, Option, None, Some, slice_get, length}
use Rattle.murphi_ast.specs.declared.rule.RuleDecl.{RuleDecl}
use Rattle.murphi_ast.specs.State.{Name, State, undefined_state}
use Rattle.murphi_ast.specs.Step.{Firing, Disabled, Faults, Moves, fired, started, at_item}
use Rattle.flat_check.specs.declared.Formula.{Formula}
use Rattle.flat_check.specs.declared.Finding.{Finding}
use Rattle.flat_check.specs.declared.Finding.TheVariants.{BadStart, BadStep}
use Rattle.flat_check.specs.declared.Found.{Found}
use Rattle.flat_check.specs.Verdict.{item_formula, first_formula, start_fault}
use Rattle.flat_check.specs.Walk.{violated_in}

-- firing item k as a rule
abbrev pub fired_at : List Name → List RuleDecl → ℕ → State → Firing
fired_at vs items k s = at_item (fired vs s) (slice_get items k)

-- running item k as a start state
abbrev pub started_at : List Name → List RuleDecl → ℕ → Firing
started_at vs items k = at_item (started vs) (slice_get items k)

-- item k leads from the state into none that violates something
pub record IsFineStep (vs : List Name) (items : List RuleDecl) (s : State) (k : ℕ) : Type 0 where
  pub fine : (t : State) → fired_at vs items k s ≡ Moves t → violated_in vs items t ≡ None

-- no step from the state is bad
pub record IsClean (vs : List Name) (items : List RuleDecl) (s : State) : Type 0 where
  pub steps : violated_in vs items s ≡ None → (k : ℕ) → IsFineStep vs items s k

-- nor from any state that begins with these cells and has so many more
pub record IsCleanBelow (vs : List Name) (items : List RuleDecl) (front : State) (left : ℕ) : Type 0 where
  pub clean : (more : State) → length more ≡ left → IsClean vs items (front ++ more)

-- item k does not fault as a start state, and leaves no state that violates something
pub record IsGoodStart (vs : List Name) (items : List RuleDecl) (k : ℕ) : Type 0 where
  pub ends : started_at vs items k ≢ Faults
  pub fine : (s : State) → started_at vs items k ≡ Moves s → violated_in vs items s ≡ None

-- no item is a bad start
pub record AreGoodStarts (vs : List Name) (items : List RuleDecl) : Type 0 where
  pub good : (k : ℕ) → IsGoodStart vs items k

-- no start is bad, and no step from any state
pub record IsClear (vs : List Name) (items : List RuleDecl) : Type 0 where
  pub starts : AreGoodStarts vs items
  pub states : (s : State) → length s ≡ length vs → IsClean vs items s

-- the state that a start state leaves: one that faults counts as leaving every variable undefined
abbrev pub state_in : List Name → Firing → Option State
state_in vs Disabled = None
state_in vs Faults = Some (undefined_state vs)
state_in vs (Moves s) = Some s

-- a finding with the first formula that its last state violates, over the variables and the items
abbrev pub IsFindingIn : List Name → List RuleDecl → Finding → Formula → Type 0
IsFindingIn vs items (BadStart k s) formula =
    (state_in vs (started_at vs items k) ≡ Some s)
    × (first_formula (item_formula (violated_in vs items s)) (start_fault k (started_at vs items k)) ≡ Some formula)
IsFindingIn vs items (BadStep from k to) formula =
    (length from ≡ length vs) × (violated_in vs items from ≡ None) × (fired_at vs items k from ≡ Moves to)
    × (item_formula (violated_in vs items to) ≡ Some formula)

-- the same of what the search hands out
pub record IsFound (vs : List Name) (items : List RuleDecl) (f : Found) : Type 0 where
  pub is : IsFindingIn vs items f.finding f.formula

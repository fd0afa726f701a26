-- Runs of a flat protocol and what is claimed of them. A run is a list of states; the first is a start,
-- and each next one is a step of the one before.
use Rattle.std.specs.Prelude.{◌≡◌, ◌≢◌, ℕ, true, List, [], ◌∷◌, Option, None, Some, slice_get, length}
use Rattle.std.specs.List.{position_from}
use Rattle.murphi_ast.specs.declared.token.Span.{Span}
use Rattle.murphi_ast.specs.declared.text.Text.{Text}
use Rattle.murphi_ast.specs.declared.expr.Expr.{Expr}
use Rattle.murphi_ast.specs.declared.rule.RuleDecl.{Invariant}
use Rattle.murphi_ast.specs.declared.rule.Protocol.{Protocol}
use Rattle.murphi_ast.specs.State.{State, variables}
use Rattle.murphi_ast.specs.Meaning.{value_of}
use Rattle.murphi_ast.specs.Step.{Faults, Moves, rule_at, start_at, breaks, faults}

-- a state has a cell for each variable
abbrev pub IsState : Protocol → State → Type 0
IsState p s = length s ≡ length (variables p)

-- some start state ends in this state
abbrev pub IsStart : Protocol → State → Type 0
IsStart p s = (k : ℕ) × (start_at p k ≡ Moves s)

-- some rule leads from one state to the other
abbrev pub Steps : Protocol → State → State → Type 0
Steps p s t = (k : ℕ) × (rule_at p k s ≡ Moves t)

-- a run, its last state first
abbrev pub IsRun : Protocol → List State → Type 0
IsRun p [] = ⊥
IsRun p (s ∷ []) = IsStart p s
IsRun p (t ∷ s ∷ earlier) = Steps p s t × IsRun p (s ∷ earlier)

-- a state is reached where some run ends in it
abbrev pub IsReached : Protocol → State → Type 0
IsReached p s = (earlier : List State) × IsRun p (s ∷ earlier)

-- every invariant is true in the state
abbrev pub Holds : Protocol → State → Type 0
Holds p s = (k : ℕ) (title : Option Text) (body : Expr) (at : Span) →
    slice_get p.rules k ≡ Some (Invariant title body at) → value_of (variables p) s body ≡ Some true

-- no start state faults; and in every state that is reached every invariant is true and no rule faults
pub record IsSafe (p : Protocol) : Type 0 where
  pub starts : (k : ℕ) → start_at p k ≢ Faults
  pub invariants : (s : State) → IsReached p s → Holds p s
  pub faultless : (s : State) → IsReached p s → (k : ℕ) → rule_at p k s ≢ Faults

abbrev pub or_else : Option ℕ → Option ℕ → Option ℕ
or_else (Some k) later = Some k
or_else None later = later

-- the number of the item whose formula is the first that a state violates: the invariants come first, in
-- text order, then for each rule in text order that it does not fault
abbrev pub violated : Protocol → State → Option ℕ
violated p s = or_else (position_from (breaks (variables p) s) 0 p.rules) (position_from (faults (variables p) s) 0 p.rules)

-- no start state faults or violates, and no step leads from a state that violates nothing into one that
-- violates something
pub record IsInductive (p : Protocol) : Type 0 where
  pub starts : (k : ℕ) → start_at p k ≢ Faults
  pub start_states : (s : State) → IsStart p s → violated p s ≡ None
  pub steps : (s t : State) → IsState p s → violated p s ≡ None → Steps p s t → violated p t ≡ None

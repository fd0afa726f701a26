-- Starts, steps and runs of a protocol with N nodes, and when it is safe. One step is one firing of one
-- instance of a rule, so nothing comes between its statements.
use Rattle.std.specs.Prelude.{◌≡◌, ℕ, Bool, true, false, ◌&&◌, List, [], ◌∷◌, map, Option, None, Some, if◌then◌else◌, slice_get, IsTrue}
use Rattle.std.specs.List.{All}
use Rattle.std.specs.Str.{bytes_eq}
use Rattle.term_core.specs.declared.value.Value.{Value}
use Rattle.term_core.specs.declared.value.Value.TheVariants.{Undefined}
use Rattle.term_core.specs.Values.{truth, same_value}
use Rattle.murphi_ast.specs.declared.token.Span.{Span}
use Rattle.murphi_typed.specs.declared.protocol.Parameter.{Parameter}
use Rattle.murphi_typed.specs.declared.protocol.Guard.{Guard}
use Rattle.murphi_typed.specs.declared.protocol.Rule.{Rule}
use Rattle.murphi_typed.specs.declared.protocol.Start.{Start}
use Rattle.murphi_typed.specs.declared.protocol.TypedFormula.{TypedFormula}
use Rattle.murphi_typed.specs.declared.protocol.Typed.{Typed}
use Rattle.murphi_typed.specs.Values.{is_value}
use Rattle.murphi_typed.specs.Families.{Path, Cell, cells, path_of}
use Rattle.murphi_typed.specs.Store.{Owner, Global, same_owner, Cells, blank}
use Rattle.murphi_typed.specs.Outcome.{Outcome, Got, Fault, given}
use Rattle.murphi_typed.specs.Expressions.{Scene, Calls, value_of}
use Rattle.murphi_typed.specs.Execution.{Ending, cells_after, run, routine_calls}

-- a state: the values of the cells, in the order of the cells
abbrev pub State : Type 0
State = List Value

abbrev pub same_list : {A : Type 0} → (A → A → Bool) → List A → List A → Bool
same_list same [] [] = true
same_list same (x ∷ xs) (y ∷ ys) = same x y && same_list same xs ys
same_list same _ _ = false

-- whether this is the cell
abbrev pub is_cell : Cell → Owner → Path → List Value → Bool
is_cell c owner path at =
    same_owner (Global c.global) owner
    && (same_list bytes_eq (path_of c.way.steps) path && same_list same_value c.at at)

-- the values that a list gives to cells, one to each; anything else is undefined
abbrev pub listed : List Cell → State → Cells
listed (c ∷ cs) (v ∷ vs) owner path at = if is_cell c owner path at then v else listed cs vs owner path at
listed _ _ owner path at = Undefined

-- the cells of a state
abbrev pub cells_of : ℕ → Typed → State → Cells
cells_of N T s = listed (cells N T) s

abbrev pub value_in : Cells → Cell → Value
value_in cells c = cells (Global c.global) (path_of c.way.steps) c.at

-- the state of cells: that of the globals alone
abbrev pub state_of : ℕ → Typed → Cells → State
state_of N T now = map (value_in now) (cells N T)

-- a value for each parameter, of its type
abbrev pub are_parameters : ℕ → List Parameter → List Value → Bool
are_parameters N (p ∷ ps) (v ∷ vs) = is_value N p.over v && are_parameters N ps vs
are_parameters N [] [] = true
are_parameters N _ _ = false

-- the body of a rule, a start state or a formula, with these parameters
abbrev pub outermost : ℕ → List Value → Scene
outermost N p = record { nodes = N; depth = 0; bound = p; formals = [] }

-- what calling the routines of a protocol does
abbrev pub calls_in : Typed → Calls
calls_in T = routine_calls T.routines

-- the state after a body, if it does not fault
abbrev pub state_after : ℕ → Typed → Outcome Ending → Outcome State
state_after N T body = given body (λ ending. Got (state_of N T (cells_after ending)))

-- what a start state leaves: its body runs on a state with every cell undefined
abbrev pub started : ℕ → Typed → Start → List Value → Outcome State
started N T a p = state_after N T (run (calls_in T) (outermost N p) blank a.body)

-- whether a guard is true; where none is written it is
abbrev pub guarded : ℕ → Typed → Option Guard → List Value → State → Outcome Bool
guarded N T None p s = Got true
guarded N T (Some guard) p s =
    given (value_of (calls_in T) (outermost N p) guard.at (cells_of N T s) guard.test) (λ v. Got (truth v))

-- what firing a rule leaves, or none where its guard is false
abbrev pub fired : ℕ → Typed → Rule → List Value → State → Outcome (Option State)
fired N T r p s =
    given (guarded N T r.guard p s)
    (λ enabled. if enabled then given (state_after N T (run (calls_in T) (outermost N p) (cells_of N T s) r.body))
    (λ next. Got (Some next)) else Got None)

-- start state k with parameters p leaves the state t
pub record Starts (N : ℕ) (T : Typed) (k : ℕ) (p : List Value) (t : State) : Type 0 where
  pub start : Start
  pub found : slice_get T.starts k ≡ Some start
  pub parameters : IsTrue (are_parameters N start.params p)
  pub leaves : started N T start p ≡ Got t

-- rule k with parameters p leads from the state s to the state t
pub record Steps (N : ℕ) (T : Typed) (s : State) (k : ℕ) (p : List Value) (t : State) : Type 0 where
  pub rule : Rule
  pub found : slice_get T.rules k ≡ Some rule
  pub parameters : IsTrue (are_parameters N rule.params p)
  pub leaves : fired N T rule p s ≡ Got (Some t)

-- start state k with parameters p faults
pub record StartFaults (N : ℕ) (T : Typed) (k : ℕ) (p : List Value) (at : Span) : Type 0 where
  pub start : Start
  pub found : slice_get T.starts k ≡ Some start
  pub parameters : IsTrue (are_parameters N start.params p)
  pub faults : started N T start p ≡ Fault at

-- in the state s the guard of rule k with parameters p faults, or it is true and the body faults
pub record StepFaults (N : ℕ) (T : Typed) (s : State) (k : ℕ) (p : List Value) (at : Span) : Type 0 where
  pub rule : Rule
  pub found : slice_get T.rules k ≡ Some rule
  pub parameters : IsTrue (are_parameters N rule.params p)
  pub faults : fired N T rule p s ≡ Fault at

-- a state is faulty where some instance of a rule faults in it
abbrev pub IsFaulty : ℕ → Typed → State → Type 0
IsFaulty N T s = (k : ℕ) × (p : List Value) × ((at : Span) × StepFaults N T s k p at)

-- a run, its last state first: a start, and then steps by any rules and any nodes
abbrev pub IsRun : ℕ → Typed → List State → Type 0
IsRun N T [] = ⊥
IsRun N T (s ∷ []) = (k : ℕ) × (p : List Value) × Starts N T k p s
IsRun N T (t ∷ s ∷ earlier) = ((k : ℕ) × (p : List Value) × Steps N T s k p t) × IsRun N T (s ∷ earlier)

-- a state is reached where some run ends in it
abbrev pub IsReached : ℕ → Typed → State → Type 0
IsReached N T s = (earlier : List State) × IsRun N T (s ∷ earlier)

-- whether something got is a true value; a fault is not
abbrev pub is_true : Outcome Value → Bool
is_true (Got v) = truth v
is_true (Fault at) = false

-- a formula is no statement of the text, so its faults have no place; any will do
abbrev pub no_place : Span
no_place = record { line = 0; column = 0 }

-- a formula holds in a state where its expression is true for all values of its parameters
abbrev pub Holds : ℕ → Typed → State → TypedFormula → Type 0
Holds N T s f =
    (p : List Value) → IsTrue (are_parameters N f.params p)
    → IsTrue (is_true (value_of (calls_in T) (outermost N p) no_place (cells_of N T s) f.body))

-- a protocol is safe with N nodes, as to its own invariants and some lemmas: no start state faults, and in
-- every state that is reached no rule faults and every invariant and lemma holds
pub record IsSafe (T : Typed) (lemmas : List TypedFormula) (N : ℕ) : Type 0 where
  pub starts : (k : ℕ) (p : List Value) (at : Span) → StartFaults N T k p at → ⊥
  pub faultless : (s : State) → IsReached N T s → IsFaulty N T s → ⊥
  pub invariants : (s : State) → IsReached N T s → All (Holds N T s) T.invariants
  pub lemmas_hold : (s : State) → IsReached N T s → All (Holds N T s) lemmas

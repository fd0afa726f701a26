-- What holds of the meaning of every typed protocol.
use Rattle.std.specs.Prelude.{◌≡◌, ℕ, suc, true, List, reverse, Some, slice_get, IsTrue}
use Rattle.term_core.specs.declared.value.Value.{Value}
use Rattle.murphi_ast.specs.declared.token.Span.{Span}
use Rattle.murphi_typed.specs.declared.types.Simple.{Simple}
use Rattle.murphi_typed.specs.declared.expr.Expr.{Expr}
use Rattle.murphi_typed.specs.declared.expr.Arguments.{Arguments}
use Rattle.murphi_typed.specs.declared.stmt.Stmt.{Stmt}
use Rattle.murphi_typed.specs.declared.protocol.Parameter.{Parameter}
use Rattle.murphi_typed.specs.declared.protocol.Variable.{Variable}
use Rattle.murphi_typed.specs.declared.protocol.Routine.{Routine}
use Rattle.murphi_typed.specs.declared.protocol.Typed.{Typed}
use Rattle.murphi_typed.specs.Values.{is_value}
use Rattle.murphi_typed.specs.Families.{Cell, cells, path_of}
use Rattle.murphi_typed.specs.Store.{Global, Cells, blank}
use Rattle.murphi_typed.specs.Outcome.{Got}
use Rattle.murphi_typed.specs.Expressions.{Given, Scene, Calls, value_of, arguments_of}
use Rattle.murphi_typed.specs.Execution.{Ending, cells_after, run, formals_fit, entered, called_scene, calls_of}
use Rattle.murphi_typed.specs.Steps.{State, are_parameters, outermost, calls_in, cells_of, value_in, state_of, Starts, Steps, IsReached}
use Rattle.murphi_typed.specs.WellTyped.{is_well_typed, Scope, type_of, arguments_fit, stmt_fits, routine_scope, routine_fits, top_scope, are_variables, are_parameter_types}
use Rattle.murphi_typed.specs.Keeping.{IsState, Declared, AreKept, SceneFits, RootsFine, BoundFits, ResultsFit, inner_types, LatestFit, top_types, IsTypedBody}

-- a start of a well-typed protocol leaves a state
abbrev pub StartsLeaveStates : Type 0
StartsLeaveStates =
    (N : ℕ) (T : Typed) (k : ℕ) (p : List Value) (t : State)
    → IsTrue (is_well_typed T) → Starts N T k p t → IsState N T t

-- a step leads from a state to a state
abbrev pub StepsLeadToStates : Type 0
StepsLeadToStates =
    (N : ℕ) (T : Typed) (s : State) (k : ℕ) (p : List Value) (t : State)
    → IsTrue (is_well_typed T) → IsState N T s → Steps N T s k p t → IsState N T t

-- what is reached is a state
abbrev pub ReachedAreStates : Type 0
ReachedAreStates = (N : ℕ) (T : Typed) (s : State) → IsTrue (is_well_typed T) → IsReached N T s → IsState N T s

-- the state that cells make up gives each cell of the list the value that it had
abbrev pub StatesHaveValues : Type 0
StatesHaveValues =
    (N : ℕ) (T : Typed) (now : Cells) (k : ℕ) (c : Cell) → slice_get (cells N T) k ≡ Some c
    → cells_of N T (state_of N T now) (Global c.global) (path_of c.way.steps) c.at ≡ value_in now c

-- where the variables of a body stand for places of their types, its bound variables and functions have values
-- of their types, and its cells are undefined or have values of their types, the value of a well-typed expression
-- is one of its type
abbrev pub ValuesFitInBodies : Type 0
ValuesFitInBodies =
    (types : Declared) (calls : Calls) (scope : Scope) (scene : Scene) (at : Span) (cells : Cells)
    → SceneFits types scope scene → RootsFine scope → BoundFits scope scene → ResultsFit scope calls
    → AreKept scene.nodes types cells
    → (e : Expr) (type : Simple) (v : Value) → type_of scope e ≡ Some type
    → value_of calls scene at cells e ≡ Got v → is_value scene.nodes type v ≡ true

-- in a state of a well-typed protocol so it is of what stands in a rule, a start state or a formula
abbrev pub ValuesFitInStates : Type 0
ValuesFitInStates =
    (N : ℕ) (T : Typed) (state : State) (locals : List Variable) (params : List Parameter) (p : List Value)
    → (at : Span) (e : Expr) (type : Simple) (v : Value)
    → IsTrue (is_well_typed T) → IsState N T state
    → are_variables T.kinds locals ≡ true → are_parameter_types T.kinds params ≡ true
    → are_parameters N params p ≡ true → type_of (top_scope T locals params) e ≡ Some type
    → value_of (calls_in T) (outermost N p) at (cells_of N T state) e ≡ Got v → is_value N type v ≡ true

-- a body that keeps to its types leaves every cell within its type
abbrev pub BodiesKeepTypes : Type 0
BodiesKeepTypes =
    (T : Typed) (latest : List Routine) (types : Declared) (scope : Scope) (scene : Scene) (cells : Cells) (body : Stmt)
    (ending : Ending)
    → IsTypedBody T latest types scope scene cells → stmt_fits scope body ≡ true
    → run (calls_of latest) scene cells body ≡ Got ending → AreKept scene.nodes types (cells_after ending)

-- and what its functions give is of their result types
abbrev pub FunctionsGiveResults : Type 0
FunctionsGiveResults =
    (T : Typed) (latest : List Routine) (types : Declared) (scope : Scope) (scene : Scene) (cells : Cells)
    → IsTypedBody T latest types scope scene cells → ResultsFit scope (calls_of latest)

-- a routine that it calls keeps to its types at its entry, where what the formals are given fits
abbrev pub CalledBodiesAreTyped : Type 0
CalledBodiesAreTyped =
    (T : Typed) (latest earlier : List Routine) (r : Routine) (types : Declared) (scope : Scope) (scene : Scene)
    (cells : Cells) (calls : Calls) (at : Span) (args : Arguments) (gs : List Given)
    → are_variables T.kinds T.globals ≡ true → IsTypedBody T latest types scope scene cells
    → routine_fits T (reverse earlier) r ≡ true → LatestFit T earlier
    → arguments_fit scope r.formals args ≡ true → arguments_of calls scene at cells args ≡ Got gs
    → formals_fit scene.nodes r.formals gs ≡ true
    → IsTypedBody T earlier (inner_types (suc scene.depth) r.formals r.locals types)
    (routine_scope T (reverse earlier) r) (called_scene scene gs) (entered (suc scene.depth) gs cells)

-- the body of a rule, of a start state or of a formula of a well-typed protocol keeps to its types
abbrev pub TopBodiesAreTyped : Type 0
TopBodiesAreTyped =
    (N : ℕ) (T : Typed) (locals : List Variable) (params : List Parameter) (p : List Value) (state : State)
    → IsTrue (is_well_typed T) → are_variables T.kinds locals ≡ true → are_parameter_types T.kinds params ≡ true
    → are_parameters N params p ≡ true → IsState N T state
    → IsTypedBody T (reverse T.routines) (top_types T locals) (top_scope T locals params) (outermost N p)
    (cells_of N T state)

-- also where no cell has a value
abbrev pub BlankBodiesAreTyped : Type 0
BlankBodiesAreTyped =
    (N : ℕ) (T : Typed) (locals : List Variable) (params : List Parameter) (p : List Value)
    → IsTrue (is_well_typed T) → are_variables T.kinds locals ≡ true → are_parameter_types T.kinds params ≡ true
    → are_parameters N params p ≡ true
    → IsTypedBody T (reverse T.routines) (top_types T locals) (top_scope T locals params) (outermost N p) blank

-- What statements and routines do, after the Murphi manual. Statements run in turn, each from its first token
-- to its end, and a fault has the place of the innermost statement that is running.
use Rattle.std.specs.Prelude.{ℕ, suc, Bool, true, false, ◌&&◌, nat_eq, List, [], ◌∷◌, reverse, length, Option, None, Some, if◌then◌else◌, slice_get}
use Rattle.std.specs.Option.{option_map_or}
use Rattle.term_core.specs.declared.value.Value.{Value}
use Rattle.term_core.specs.declared.value.Value.TheVariants as value
use Rattle.term_core.specs.Values.{truth, same_value}
use Rattle.murphi_ast.specs.declared.token.Span.{Span}
use Rattle.murphi_typed.specs.declared.types.Simple.{Simple}
use Rattle.murphi_typed.specs.declared.types.AnyType as t
use Rattle.murphi_typed.specs.declared.types.AnyType.{AnyType}
use Rattle.murphi_typed.specs.declared.expr.Expr.{Expr}
use Rattle.murphi_typed.specs.declared.expr.Designator as d
use Rattle.murphi_typed.specs.declared.expr.Designator.{Designator}
use Rattle.murphi_typed.specs.declared.stmt.Stmt as s
use Rattle.murphi_typed.specs.declared.stmt.Stmt.{Stmt, Row_of-Stmt, end_of-Stmt, more_of-Stmt, Row_of-Arm, end_of-Arm, more_of-Arm, Row_of-Case, end_of-Case, more_of-Case}
use Rattle.murphi_typed.specs.declared.protocol.Formal.{Formal as DeclaredFormal}
use Rattle.murphi_typed.specs.declared.protocol.Routine.{Routine}
use Rattle.murphi_typed.specs.Values.{is_value, may_hold, values, cleared_value}
use Rattle.murphi_typed.specs.Families.{leaf_at}
use Rattle.murphi_typed.specs.Store.{Global, Local, Formal, Place, Contents, Cells, cell_at, contents_at, written, only}
use Rattle.murphi_typed.specs.Outcome.{Outcome, Got, Fault, given}
use Rattle.murphi_typed.specs.Expressions.{Given, Filled, Standing, Scene, Left, Calls, value_of, place_of, arguments_of, with_bound, fitting}

-- how a body that does not fault ends: at its last statement, or by a `return`, with a value in a function
pub data Ending : Type 0 where
  Next : Cells → Ending
  Returned : Cells → Option Value → Ending

abbrev pub cells_after : Ending → Cells
cells_after (Next cells) = cells
cells_after (Returned cells v) = cells

-- what follows a statement runs, unless the routine was left
abbrev pub then_on : Ending → (Cells → Outcome Ending) → Outcome Ending
then_on (Next cells) rest = rest cells
then_on (Returned cells v) rest = Got (Returned cells v)

-- one turn for each of the values, in their order, until the routine is left
abbrev pub turns : (Value → Cells → Outcome Ending) → List Value → Cells → Outcome Ending
turns body [] cells = Got (Next cells)
turns body (v ∷ vs) cells = given (body v cells) (λ ending. then_on ending (turns body vs))

-- the place of the first token of a designator
abbrev pub at_of : Designator → Span
at_of (d.Of' root _ selectors at) = at

-- a cell may get undefined or a value of its type; any other value faults
abbrev pub stored : ℕ → Span → Simple → Value → Outcome Value
stored N at into v = fitting (may_hold N into v) at v

-- the cells in which the one at the place has a value
abbrev pub with_value : Cells → Place → Value → Outcome Ending
with_value cells place v = Got (Next (written cells place (only v)))

-- what `clear` gives the cells under a designator of this type
abbrev pub cleared : AnyType → Contents
cleared type path at = option_map_or cleared_value (leaf_at type path) value.Undefined

-- whether one of the labels is the value; they are worked out in order, up to the first that is
abbrev pub is_among : (Expr → Outcome Value) → Value → List Expr → Outcome Bool
is_among worked v [] = Got false
is_among worked v (label ∷ labels) =
    given (worked label) (λ w. if same_value v w then Got true else is_among worked v labels)

unfoldable mutual
  -- what a statement does
  pub run : Calls → Scene → Cells → Stmt → Outcome Ending
  run calls scene cells (s.Block' _ body) = run_all calls scene cells body
  run calls scene cells (s.Assign to into body) =
      given (place_of calls scene (at_of to) cells to)
      (λ p. given (value_of calls scene (at_of to) cells body)
      (λ v. given (stored scene.nodes (at_of to) into v) (with_value cells p)))
  run calls scene cells (s.Copy to into from) =
      given (place_of calls scene (at_of to) cells to)
      (λ p. given (place_of calls scene (at_of to) cells from)
      (λ q. given (stored scene.nodes (at_of to) into (cell_at cells q)) (with_value cells p)))
  run calls scene cells (s.CopyAll to from) =
      given (place_of calls scene (at_of to) cells to)
      (λ p. given (place_of calls scene (at_of to) cells from)
      (λ q. Got (Next (written cells p (contents_at cells q)))))
  run calls scene cells (s.Call k args at) =
      given (arguments_of calls scene at cells args)
      (λ gs. given (calls k scene at gs cells) (λ left. Got (Next left.cells)))
  run calls scene cells (s.If' _ arms _ otherwise at) =
      run_arms calls scene at cells arms (run_all calls scene cells otherwise)
  run calls scene cells (s.Switch' on _ cases _ otherwise at) =
      given (value_of calls scene at cells on)
      (λ v. run_cases calls scene at cells v cases (run_all calls scene cells otherwise))
  run calls scene cells (s.For' over _ body at) =
      turns (λ v cells. run_all calls (with_bound scene v) cells body) (values scene.nodes over) cells
  run calls scene cells (s.Clear place type at) =
      given (place_of calls scene at cells place) (λ p. Got (Next (written cells p (cleared type))))
  run calls scene cells (s.Undefine place at) =
      given (place_of calls scene at cells place) (λ p. Got (Next (written cells p (only value.Undefined))))
  run calls scene cells (s.Error at) = Fault at
  run calls scene cells (s.Assert test at) =
      given (value_of calls scene at cells test) (λ v. if truth v then Got (Next cells) else Fault at)
  run calls scene cells (s.PutText at) = Got (Next cells)
  run calls scene cells (s.Put shown at) = Got (Next cells)
  run calls scene cells (s.Leave at) = Got (Returned cells None)
  run calls scene cells (s.Return body at) =
      given (value_of calls scene at cells body) (λ v. Got (Returned cells (Some v)))

  -- what statements do in turn
  pub run_all : {n : _} → Calls → Scene → Cells → Row_of-Stmt n → Outcome Ending
  run_all calls scene cells end_of-Stmt = Got (Next cells)
  run_all calls scene cells (more_of-Stmt first rest) =
      given (run calls scene cells first) (λ ending. then_on ending (λ next. run_all calls scene next rest))

  -- the statements of the first arm whose test is true, or else the others; no later test is worked out
  pub run_arms : {n : _} → Calls → Scene → Span → Cells → Row_of-Arm n → Outcome Ending → Outcome Ending
  run_arms calls scene at cells end_of-Arm otherwise = otherwise
  run_arms calls scene at cells (more_of-Arm test _ body rest) otherwise =
      given (value_of calls scene at cells test)
      (λ v. if truth v then run_all calls scene cells body else run_arms calls scene at cells rest otherwise)

  -- the statements of the first case that has the value among its labels, or else the others
  pub run_cases : {n : _} → Calls → Scene → Span → Cells → Value → Row_of-Case n → Outcome Ending → Outcome Ending
  run_cases calls scene at cells v end_of-Case otherwise = otherwise
  run_cases calls scene at cells v (more_of-Case labels _ body rest) otherwise =
      given (is_among (value_of calls scene at cells) v labels)
      (λ found. if found then run_all calls scene cells body else run_cases calls scene at cells v rest otherwise)

-- the type of a formal, where it is simple
abbrev pub simple_type : AnyType → Option Simple
simple_type (t.Simple type) = Some type
simple_type _ = None

-- what a formal by value is given has to be undefined or of its type, as in an assignment
abbrev pub formal_holds : ℕ → AnyType → Contents → Bool
formal_holds N type contents = option_map_or (λ into. may_hold N into (contents [] [])) (simple_type type) true

abbrev pub formal_fits : ℕ → DeclaredFormal → Given → Bool
formal_fits N formal (Filled contents) = formal_holds N formal.of contents
formal_fits N formal (Standing place) = true

abbrev pub formals_fit : ℕ → List DeclaredFormal → List Given → Bool
formals_fit N (f ∷ fs) (g ∷ gs) = formal_fits N f g && formals_fit N fs gs
formals_fit N [] [] = true
formals_fit N _ _ = false

-- what a formal by value holds at first
abbrev pub filled : Option Given → Contents
filled (Some (Filled contents)) = contents
filled _ = only value.Undefined

-- the cells at the entry of a body of this depth: its formals by value hold what they were given, and its
-- locals are undefined
abbrev pub entered : ℕ → List Given → Cells → Cells
entered depth gs cells (Global k) = cells (Global k)
entered depth gs cells (Local of k) = if nat_eq of depth then only value.Undefined else cells (Local of k)
entered depth gs cells (Formal of k) = if nat_eq of depth then filled (slice_get gs k) else cells (Formal of k)

-- the scene of a routine that is called from another
abbrev pub called_scene : Scene → List Given → Scene
called_scene scene gs = record { nodes = scene.nodes; depth = suc scene.depth; bound = []; formals = gs }

-- what a routine leaves. A function that ends without `return`, or with a value outside its result type,
-- faults at the place of the caller.
abbrev pub ended : Option Simple → Scene → Span → Ending → Outcome Left
ended None scene at ending = Got (record { cells = cells_after ending; result = None })
ended (Some type) scene at (Returned cells (Some v)) =
    if is_value scene.nodes type v then Got (record { cells = cells; result = Some v }) else Fault at
ended (Some type) scene at _ = Fault at

-- what calling one routine does, where it is known what the routines do that it calls
abbrev pub call_of : Calls → Routine → Scene → Span → List Given → Cells → Outcome Left
call_of calls r scene at gs cells =
    if formals_fit scene.nodes r.formals gs
    then given (run calls (called_scene scene gs) (entered (suc scene.depth) gs cells) r.body)
    (ended r.result scene at) else Fault at

-- what calling the routines of a list does, the last of the text first: each calls only those after it in the
-- list, which stand before it in the text. There is no call of any other number.
abbrev pub calls_of : List Routine → Calls
calls_of [] k scene at gs cells = Fault at
calls_of (r ∷ earlier) k scene at gs cells =
    if nat_eq k (length earlier) then call_of (calls_of earlier) r scene at gs cells
    else calls_of earlier k scene at gs cells

-- what calling the routines of a text does
abbrev pub routine_calls : List Routine → Calls
routine_calls routines = calls_of (reverse routines)

-- What bodies read and write, by families: the cells of a variable under some field names.
use Rattle.std.specs.Prelude.{◌≡◌, ℕ, Bool, true, false, not, ◌&&◌, ◌||◌, List, Option, None, Some, is_some}
use Rattle.std.specs.List.{list_any}
use Rattle.std.specs.Str.{bytes_eq}
use Rattle.term_core.specs.declared.value.Value.{Value}
use Rattle.term_core.specs.Values.{same_value}
use Rattle.murphi_ast.specs.declared.token.Span.{Span}
use Rattle.murphi_typed.specs.declared.expr.Expr.{Expr}
use Rattle.murphi_typed.specs.declared.expr.Designator.{Designator}
use Rattle.murphi_typed.specs.declared.stmt.Stmt as s
use Rattle.murphi_typed.specs.declared.stmt.Stmt.{Stmt}
use Rattle.murphi_typed.specs.declared.protocol.Routine.{Routine}
use Rattle.murphi_typed.specs.Families.{Path}
use Rattle.murphi_typed.specs.Store.{Owner, same_owner, Place, Cells, beyond}
use Rattle.murphi_typed.specs.Outcome.{Outcome, Got, Fault}
use Rattle.murphi_typed.specs.Expressions.{Scene, Calls, value_of, place_of}
use Rattle.murphi_typed.specs.Execution.{Ending, Next, Returned, cells_after, run, calls_of}
use Rattle.scalarset_rules.specs.Accesses.{Scope, Access, reads, accesses, opened_in}
use Rattle.scalarset_rules.specs.Turns.{covers, in_scope, StandsIn}

-- a set of families
abbrev pub Region : Type 0
Region = Owner → Path → Bool

-- the families of which something is read, and those of which something is written
abbrev pub is_read : List Access → Region
is_read all owner path = list_any (λ (a : Access). not a.write && covers a owner path) all

abbrev pub is_written : List Access → Region
is_written all owner path = list_any (λ (a : Access). a.write && covers a owner path) all

-- some families and those that are read
abbrev pub with_reads : Region → List Access → Region
with_reads more all owner path = more owner path || is_read all owner path

-- the variables in scope at this depth have the same values in these families
abbrev pub AgreeOn : Region → ℕ → Cells → Cells → Type 0
AgreeOn region depth c d =
    (owner : Owner) (path : Path) (at : List Value) → in_scope depth owner ≡ true → region owner path ≡ true
    → c owner path at ≡ d owner path at

-- in cells that agree on what an expression reads, it has the same value, or faults at the same place
abbrev pub ReadsGiveValues : Type 0
ReadsGiveValues =
    (routines : List Routine) (scope : Scope) (scene : Scene) (at : Span) (c d : Cells) (e : Expr)
    → StandsIn scope scene → AgreeOn (is_read (reads (opened_in routines) scope e)) scope.depth c d
    → value_of (calls_of routines) scene at c e ≡ value_of (calls_of routines) scene at d e

-- two bodies end alike: they fault at one place, or end in the same way and leave cells that agree
abbrev pub EndAlike : Region → ℕ → Outcome Ending → Outcome Ending → Type 0
EndAlike region depth (Fault at) (Fault other) = at ≡ other
EndAlike region depth (Got (Next u)) (Got (Next w)) = AgreeOn region depth u w
EndAlike region depth (Got (Returned u r)) (Got (Returned w s)) = (r ≡ s) × AgreeOn region depth u w
EndAlike region depth _ _ = ⊥

-- in cells that agree on what a body reads, and on any families besides, it ends alike
abbrev pub ReadsGiveEndings : Type 0
ReadsGiveEndings =
    (routines : List Routine) (scope : Scope) (scene : Scene) (c d : Cells) (body : Stmt) (more : Region)
    → StandsIn scope scene → AgreeOn (with_reads more (accesses (opened_in routines) scope body)) scope.depth c d
    → EndAlike (with_reads more (accesses (opened_in routines) scope body)) scope.depth
    (run (calls_of routines) scene c body) (run (calls_of routines) scene d body)

-- of the variables in scope a body changes only cells of families that it writes
abbrev pub WritesStayInPlaces : Type 0
WritesStayInPlaces =
    (routines : List Routine) (scope : Scope) (scene : Scene) (c : Cells) (body : Stmt) (ending : Ending)
    → StandsIn scope scene → run (calls_of routines) scene c body ≡ Got ending
    → (owner : Owner) (path : Path) (at : List Value) → in_scope scope.depth owner ≡ true
    → is_written (accesses (opened_in routines) scope body) owner path ≡ false
    → cells_after ending owner path at ≡ c owner path at

-- the designator that a statement gives new values to, if it is of a form that has one
abbrev pub target : Stmt → Option Designator
target (s.Assign to into body) = Some to
target (s.Copy to into from) = Some to
target (s.CopyAll to from) = Some to
target (s.Clear to type at) = Some to
target (s.Undefine to at) = Some to
target _ = None

-- whether a cell is one of those under a place
abbrev pub is_under : Place → Owner → Path → List Value → Bool
is_under place owner path at =
    same_owner owner place.owner
    && (is_some (beyond bytes_eq place.path path) && is_some (beyond same_value place.at at))

-- such a statement changes no cell that is not under the place of its target
abbrev pub AssignmentsStayInPlaces : Type 0
AssignmentsStayInPlaces =
    (calls : Calls) (scene : Scene) (c : Cells) (stmt : Stmt) (to : Designator) (ending : Ending)
    → target stmt ≡ Some to → run calls scene c stmt ≡ Got ending
    → (place : Place) × (((at : Span) × (place_of calls scene at c to ≡ Got place))
    × ((owner : Owner) (path : Path) (at : List Value) → is_under place owner path at ≡ false
    → cells_after ending owner path at ≡ c owner path at))

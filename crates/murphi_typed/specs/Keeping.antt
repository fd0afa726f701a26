-- What a state is, and what a body has to keep: each cell of a declared variable is undefined or has a value of
-- its type.
use Rattle.std.specs.Prelude.{◌≡◌, ℕ, suc, true, false, List, [], ◌∷◌, ◌++◌, reverse, length, nat_eq, nat_lt, Option, None, Some, if◌then◌else◌, slice_get, IsTrue}
use Rattle.term_core.specs.declared.value.Value.{Value}
use Rattle.murphi_typed.specs.declared.types.Simple.{Simple}
use Rattle.murphi_typed.specs.declared.types.AnyType.{AnyType}
use Rattle.murphi_typed.specs.declared.protocol.Typed.{Typed}
use Rattle.murphi_typed.specs.Values.{may_hold, is_value}
use Rattle.murphi_typed.specs.Families.{Path, Cell, cells, leaf_at}
use Rattle.murphi_typed.specs.Store.{Owner, Global, Local, Formal, Place, Cells}
use Rattle.murphi_typed.specs.Steps.{State}
use Rattle.murphi_typed.specs.WellTyped.{variable_type, formal_type, Scope, root_type, is_type, is_simple_type, routine_fits}
use Rattle.murphi_typed.specs.Expressions.{Scene, Calls, Left, Given, root_place}
use Rattle.murphi_typed.specs.Outcome.{Got}
use Rattle.murphi_ast.specs.declared.token.Span.{Span}
use Rattle.murphi_typed.specs.declared.expr.Root.{Root}
use Rattle.murphi_typed.specs.declared.protocol.Formal.{Formal as DeclaredFormal}
use Rattle.murphi_typed.specs.declared.protocol.Routine.{Routine}
use Rattle.murphi_typed.specs.declared.protocol.Variable.{Variable}

-- the type of each variable, of those that are declared
abbrev pub Declared : Type 0
Declared = Owner → Option AnyType

-- the cells of declared variables hold what their types allow, whatever the indices are
abbrev pub AreKept : ℕ → Declared → Cells → Type 0
AreKept N types now =
    (owner : Owner) (type : AnyType) → types owner ≡ Some type → (path : Path) (leaf : Simple)
    → leaf_at type path ≡ Some leaf → (at : List Value) → may_hold N leaf (now owner path at) ≡ true

-- the globals of a protocol
abbrev pub globals_of : Typed → Declared
globals_of T (Global k) = variable_type (slice_get T.globals k)
globals_of T _ = None

-- a state has a value for each cell, each undefined or of the type of its cell
pub record IsState (N : ℕ) (T : Typed) (s : State) : Type 0 where
  pub count : length s ≡ length (cells N T)
  pub values : (k : ℕ) (c : Cell) (v : Value) → slice_get (cells N T) k ≡ Some c → slice_get s k ≡ Some v
      → IsTrue (may_hold N c.way.leaf v)

-- the cells under a place are those of a type
abbrev pub HasType : Declared → Place → AnyType → Type 0
HasType types p type =
    (whole : AnyType) × (types p.owner ≡ Some whole)
    × ((path : Path) → leaf_at whole (p.path ++ path) ≡ leaf_at type path)

-- each variable of a scope stands for a place of its type
abbrev pub SceneFits : Declared → Scope → Scene → Type 0
SceneFits types scope scene =
    (r : Root) (type : AnyType) → root_type scope r ≡ Some type
    → (p : Place) × (root_place scene r ≡ Some p) × HasType types p type

-- the types of the variables in scope are types of the protocol
abbrev pub RootsFine : Scope → Type 0
RootsFine scope = (r : Root) (type : AnyType) → root_type scope r ≡ Some type → is_type scope.kinds type ≡ true

-- parameters and bound variables have values of their types
abbrev pub BoundFits : Scope → Scene → Type 0
BoundFits scope scene =
    (k : ℕ) (type : Simple) (v : Value) → slice_get scope.bound k ≡ Some type → slice_get scene.bound k ≡ Some v
    → (is_value scene.nodes type v ≡ true) × (is_simple_type scope.kinds type ≡ true)

-- functions give values of their result types
abbrev pub ResultsFit : Scope → Calls → Type 0
ResultsFit scope calls =
    (k : ℕ) (r : Routine) (type : Simple) → slice_get scope.routines k ≡ Some r → r.result ≡ Some type
    → (is_simple_type scope.kinds type ≡ true)
    × ((scene : Scene) (at : Span) (gs : List Given) (cells : Cells) (left : Left) (v : Value)
    → calls k scene at gs cells ≡ Got left → left.result ≡ Some v → is_value scene.nodes type v ≡ true)

-- no variables deeper than this are declared
abbrev pub IsShallow : Declared → ℕ → Type 0
IsShallow types depth = (of k : ℕ) → nat_lt depth of ≡ true → (types (Local of k) ≡ None) × (types (Formal of k) ≡ None)

-- the globals of a protocol are declared
abbrev pub HasGlobals : Declared → List Variable → Type 0
HasGlobals types globals = (k : ℕ) → types (Global k) ≡ variable_type (slice_get globals k)

-- the variables of a body at this depth are declared beside others
abbrev pub inner_types : ℕ → List DeclaredFormal → List Variable → Declared → Declared
inner_types depth formals locals types (Global k) = types (Global k)
inner_types depth formals locals types (Local of k) = if nat_eq of depth then variable_type (slice_get locals k) else types (Local of k)
inner_types depth formals locals types (Formal of k) =
    if nat_eq of depth then formal_type false (slice_get formals k) else types (Formal of k)

-- each routine of a list fits where it may call those after it, which are in text order the other way round
abbrev pub LatestFit : Typed → List Routine → Type 0
LatestFit T [] = Unit {0}
LatestFit T (r ∷ earlier) = (routine_fits T (reverse earlier) r ≡ true) × LatestFit T earlier

-- the variables of the body of a rule or of a start state
unfoldable pub top_types : Typed → List Variable → Declared
top_types T locals (Global k) = variable_type (slice_get T.globals k)
top_types T locals (Local of k) = if nat_eq of 0 then variable_type (slice_get locals k) else None
top_types T locals (Formal of k) = None

-- a body that keeps to its types, whether it is that of a rule or of a routine that is called: what it may call are
-- the routines of a list, the last of the text first; its variables stand for places of their types and no deeper
-- ones are declared; and its cells are within their types
pub record IsTypedBody (T : Typed) (latest : List Routine) (types : Declared) (scope : Scope) (scene : Scene) (cells : Cells)
    : Type 0 where
  pub kinds : scope.kinds ≡ T.kinds
  pub globals : scope.globals ≡ T.globals
  pub routines : scope.routines ≡ reverse latest
  pub known : LatestFit T latest
  pub fits : SceneFits types scope scene
  pub fine : RootsFine scope
  pub bound : BoundFits scope scene
  pub lengths : length scope.bound ≡ length scene.bound
  pub shallow : IsShallow types scene.depth
  pub declared : HasGlobals types T.globals
  pub kept : AreKept scene.nodes types cells

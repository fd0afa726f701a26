-- What the rules are for: the turns of a `for` over nodes that breaks none of them do not meet. It is said of
-- execution alone.
use Rattle.std.specs.Prelude.{◌≡◌, ℕ, zero, suc, ◌≤◌, ◌<◌, Bool, true, false, not, ◌&&◌, List, [], ◌∷◌, length, Option, None, Some, if◌then◌else◌, slice_get, is_some}
use Rattle.std.specs.List.{list_all}
use Rattle.std.specs.Str.{bytes_eq}
use Rattle.term_core.specs.declared.value.Value.{Value}
use Rattle.term_core.specs.declared.value.Value.TheVariants as value
use Rattle.term_core.specs.Values.{same_value}
use Rattle.murphi_ast.specs.declared.token.Span.{Span}
use Rattle.murphi_typed.specs.declared.types.Simple.TheVariants as simple
use Rattle.murphi_typed.specs.declared.types.AnyType.{AnyType}
use Rattle.murphi_typed.specs.declared.stmt.Stmt.{Row_of-Stmt}
use Rattle.murphi_typed.specs.declared.protocol.Routine.{Routine}
use Rattle.murphi_typed.specs.Forms.{ArrayForm}
use Rattle.murphi_typed.specs.Values.{values}
use Rattle.murphi_typed.specs.Families.{Path}
use Rattle.murphi_typed.specs.Store.{Owner, Formal, same_owner, Place, Cells}
use Rattle.murphi_typed.specs.Outcome.{Outcome, Got, Fault}
use Rattle.murphi_typed.specs.Expressions.{Given, Filled, Standing, Scene, with_bound}
use Rattle.murphi_typed.specs.Execution.{Ending, Next, cells_after, turns, run_all, calls_of}
use Rattle.murphi_typed.specs.WellTyped.{field_part}
use Rattle.murphi_typed.specs.Keeping.{Declared}
use Rattle.scalarset_rules.specs.Accesses.{Binder, Part, Field, Index, Shape, Stand, Valued, Placed, Scope, binding, next_binder, Access, all_accesses, opened_in, Loop}
use Rattle.scalarset_rules.specs.Rules.{marks, place_of_write, is_deeper, judged, loop_breaks, row_returns}

-- The place of a family

-- the field names of a shape
abbrev pub fields : List Part → Path
fields [] = []
fields (Field name ∷ parts) = name ∷ fields parts
fields (Index v ∷ parts) = fields parts

abbrev pub is_front : Path → Path → Bool
is_front [] path = true
is_front (name ∷ front) [] = false
is_front (name ∷ front) (other ∷ path) = bytes_eq name other && is_front front path

-- whether an access is to cells of a family: of a variable, with these field names
abbrev pub covers : Access → Owner → Path → Bool
covers a owner path = same_owner a.shape.owner owner && is_front (fields a.shape.parts) path

-- the place of a family in a loop: that of the first write that is to its cells, or none where the loop does not
-- write it. All writes to a family have one place, where no rule is broken.
abbrev pub place_in : Binder → List Access → Owner → Path → Option ℕ
place_in v [] owner path = None
place_in v (a ∷ all) owner path =
    if a.write && covers a owner path then place_of_write v a else place_in v all owner path

abbrev pub family_place : Loop → Owner → Path → Option ℕ
family_place loop owner path = place_in loop.variable loop.accesses owner path

-- whether the index at a place is this node
abbrev pub node_at : ℕ → ℕ → List Value → Bool
node_at n k [] = false
node_at n zero (v ∷ vs) = same_value v (value.Node n)
node_at n (suc k) (v ∷ vs) = node_at n k vs

-- whether a cell belongs to the turn of a node, where its family has this place
abbrev pub is_own : ℕ → Option ℕ → List Value → Bool
is_own n None at = false
is_own n (Some k) at = node_at n k at

-- Where a body stands

-- the marks of what stands for a formal are variables of the bodies around
abbrev pub is_outer : ℕ → Option Binder → Type 0
is_outer depth None = Unit {0}
is_outer depth (Some v) = v.depth < depth

abbrev pub are_outer : ℕ → List (Option Binder) → Type 0
are_outer depth [] = Unit {0}
are_outer depth (m ∷ ms) = is_outer depth m × are_outer depth ms

-- a place is that of a shape: of its variable, with its field names and an index for each mark
pub record IsPlaceOf (shape : Shape) (place : Place) : Type 0 where
  pub owner : place.owner ≡ shape.owner
  pub path : place.path ≡ fields shape.parts
  pub indices : length place.at ≡ length (marks shape.parts)

-- what a formal is given is what it stands for
abbrev pub IsStand : ℕ → Stand → Given → Type 0
IsStand depth (Valued v) (Filled contents) = is_outer depth v
IsStand depth (Placed shape) (Standing place) =
    IsPlaceOf shape place × ((is_deeper depth shape.owner ≡ false) × are_outer depth (marks shape.parts))
IsStand depth (Valued v) (Standing place) = ⊥
IsStand depth (Placed shape) (Filled contents) = ⊥

abbrev pub AreStands : ℕ → List Stand → List Given → Type 0
AreStands depth [] [] = Unit {0}
AreStands depth (s ∷ ss) (g ∷ gs) = IsStand depth s g × AreStands depth ss gs
AreStands depth [] (g ∷ gs) = ⊥
AreStands depth (s ∷ ss) [] = ⊥

-- a body that runs in a scene stands in this scope
pub record StandsIn (scope : Scope) (scene : Scene) : Type 0 where
  pub depth : scene.depth ≡ scope.depth
  pub bound : length scene.bound ≡ scope.bound
  pub formals : AreStands scope.depth scope.stands scene.formals

-- What is asked of a loop

abbrev pub array_item : Option AnyType → Option AnyType
array_item (Some (ArrayForm index item)) = Some item
array_item _ = None

-- the type that parts lead to
abbrev pub part_type : Option AnyType → List Part → Option AnyType
part_type found [] = found
part_type found (Field name ∷ parts) = part_type (field_part found name) parts
part_type found (Index v ∷ parts) = part_type (array_item found) parts

-- a shape goes down the type of its variable
abbrev pub goes_down : Declared → Access → Bool
goes_down types a = is_some (part_type (types a.shape.owner) a.shape.parts)

abbrev pub is_formal : Owner → Bool
is_formal (Formal of k) = true
is_formal _ = false

-- no formal by value is written
abbrev pub is_writable : Access → Bool
is_writable a = not (a.write && is_formal a.shape.owner)

-- a loop over nodes in a scope, with what its body reads and writes
abbrev pub loop_over : {n : _} → List Routine → Scope → Row_of-Stmt n → Loop
loop_over routines scope body =
    record { variable = next_binder scope; accesses = all_accesses (opened_in routines) (binding scope) body }

-- a loop breaks none of S4 to S7 and S9, and its accesses are those of a well-typed text
pub record KeepsApart {n : _} (types : Declared) (routines : List Routine) (scope : Scope) (body : Row_of-Stmt n)
    : Type 0 where
  pub unbroken : loop_breaks (loop_over routines scope body) ≡ []
  pub stays : row_returns body ≡ []
  pub typed : list_all (goes_down types) (judged (loop_over routines scope body)) ≡ true
  pub writable : list_all is_writable (loop_over routines scope body).accesses ≡ true

-- What holds of it

-- the turn of a node
abbrev pub turn : {n : _} → List Routine → Scene → Row_of-Stmt n → ℕ → Cells → Outcome Ending
turn routines scene body node cells = run_all (calls_of routines) (with_bound scene (value.Node node)) cells body

-- the whole loop: one turn after another, from node 1 on
abbrev pub whole : {n : _} → List Routine → Scene → Row_of-Stmt n → Cells → Outcome Ending
whole routines scene body cells =
    turns (λ v now. run_all (calls_of routines) (with_bound scene v) now body) (values scene.nodes simple.Node) cells

-- the variables in scope at this depth: the globals, and locals and formals that are not of a routine called in
-- the loop
abbrev pub in_scope : ℕ → Owner → Bool
in_scope depth owner = not (is_deeper depth owner)

-- what the loop leaves of these cells: a cell of a written family with node n at the place is what the turn of
-- node n makes of the cells before the loop, and all else is as it was
pub record AreMerged (nodes depth : ℕ) (loop : Loop) (before : Cells) (after : ℕ → Ending) (end : Cells) : Type 0 where
  pub own : (node : ℕ) (owner : Owner) (path : Path) (at : List Value) → 1 ≤ node → node ≤ nodes
      → in_scope depth owner ≡ true → is_own node (family_place loop owner path) at ≡ true
      → end owner path at ≡ cells_after (after node) owner path at
  pub others : (owner : Owner) (path : Path) (at : List Value) → in_scope depth owner ≡ true
      → ((node : ℕ) → 1 ≤ node → node ≤ nodes → is_own node (family_place loop owner path) at ≡ false)
      → end owner path at ≡ before owner path at

-- if one turn from the cells before the loop faults, the loop faults
abbrev pub LoopFaults : Type 0
LoopFaults =
    (n : _) (types : Declared) (routines : List Routine) (scope : Scope) (scene : Scene) (body : Row_of-Stmt n)
    (cells : Cells)
    → StandsIn scope scene → KeepsApart types routines scope body
    → (node : ℕ) (fault : Span) → 1 ≤ node → node ≤ scene.nodes → turn routines scene body node cells ≡ Fault fault
    → (place : Span) × (whole routines scene body cells ≡ Fault place)

-- if none does, the loop ends, and leaves what the turns from the cells before it make
abbrev pub LoopEnds : Type 0
LoopEnds =
    (n : _) (types : Declared) (routines : List Routine) (scope : Scope) (scene : Scene) (body : Row_of-Stmt n)
    (cells : Cells) (after : ℕ → Ending)
    → StandsIn scope scene → KeepsApart types routines scope body
    → ((node : ℕ) → 1 ≤ node → node ≤ scene.nodes → turn routines scene body node cells ≡ Got (after node))
    → (end : Cells) × ((whole routines scene body cells ≡ Got (Next end))
    × AreMerged scene.nodes scope.depth (loop_over routines scope body) cells after end)

-- a turn that does not fault goes on: it leaves no routine, as no `return` stands in the loop
abbrev pub TurnsGoOn : Type 0
TurnsGoOn =
    (n : _) (types : Declared) (routines : List Routine) (scope : Scope) (scene : Scene) (body : Row_of-Stmt n)
    (cells : Cells) (node : ℕ) (after : Ending)
    → KeepsApart types routines scope body → turn routines scene body node cells ≡ Got after
    → (end : Cells) × (after ≡ Next end)

-- all writes of a loop to the cells of a family have one place, which is the place of the family
abbrev pub WritesHaveOnePlace : Type 0
WritesHaveOnePlace =
    (n : _) (types : Declared) (routines : List Routine) (scope : Scope) (body : Row_of-Stmt n) (k : ℕ) (a : Access)
    (path : Path)
    → KeepsApart types routines scope body
    → slice_get (loop_over routines scope body).accesses k ≡ Some a → a.write ≡ true
    → in_scope scope.depth a.shape.owner ≡ true → is_front (fields a.shape.parts) path ≡ true
    → (place : ℕ) × ((family_place (loop_over routines scope body) a.shape.owner path ≡ Some place)
    × (place_of_write (next_binder scope) a ≡ Some place))

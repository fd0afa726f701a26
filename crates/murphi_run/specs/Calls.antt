-- The variables of a routine that is called: what its formals by value hold, and its locals, stand behind all cells in
-- scope, and go when it is left. A `var` formal has no cells of its own.
use Rattle.std.specs.Prelude.{◌≡◌, ℕ, suc, ◌+◌, true, List, [], ◌∷◌, ◌++◌, Option, None, Some, nat_eq, nat_lt, length, replicate, take, slice_get, if◌then◌else◌}
use Rattle.term_core.specs.declared.value.Value.{Value}
use Rattle.term_core.specs.declared.value.Value.TheVariants.{Undefined}
use Rattle.murphi_ast.specs.declared.token.Span.{Span}
use Rattle.murphi_typed.specs.declared.types.AnyType.{AnyType}
use Rattle.murphi_typed.specs.declared.protocol.Variable.{Variable}
use Rattle.murphi_typed.specs.declared.protocol.Routine.{Routine}
use Rattle.murphi_typed.specs.Store.{Global, Local, Formal, Place, Cells}
use Rattle.murphi_typed.specs.Expressions.{Given, Filled, Standing, Scene}
use Rattle.murphi_typed.specs.Execution.{call_of, routine_calls, entered}
use Rattle.murphi_run.specs.Layout.{size}
use Rattle.murphi_run.specs.Holding.{Block, Layout, Holds, IsLayout}
use Rattle.murphi_run.specs.Stretches.{HoldsAlone}
use Rattle.murphi_run.specs.Blocks.{sizes, blocks_from}
use Rattle.murphi_run.specs.Places.{IsPlaced, at_number}

-- what a formal is given: by value, the values of cells of a type; by `var`, what it stands for
pub data Seat : Type 0 where
  Held : AnyType → List Value → Seat
  Stood : Block → Seat

-- the cells that the formals by value add
abbrev pub seat_values : List Seat → List Value
seat_values [] = []
seat_values (Held type values ∷ seats) = values ++ seat_values seats
seat_values (Stood b ∷ seats) = seat_values seats

-- and their blocks, from this number on
abbrev pub seat_blocks : ℕ → List Seat → List (Option Block)
seat_blocks first [] = []
seat_blocks first (Held type values ∷ seats) = Some (at_number first type) ∷ seat_blocks (first + length values) seats
seat_blocks first (Stood b ∷ seats) = None ∷ seat_blocks first seats

-- they are what the definition gives to the formals
abbrev pub SeatsFit : ℕ → Layout → List Seat → List Given → Type 0
SeatsFit N layout (Held type values ∷ seats) (Filled contents ∷ gs) =
    (length values ≡ size N type) × HoldsAlone N type values contents × SeatsFit N layout seats gs
SeatsFit N layout (Stood b ∷ seats) (Standing p ∷ gs) = IsPlaced N layout p b × SeatsFit N layout seats gs
SeatsFit N layout [] [] = Unit {0}
SeatsFit N layout _ _ = ⊥

-- the block of a formal by value
abbrev pub seated : Option (Option Block) → Option Block
seated (Some b) = b
seated None = None

-- the variables in scope in a body of this depth
abbrev pub inner_layout : ℕ → List (Option Block) → List Block → Layout → Layout
inner_layout depth formals locals layout (Global k) = layout (Global k)
inner_layout depth formals locals layout (Local of k) =
    if nat_eq of depth then slice_get locals k else layout (Local of k)
inner_layout depth formals locals layout (Formal of k) =
    if nat_eq of depth then seated (slice_get formals k) else layout (Formal of k)

-- the variables of a routine that is called where a list has so many cells
abbrev pub called_layout : ℕ → ℕ → ℕ → List Seat → List Variable → Layout → Layout
called_layout N count depth seats locals layout =
    inner_layout (suc depth) (seat_blocks count seats) (blocks_from N (count + length (seat_values seats)) locals) layout

-- and the list at its entry: the formals by value hold what they were given, and the locals are undefined
abbrev pub called_values : ℕ → List Value → List Seat → List Variable → List Value
called_values N values seats locals = values ++ (seat_values seats ++ replicate (sizes N locals) Undefined)

-- no variables deeper than this are in scope
abbrev pub NoneDeeper : Layout → ℕ → Type 0
NoneDeeper layout depth =
    (of k : ℕ) → nat_lt depth of ≡ true → (layout (Local of k) ≡ None) × (layout (Formal of k) ≡ None)

-- a call of a routine runs its body with those that stand before it in the text
abbrev pub CallsGoBack : Type 0
CallsGoBack =
    (routines : List Routine) (k : ℕ) (r : Routine) (scene : Scene) (at : Span) (gs : List Given) (cells : Cells)
    → slice_get routines k ≡ Some r
    → routine_calls routines k scene at gs cells ≡ call_of (routine_calls (take k routines)) r scene at gs cells

-- the blocks of a called routine have no cell in common, with each other or with those in scope before
abbrev pub CalledBlocksAreApart : Type 0
CalledBlocksAreApart =
    (N depth : ℕ) (layout : Layout) (values : List Value) (seats : List Seat) (gs : List Given) (locals : List Variable)
    → IsLayout N layout (length values) → SeatsFit N layout seats gs
    → IsLayout N (called_layout N (length values) depth seats locals layout) (length (called_values N values seats locals))

-- the list at its entry holds the cells at its entry
abbrev pub CalledEntriesAreHeld : Type 0
CalledEntriesAreHeld =
    (N depth : ℕ) (layout : Layout) (values : List Value) (cells : Cells) (seats : List Seat) (gs : List Given)
    (locals : List Variable)
    → Holds N layout values cells → SeatsFit N layout seats gs
    → Holds N (called_layout N (length values) depth seats locals layout) (called_values N values seats locals)
    (entered (suc depth) gs cells)

-- a place in scope before stays where it is, and no variables of deeper calls are in scope
abbrev pub CalledPlacesStay : Type 0
CalledPlacesStay =
    (N count depth : ℕ) (layout : Layout) (seats : List Seat) (locals : List Variable) (p : Place) (b : Block)
    → NoneDeeper layout depth → IsPlaced N layout p b → IsPlaced N (called_layout N count depth seats locals layout) p b

abbrev pub CalledBodiesAreDeepest : Type 0
CalledBodiesAreDeepest =
    (N count depth : ℕ) (layout : Layout) (seats : List Seat) (locals : List Variable)
    → NoneDeeper layout depth → NoneDeeper (called_layout N count depth seats locals layout) (suc depth)

-- when it is left, the list without its cells holds what it leaves of the cells in scope before
abbrev pub CalledBodiesAreLeft : Type 0
CalledBodiesAreLeft =
    (N count depth : ℕ) (layout : Layout) (seats : List Seat) (locals : List Variable) (after : List Value)
    (cells : Cells)
    → IsLayout N layout count → NoneDeeper layout depth
    → Holds N (called_layout N count depth seats locals layout) after cells → Holds N layout (take count after) cells

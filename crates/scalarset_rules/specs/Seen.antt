-- What contracts see of the values that the code works with: the same, in the words of the rules.
use Rattle.std.specs.Prelude.{ℕ, List, [], ◌∷◌, map, Option, None, Some, if◌then◌else◌}
use Rattle.murphi_ast.specs.declared.token.Span.{Span}
use Rattle.murphi_typed.specs.Store.{Owner, Global, Local, Formal}
use Rattle.scalarset_rules.specs.declared.shape.Variable.{Variable}
use Rattle.scalarset_rules.specs.declared.shape.Variable.TheVariants as variable
use Rattle.scalarset_rules.specs.declared.shape.Shape.{Shape as HeldShape}
use Rattle.scalarset_rules.specs.declared.shape.Stand.{Stand as HeldStand}
use Rattle.scalarset_rules.specs.declared.shape.Stand.TheVariants as stand
use Rattle.scalarset_rules.specs.declared.shape.Access.{Access as HeldAccess}
use Rattle.scalarset_rules.specs.declared.piece.Piece.{Piece as HeldPiece}
use Rattle.scalarset_rules.specs.declared.piece.Piece.TheVariants as piece
use Rattle.scalarset_rules.specs.declared.nested.LoopPiece.{LoopPiece as HeldLoop}
use Rattle.scalarset_rules.specs.declared.nested.LoopPiece.TheVariants as loop
use Rattle.scalarset_rules.specs.Pieces.{Piece, Touch, Enter, LoopPiece, Around, Within}
use Rattle.scalarset_rules.specs.Accesses.{Binder, Shape, Stand, Valued, Placed, Scope, Access, blamed, Loop, loop_from}
use Rattle.scalarset_rules.specs.Rules.{Break, is_deeper, lacks, blame, rule_of, place_of_write, sooner, first_break}

abbrev pub seen_owner : Variable → Owner
seen_owner (variable.Global k) = Global k
seen_owner (variable.Local depth k) = Local depth k
seen_owner (variable.Formal depth k) = Formal depth k

abbrev pub seen_shape : HeldShape → Shape
seen_shape s = record { owner = seen_owner s.owner; parts = s.parts }

abbrev pub seen_stand : HeldStand → Stand
seen_stand (stand.Valued v) = Valued v
seen_stand (stand.Placed shape) = Placed (seen_shape shape)

abbrev pub seen_access : HeldAccess → Access
seen_access a = record { write = a.write; shape = seen_shape a.shape; at = a.at; by = a.by }

-- the scope of a body: its depth in calls, how many variables are bound, and what its formals stand for
abbrev pub scope_at : ℕ → ℕ → List HeldStand → Scope
scope_at depth bound stands = record { depth = depth; bound = bound; stands = map seen_stand stands }

-- the first break of one write and another access, if it is judged
abbrev pub pair_breaks : Binder → ℕ → Access → Access → List Break
pair_breaks v k w a = if lacks v k w a then blame (rule_of a) a.at w.by a.by else []

abbrev pub if_near : Binder → Access → Option Break → Option Break
if_near v a found = if is_deeper v.depth a.shape.owner then None else found

abbrev pub first_pair : Binder → ℕ → Access → List HeldAccess → Option Break
first_pair v k w [] = None
first_pair v k w (a ∷ all) =
    sooner (if_near v (seen_access a) (first_break (pair_breaks v k w (seen_access a)))) (first_pair v k w all)

-- the first break of one write
abbrev pub first_placed : Binder → List HeldAccess → Access → Option ℕ → Option Break
first_placed v all w None = first_break (blame 5 w.at w.by None)
first_placed v all w (Some k) = first_pair v k w all

abbrev pub first_of_write : Binder → List HeldAccess → Access → Option Break
first_of_write v all w = if w.write then first_placed v all w (place_of_write v w) else None

-- the first break of these writes
abbrev pub first_of_writes : Binder → List HeldAccess → List HeldAccess → Option Break
first_of_writes v all [] = None
first_of_writes v all (w ∷ ws) =
    sooner (if_near v (seen_access w) (first_of_write v all (seen_access w))) (first_of_writes v all ws)

-- a loop with these accesses
abbrev pub loop_seen : Binder → List HeldAccess → Loop
loop_seen v all = record { variable = v; accesses = map seen_access all }

abbrev pub seen_piece : HeldPiece → Piece
seen_piece (piece.Touch access) = Touch (seen_access access)
seen_piece (piece.Enter k stands at) = Enter k (map seen_stand stands) at

abbrev pub seen_loop : HeldLoop → LoopPiece
seen_loop (loop.Around v pieces) = Around v (map seen_piece pieces)
seen_loop (loop.Within k stands at) = Within k (map seen_stand stands) at

-- the call that is open already, or this one
abbrev pub or_call : Option Span → Span → Span
or_call None call = call
or_call (Some first) call = first

-- from the opening of a call, if there is one
abbrev pub by_access : Option Span → Access → Access
by_access None a = a
by_access (Some call) a = blamed call a

abbrev pub by_call : Option Span → List Access → List Access
by_call by all = map (by_access by) all

abbrev pub by_loop : Option Span → Loop → Loop
by_loop None loop = loop
by_loop (Some call) loop = loop_from call loop

abbrev pub by_loops : Option Span → List Loop → List Loop
by_loops by all = map (by_loop by) all

-- The symmetry rules, one by one, and the first break. They make one text speak for every number of nodes: nodes
-- are told apart by nothing but equality, and the turns of a `for` over nodes do not meet. After Ip and Dill; the
-- nine rules are this project's own.
use Rattle.std.specs.Prelude.{ℕ, zero, suc, Bool, true, false, not, ◌&&◌, ◌||◌, nat_eq, nat_lt, List, [], ◌∷◌, ◌++◌, map, Option, None, Some, if◌then◌else◌, is_some}
use Rattle.std.specs.List.{flat_map, filter}
use Rattle.std.specs.Str.{bytes_eq}
use Rattle.murphi_ast.specs.declared.token.Span.{Span}
use Rattle.murphi_typed.specs.declared.types.Simple.{Simple}
use Rattle.murphi_typed.specs.declared.types.Simple.TheVariants as simple
use Rattle.murphi_typed.specs.declared.types.AnyType as t
use Rattle.murphi_typed.specs.declared.types.AnyType.{AnyType, Row_of-Field, end_of-Field, more_of-Field}
use Rattle.murphi_typed.specs.declared.stmt.Stmt as s
use Rattle.murphi_typed.specs.declared.stmt.Stmt.{Stmt, Row_of-Stmt, end_of-Stmt, more_of-Stmt, Row_of-Arm, end_of-Arm, more_of-Arm, Row_of-Case, end_of-Case, more_of-Case}
use Rattle.murphi_typed.specs.declared.protocol.Formal.{Formal as DeclaredFormal}
use Rattle.murphi_typed.specs.declared.protocol.Parameter.{Parameter}
use Rattle.murphi_typed.specs.declared.protocol.Routine.{Routine}
use Rattle.murphi_typed.specs.declared.protocol.Rule.{Rule}
use Rattle.murphi_typed.specs.declared.protocol.Start.{Start}
use Rattle.murphi_typed.specs.declared.protocol.TypedFormula.{TypedFormula}
use Rattle.murphi_typed.specs.declared.protocol.WrittenSize.{WrittenSize}
use Rattle.murphi_typed.specs.declared.protocol.WrittenSize.TheVariants as size
use Rattle.murphi_typed.specs.declared.protocol.NodeType.{NodeType}
use Rattle.murphi_typed.specs.declared.protocol.Typed.{Typed}
use Rattle.murphi_typed.specs.Forms.{ArrayForm}
use Rattle.murphi_typed.specs.Store.{Owner, Global, Local, Formal, same_owner}
use Rattle.murphi_typed.specs.Execution.{at_of}
use Rattle.murphi_typed.specs.Prefix.{is_over_nodes}
-- a break of a rule, by its number from 1 to 9, at a place of the text
pub use Rattle.scalarset_rules.specs.declared.judge.Break.{Break}
use Rattle.scalarset_rules.specs.Accesses.{Binder, same_binder, Part, Field, Index, Shape, Stand, Valued, Placed, whole_shape, Scope, Access, Loop, loops, opened_routines, routine_loops}

abbrev pub breaks_at : ℕ → List Span → List Break
breaks_at rule places = map (λ at. record { rule = rule; at = at }) places

-- S1: the constant that gives the size of the node type occurs nowhere but in its own declaration and in that of
-- the node type
abbrev pub size_uses : NodeType → List Break
size_uses node = breaks_at 1 node.uses

-- S2: the size of the node type is written as one number or one constant name
abbrev pub size_form : WrittenSize → Span → List Break
size_form size.Number at = []
size_form (size.Constant name) at = []
size_form size.Other at = breaks_at 2 (at ∷ [])

-- S3: `clear` is not applied to a designator whose type holds scalarset values; an index type does not count
abbrev pub is_scalarset_type : Simple → Bool
is_scalarset_type (simple.Scalarset kind count) = true
is_scalarset_type simple.Node = true
is_scalarset_type _ = false

unfoldable mutual
  pub holds_scalarset : AnyType → Bool
  holds_scalarset (t.Simple type) = is_scalarset_type type
  holds_scalarset (t.Record' _ fields) = row_holds fields
  holds_scalarset (ArrayForm index item) = holds_scalarset item

  pub row_holds : {n : _} → Row_of-Field n → Bool
  row_holds end_of-Field = false
  row_holds (more_of-Field name type rest) = holds_scalarset type || row_holds rest

-- a statement of a body, with whether it stands inside a `for` over nodes
pub record Standing : Type 0 where
  pub inside : Bool
  pub statement : Stmt

unfoldable mutual
  -- the statements that stand in a statement, in text order
  pub inner_statements : Bool → Stmt → List Standing
  inner_statements inside (s.Block' _ body) = row_statements inside body
  inner_statements inside (s.If' _ arms _ otherwise at) =
      arm_statements inside arms ++ row_statements inside otherwise
  inner_statements inside (s.Switch' on _ cases _ otherwise at) =
      case_statements inside cases ++ row_statements inside otherwise
  inner_statements inside (s.For' over _ body at) = row_statements (inside || is_over_nodes over) body
  inner_statements inside _ = []

  pub row_statements : {n : _} → Bool → Row_of-Stmt n → List Standing
  row_statements inside end_of-Stmt = []
  row_statements inside (more_of-Stmt first rest) =
      (record { inside = inside; statement = first } ∷ inner_statements inside first) ++ row_statements inside rest

  pub arm_statements : {n : _} → Bool → Row_of-Arm n → List Standing
  arm_statements inside end_of-Arm = []
  arm_statements inside (more_of-Arm test _ body rest) = row_statements inside body ++ arm_statements inside rest

  pub case_statements : {n : _} → Bool → Row_of-Case n → List Standing
  case_statements inside end_of-Case = []
  case_statements inside (more_of-Case labels _ body rest) =
      row_statements inside body ++ case_statements inside rest

-- all statements of a body, in text order, each before those that stand in it
abbrev pub statements : Stmt → List Standing
statements body = record { inside = false; statement = body } ∷ inner_statements false body

abbrev pub bad_clear : Stmt → List Break
bad_clear (s.Clear place type at) = if holds_scalarset type then breaks_at 3 (at_of place ∷ []) else []
bad_clear _ = []

-- S4: no `return` stands inside a `for` over nodes
abbrev pub bad_return : Bool → Stmt → List Break
bad_return true (s.Leave at) = breaks_at 4 (at ∷ [])
bad_return true (s.Return body at) = breaks_at 4 (at ∷ [])
bad_return _ _ = []

-- S8: a function's body holds no `for` over nodes
abbrev pub bad_for : Stmt → List Break
bad_for (s.For' over _ body at) = if is_over_nodes over then breaks_at 8 (at ∷ []) else []
bad_for _ = []

-- the breaks of S3, of S4 and of S8 in one body
abbrev pub clear_breaks : Stmt → List Break
clear_breaks body = flat_map (λ (p : Standing). bad_clear p.statement) (statements body)

abbrev pub return_breaks : Stmt → List Break
return_breaks body = flat_map (λ (p : Standing). bad_return p.inside p.statement) (statements body)

-- the `return`s in the body of a `for` over nodes
abbrev pub row_returns : {n : _} → Row_of-Stmt n → List Break
row_returns body = flat_map (λ (p : Standing). bad_return p.inside p.statement) (row_statements true body)

abbrev pub for_breaks : Stmt → List Break
for_breaks body = flat_map (λ (p : Standing). bad_for p.statement) (statements body)

-- S5 to S7 and S9, of one loop of an opened body

-- two shapes overlap where one is a prefix of the other; all indices are alike there
abbrev pub same_part : Part → Part → Bool
same_part (Field name) (Field other) = bytes_eq name other
same_part (Index v) (Index w) = true
same_part _ _ = false

abbrev pub is_prefix : List Part → List Part → Bool
is_prefix [] all = true
is_prefix (p ∷ front) [] = false
is_prefix (p ∷ front) (q ∷ all) = same_part p q && is_prefix front all

abbrev pub overlap : Shape → Shape → Bool
overlap a b = same_owner a.owner b.owner && (is_prefix a.parts b.parts || is_prefix b.parts a.parts)

-- the marks of the indices, in order
abbrev pub marks : List Part → List (Option Binder)
marks [] = []
marks (Field name ∷ parts) = marks parts
marks (Index v ∷ parts) = v ∷ marks parts

-- whether an index is the variable itself
abbrev pub is_it : Binder → Option Binder → Bool
is_it v None = false
is_it v (Some w) = same_binder v w

-- whether the index at this place is the variable; places of indices count from 0
abbrev pub has_at : Binder → ℕ → List (Option Binder) → Bool
has_at v k [] = false
has_at v zero (m ∷ ms) = is_it v m
has_at v (suc k) (m ∷ ms) = has_at v k ms

abbrev pub one_later : Option ℕ → Option ℕ
one_later None = None
one_later (Some k) = Some (suc k)

-- the place of a write: its first index that is the variable
abbrev pub first_at : Binder → List (Option Binder) → Option ℕ
first_at v [] = None
first_at v (m ∷ ms) = if is_it v m then Some 0 else one_later (first_at v ms)

abbrev pub place_of_write : Binder → Access → Option ℕ
place_of_write v w = first_at v (marks w.shape.parts)

-- A call is to blame where a designator from its opening takes part in a break: then S9 is broken at the called
-- name. Otherwise the rule is broken at its own place.
abbrev pub blame : ℕ → Span → Option Span → Option Span → List Break
blame rule at None None = breaks_at rule (at ∷ [])
blame rule at (Some call) None = breaks_at 9 (call ∷ [])
blame rule at None (Some call) = breaks_at 9 (call ∷ [])
blame rule at (Some call) (Some other) = breaks_at 9 (call ∷ other ∷ [])

-- S6 for another write, S7 for a read
abbrev pub rule_of : Access → ℕ
rule_of a = if a.write then 6 else 7

-- whether an access overlaps a write with this place and lacks the variable there
abbrev pub lacks : Binder → ℕ → Access → Access → Bool
lacks v k w a = overlap w.shape a.shape && not (has_at v k (marks a.shape.parts))

-- S5: a write has an index that is the variable. S6 and S7: each other write, and each read, that overlaps it has
-- the variable at the same place.
abbrev pub write_breaks : Binder → List Access → Access → Option ℕ → List Break
write_breaks v all w None = blame 5 w.at w.by None
write_breaks v all w (Some k) = flat_map (λ a. if lacks v k w a then blame (rule_of a) a.at w.by a.by else []) all

-- locals of routines that are called in the loop are exempt
abbrev pub is_deeper : ℕ → Owner → Bool
is_deeper depth (Global k) = false
is_deeper depth (Local of k) = nat_lt depth of
is_deeper depth (Formal of k) = nat_lt depth of

-- the accesses of a loop that are judged
abbrev pub judged : Loop → List Access
judged loop = filter (λ (a : Access). not (is_deeper loop.variable.depth a.shape.owner)) loop.accesses

abbrev pub breaks_of_write : Binder → List Access → Access → List Break
breaks_of_write v all w = if w.write then write_breaks v all w (place_of_write v w) else []

abbrev pub loop_breaks : Loop → List Break
loop_breaks loop = flat_map (breaks_of_write loop.variable (judged loop)) (judged loop)

-- the breaks of S5 to S7 and S9 in one body: in each loop of the opened body
abbrev pub body_breaks : List Routine → Scope → Stmt → List Break
body_breaks routines scope body =
    flat_map loop_breaks (loops (opened_routines routines) (routine_loops routines) scope body)

-- Bodies

-- a routine's own formals: each is a variable of its own
abbrev pub own_stand : ℕ → DeclaredFormal → Stand
own_stand k formal = if formal.by_place then Placed (whole_shape (Formal 0 k)) else Valued None

abbrev pub own_stands : ℕ → List DeclaredFormal → List Stand
own_stands k [] = []
own_stands k (f ∷ fs) = own_stand k f ∷ own_stands (suc k) fs

abbrev pub count_of : List Parameter → ℕ
count_of [] = 0
count_of (p ∷ ps) = suc (count_of ps)

abbrev pub top_scope : List Parameter → Scope
top_scope params = record { depth = 0; bound = count_of params; stands = [] }

abbrev pub routine_scope : Routine → Scope
routine_scope r = record { depth = 0; bound = 0; stands = own_stands 0 r.formals }

-- all but S3, in one body
abbrev pub node_breaks : List Routine → Scope → Stmt → List Break
node_breaks routines scope body = return_breaks body ++ body_breaks routines scope body

abbrev pub routine_breaks : List Routine → Routine → List Break
routine_breaks routines r =
    (if is_some r.result then for_breaks r.body else []) ++ node_breaks routines (routine_scope r) r.body

-- all bodies of a protocol
abbrev pub bodies : Typed → List Stmt
bodies T =
    map (λ (r : Routine). r.body) T.routines
    ++ (map (λ (a : Start). a.body) T.starts ++ map (λ (r : Rule). r.body) T.rules)

-- the breaks that are about the node type
abbrev pub breaks_with : Typed → NodeType → List Break
breaks_with T node =
    size_uses node
    ++ (size_form node.size node.size_at
    ++ (flat_map (routine_breaks T.routines) T.routines
    ++ (flat_map (λ (a : Start). node_breaks T.routines (top_scope a.params) a.body) T.starts
    ++ flat_map (λ (r : Rule). node_breaks T.routines (top_scope r.params) r.body) T.rules)))

-- without a node type only S3 is judged
abbrev pub node_type_breaks : Typed → Option NodeType → List Break
node_type_breaks T None = []
node_type_breaks T (Some node) = breaks_with T node

-- all breaks of a protocol, in no order
abbrev pub breaks : Typed → List Break
breaks T = flat_map clear_breaks (bodies T) ++ node_type_breaks T T.node

-- The first break in text order; at one place the least rule

abbrev pub is_earlier : Span → Span → Bool
is_earlier a b = nat_lt a.line b.line || (nat_eq a.line b.line && nat_lt a.column b.column)

abbrev pub is_same_place : Span → Span → Bool
is_same_place a b = nat_eq a.line b.line && nat_eq a.column b.column

abbrev pub is_before : Break → Break → Bool
is_before b c = is_earlier b.at c.at || (is_same_place b.at c.at && nat_lt b.rule c.rule)

-- the first of two, if there is one; of two that are alike, the left
abbrev pub sooner : Option Break → Option Break → Option Break
sooner None c = c
sooner (Some b) None = Some b
sooner (Some b) (Some c) = if is_before c b then Some c else Some b

abbrev pub first_break : List Break → Option Break
first_break [] = None
first_break (b ∷ bs) = sooner (Some b) (first_break bs)

-- the first break of the symmetry rules, if there is one
abbrev pub broken : Typed → Option Break
broken T = first_break (breaks T)

abbrev pub first_place : List Span → Option Span
first_place [] = None
first_place (at ∷ places) = Some at

-- S1 in a lemma: the first place where it uses the constant that gives the size of the node type. The places
-- stand in text order.
abbrev pub formula_break : TypedFormula → Option Span
formula_break f = first_place f.uses

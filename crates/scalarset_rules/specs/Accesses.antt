-- What a body reads and writes, with all calls opened: the called body stands in the place of the call, and the
-- arguments stand for the formals. What the bodies of routines read and write is given, as a list for each call.
use Rattle.std.specs.Prelude.{ℕ, suc, Bool, true, false, ◌&&◌, nat_eq, List, [], ◌∷◌, ◌++◌, map, reverse, length, Option, None, Some, if◌then◌else◌, slice_get}
use Rattle.std.specs.List.{flat_map}
use Rattle.murphi_ast.specs.declared.token.Span.{Span}
use Rattle.murphi_typed.specs.declared.types.Simple.{Simple}
use Rattle.murphi_typed.specs.declared.expr.Root.{Root}
use Rattle.murphi_typed.specs.declared.expr.Root.TheVariants as root
use Rattle.murphi_typed.specs.declared.expr.Expr as x
use Rattle.murphi_typed.specs.declared.expr.Expr.{Expr, end_of-Expr, more_of-Expr, Row_of-Link, end_of-Link, more_of-Link}
use Rattle.murphi_typed.specs.declared.expr.Designator as d
use Rattle.murphi_typed.specs.declared.expr.Designator.{Designator, Row_of-Selector, end_of-Selector, more_of-Selector}
use Rattle.murphi_typed.specs.declared.expr.Selector as select
use Rattle.murphi_typed.specs.declared.expr.Arguments as a
use Rattle.murphi_typed.specs.declared.expr.Arguments.{Arguments, Row_of-Argument, end_of-Argument, more_of-Argument}
use Rattle.murphi_typed.specs.declared.expr.Argument as argument
use Rattle.murphi_typed.specs.declared.stmt.Stmt as s
use Rattle.murphi_typed.specs.declared.stmt.Stmt.{Stmt, Row_of-Stmt, end_of-Stmt, more_of-Stmt, Row_of-Arm, end_of-Arm, more_of-Arm, Row_of-Case, end_of-Case, more_of-Case}
use Rattle.murphi_typed.specs.declared.protocol.Routine.{Routine}
use Rattle.murphi_typed.specs.Forms.{NotForm, MinusForm, CompareForm, ImpliesForm, ChoiceForm, QuantifiedForm}
use Rattle.murphi_typed.specs.Store.{Owner, Global, Local, Formal}
use Rattle.murphi_typed.specs.Prefix.{is_over_nodes}
-- a bound variable of an opened body: that of the body at this depth in calls, by its number there
pub use Rattle.scalarset_rules.specs.declared.shape.Binder.{Binder}
-- a part of a shape: a field, or the mark for an index. The mark has the bound variable that the index is itself,
-- if it is one.
pub use Rattle.scalarset_rules.specs.declared.shape.Part.{Part}
pub use Rattle.scalarset_rules.specs.declared.shape.Part.TheVariants.{Field, Index}

abbrev pub same_binder : Binder → Binder → Bool
same_binder v w = nat_eq v.depth w.depth && nat_eq v.number w.number

-- the shape of a designator: its variable, with its field names and a mark for each index
pub record Shape : Type 0 where
  pub owner : Owner
  pub parts : List Part

-- what a formal stands for: by value, for the bound variable that its argument is itself, if it is one; by `var`,
-- for the designator that the call gives
pub data Stand : Type 0 where
  Valued : Option Binder → Stand
  Placed : Shape → Stand

-- a body as it stands in the opened one: its depth in calls, how many variables are bound around, and what its
-- formals stand for
pub record Scope : Type 0 where
  pub depth : ℕ
  pub bound : ℕ
  pub stands : List Stand

-- inside a quantifier or a `for`
abbrev pub binding : Scope → Scope
binding scope = record scope { bound = suc scope.bound }

-- a routine that is called from this body
abbrev pub called : Scope → List Stand → Scope
called scope stands = record { depth = suc scope.depth; bound = 0; stands = stands }

-- the variable of the next quantifier or `for`
abbrev pub next_binder : Scope → Binder
next_binder scope = record { depth = scope.depth; number = scope.bound }

-- The variable that an index is itself. A formal by value stands for its argument; it is never written.

abbrev pub stand_mark : Option Stand → Option Binder
stand_mark (Some (Valued v)) = v
stand_mark _ = None

abbrev pub root_mark : Scope → Root → Option Binder
root_mark scope (root.Formal k) = stand_mark (slice_get scope.stands k)
root_mark scope _ = None

abbrev pub unselected : {n : _} → Row_of-Selector n → Option Binder → Option Binder
unselected end_of-Selector v = v
unselected (more_of-Selector selector rest) v = None

abbrev pub place_mark : Scope → Designator → Option Binder
place_mark scope (d.Of' root _ selectors at) = unselected selectors (root_mark scope root)

abbrev pub mark : Scope → Expr → Option Binder
mark scope (x.Bound k) = Some (record { depth = scope.depth; number = k })
mark scope (x.Read place) = place_mark scope place
mark scope _ = None

-- The shape of a designator

abbrev pub whole_shape : Owner → Shape
whole_shape owner = record { owner = owner; parts = [] }

-- a `var` formal that stands for nothing is a variable of its own
abbrev pub placed_shape : Owner → Option Stand → Shape
placed_shape owner (Some (Placed shape)) = shape
placed_shape owner _ = whole_shape owner

abbrev pub root_shape : Scope → Root → Shape
root_shape scope (root.Global k) = whole_shape (Global k)
root_shape scope (root.Local k) = whole_shape (Local scope.depth k)
root_shape scope (root.Formal k) = whole_shape (Formal scope.depth k)
root_shape scope (root.Place k) = placed_shape (Formal scope.depth k) (slice_get scope.stands k)

abbrev pub row_parts : {n : _} → Scope → Row_of-Selector n → List Part
row_parts scope end_of-Selector = []
row_parts scope (more_of-Selector (select.Field name) rest) = Field name ∷ row_parts scope rest
row_parts scope (more_of-Selector (select.Index over index) rest) = Index (mark scope index) ∷ row_parts scope rest

abbrev pub under : Shape → List Part → Shape
under shape parts = record { owner = shape.owner; parts = shape.parts ++ parts }

abbrev pub shape_of : Scope → Designator → Shape
shape_of scope (d.Of' root _ selectors at) = under (root_shape scope root) (row_parts scope selectors)

-- what the formals stand for at a call
abbrev pub argument_stand : Scope → argument.Argument → Stand
argument_stand scope (argument.Copy place) = Valued (place_mark scope place)
argument_stand scope (argument.CopyAll place) = Valued None
argument_stand scope (argument.Value body) = Valued (mark scope body)
argument_stand scope (argument.Place place) = Placed (shape_of scope place)

abbrev pub row_stands : {n : _} → Scope → Row_of-Argument n → List Stand
row_stands scope end_of-Argument = []
row_stands scope (more_of-Argument first rest) = argument_stand scope first ∷ row_stands scope rest

abbrev pub stands_of : Scope → Arguments → List Stand
stands_of scope (a.Of' _ args) = row_stands scope args

-- Accesses

-- a designator that is read or written, at its first token. Where it comes from the opening of a call, `by` is the
-- place of the called name: of the call that is written in the body itself.
pub record Access : Type 0 where
  pub write : Bool
  pub shape : Shape
  pub at : Span
  pub by : Option Span

abbrev pub blamed : Span → Access → Access
blamed call access = record access { by = Some call }

-- what the opening of a call reads and writes
abbrev pub from_call : Span → List Access → List Access
from_call call accesses = map (blamed call) accesses

-- what a routine reads and writes, by its number, where it stands like this
abbrev pub Opened : Type 0
Opened = ℕ → Scope → List Access

-- the designator itself
abbrev pub accessed : Bool → Scope → Designator → Access
accessed write scope (d.Of' root _ selectors at) =
    record { write = write; shape = shape_of scope (d.Of' root _ selectors at); at = at; by = None }

unfoldable mutual
  -- what an expression reads. `isundefined` reads its designator too.
  pub reads : Opened → Scope → Expr → List Access
  reads opened scope (x.Known v) = []
  reads opened scope (x.Bound k) = []
  reads opened scope (x.Read place) = accessed false scope place ∷ index_reads opened scope place
  reads opened scope (x.Call k args at) =
      argument_reads opened scope args ++ from_call at (opened k (called scope (stands_of scope args)))
  reads opened scope (NotForm body) = reads opened scope body
  reads opened scope (MinusForm body) = reads opened scope body
  reads opened scope (x.Chain' _ (more_of-Expr first end_of-Expr) _ rest) =
      reads opened scope first ++ chain_reads opened scope rest
  reads opened scope (CompareForm op left right) = reads opened scope left ++ reads opened scope right
  reads opened scope (ImpliesForm left right) = reads opened scope left ++ reads opened scope right
  reads opened scope (ChoiceForm test then' else') =
      reads opened scope test ++ (reads opened scope then' ++ reads opened scope else')
  reads opened scope (QuantifiedForm all over body) = reads opened (binding scope) body
  reads opened scope (x.IsUndefined place) = accessed false scope place ∷ index_reads opened scope place

  pub chain_reads : {n : _} → Opened → Scope → Row_of-Link n → List Access
  chain_reads opened scope end_of-Link = []
  chain_reads opened scope (more_of-Link op operand rest) =
      reads opened scope operand ++ chain_reads opened scope rest

  -- what the indices of a designator read
  pub index_reads : Opened → Scope → Designator → List Access
  index_reads opened scope (d.Of' root _ selectors at) = row_reads opened scope selectors

  pub row_reads : {n : _} → Opened → Scope → Row_of-Selector n → List Access
  row_reads opened scope end_of-Selector = []
  row_reads opened scope (more_of-Selector (select.Field name) rest) = row_reads opened scope rest
  row_reads opened scope (more_of-Selector (select.Index over index) rest) =
      reads opened scope index ++ row_reads opened scope rest

  -- what the arguments of a call read where it is written. The argument of a `var` formal is not read, but for
  -- its indices.
  pub argument_reads : Opened → Scope → Arguments → List Access
  argument_reads opened scope (a.Of' _ args) = row_argument_reads opened scope args

  pub row_argument_reads : {n : _} → Opened → Scope → Row_of-Argument n → List Access
  row_argument_reads opened scope end_of-Argument = []
  row_argument_reads opened scope (more_of-Argument first rest) =
      one_argument_reads opened scope first ++ row_argument_reads opened scope rest

  pub one_argument_reads : Opened → Scope → argument.Argument → List Access
  one_argument_reads opened scope (argument.Copy place) =
      accessed false scope place ∷ index_reads opened scope place
  one_argument_reads opened scope (argument.CopyAll place) =
      accessed false scope place ∷ index_reads opened scope place
  one_argument_reads opened scope (argument.Value body) = reads opened scope body
  one_argument_reads opened scope (argument.Place place) = index_reads opened scope place

-- a designator that is read, and one that is written, with the reads in its indices
abbrev pub read_at : Opened → Scope → Designator → List Access
read_at opened scope place = accessed false scope place ∷ index_reads opened scope place

abbrev pub written_at : Opened → Scope → Designator → List Access
written_at opened scope place = accessed true scope place ∷ index_reads opened scope place

unfoldable mutual
  -- what a statement reads and writes. The argument of `put` is not worked out, so it is no read.
  pub accesses : Opened → Scope → Stmt → List Access
  accesses opened scope (s.Block' _ body) = all_accesses opened scope body
  accesses opened scope (s.Assign to into body) = written_at opened scope to ++ reads opened scope body
  accesses opened scope (s.Copy to into from) = written_at opened scope to ++ read_at opened scope from
  accesses opened scope (s.CopyAll to from) = written_at opened scope to ++ read_at opened scope from
  accesses opened scope (s.Call k args at) =
      argument_reads opened scope args ++ from_call at (opened k (called scope (stands_of scope args)))
  accesses opened scope (s.If' _ arms _ otherwise at) =
      arm_accesses opened scope arms ++ all_accesses opened scope otherwise
  accesses opened scope (s.Switch' on _ cases _ otherwise at) =
      reads opened scope on ++ (case_accesses opened scope cases ++ all_accesses opened scope otherwise)
  accesses opened scope (s.For' over _ body at) = all_accesses opened (binding scope) body
  accesses opened scope (s.Clear place type at) = written_at opened scope place
  accesses opened scope (s.Undefine place at) = written_at opened scope place
  accesses opened scope (s.Error at) = []
  accesses opened scope (s.Assert test at) = reads opened scope test
  accesses opened scope (s.PutText at) = []
  accesses opened scope (s.Put shown at) = []
  accesses opened scope (s.Leave at) = []
  accesses opened scope (s.Return body at) = reads opened scope body

  pub all_accesses : {n : _} → Opened → Scope → Row_of-Stmt n → List Access
  all_accesses opened scope end_of-Stmt = []
  all_accesses opened scope (more_of-Stmt first rest) =
      accesses opened scope first ++ all_accesses opened scope rest

  pub arm_accesses : {n : _} → Opened → Scope → Row_of-Arm n → List Access
  arm_accesses opened scope end_of-Arm = []
  arm_accesses opened scope (more_of-Arm test _ body rest) =
      reads opened scope test ++ (all_accesses opened scope body ++ arm_accesses opened scope rest)

  pub case_accesses : {n : _} → Opened → Scope → Row_of-Case n → List Access
  case_accesses opened scope end_of-Case = []
  case_accesses opened scope (more_of-Case labels _ body rest) =
      flat_map (reads opened scope) labels
      ++ (all_accesses opened scope body ++ case_accesses opened scope rest)

-- what the routines of a list read and write, the last of the text first: each calls only those after it in the
-- list, which stand before it in the text
abbrev pub opened_in : List Routine → Opened
opened_in [] k scope = []
opened_in (r ∷ earlier) k scope =
    if nat_eq k (length earlier) then accesses (opened_in earlier) scope r.body else opened_in earlier k scope

-- Loops

-- a `for` over nodes of an opened body: its variable, and what its body reads and writes
pub record Loop : Type 0 where
  pub variable : Binder
  pub accesses : List Access

-- the loops of a called routine, each of whose accesses comes from the opening of the call
abbrev pub loop_from : Span → Loop → Loop
loop_from call loop = record { variable = loop.variable; accesses = from_call call loop.accesses }

-- the loops of a routine, by its number, where it stands like this
abbrev pub OpenedLoops : Type 0
OpenedLoops = ℕ → Scope → List Loop

abbrev pub loop_of : Opened → Scope → List Access → Loop
loop_of opened scope inside = record { variable = next_binder scope; accesses = inside }

-- a loop over another type is none
abbrev pub if_nodes : Simple → Loop → List Loop → List Loop
if_nodes over loop inner = if is_over_nodes over then loop ∷ inner else inner

unfoldable mutual
  -- the loops over nodes of a statement, those of procedures that it calls too. A function has none, by a rule of
  -- its own, so none are looked for in expressions.
  pub loops : Opened → OpenedLoops → Scope → Stmt → List Loop
  loops opened inner scope (s.Block' _ body) = all_loops opened inner scope body
  loops opened inner scope (s.Call k args at) = map (loop_from at) (inner k (called scope (stands_of scope args)))
  loops opened inner scope (s.If' _ arms _ otherwise at) =
      arm_loops opened inner scope arms ++ all_loops opened inner scope otherwise
  loops opened inner scope (s.Switch' on _ cases _ otherwise at) =
      case_loops opened inner scope cases ++ all_loops opened inner scope otherwise
  loops opened inner scope (s.For' over _ body at) =
      if_nodes over (record { variable = next_binder scope; accesses = all_accesses opened (binding scope) body })
      (all_loops opened inner (binding scope) body)
  loops opened inner scope _ = []

  pub all_loops : {n : _} → Opened → OpenedLoops → Scope → Row_of-Stmt n → List Loop
  all_loops opened inner scope end_of-Stmt = []
  all_loops opened inner scope (more_of-Stmt first rest) =
      loops opened inner scope first ++ all_loops opened inner scope rest

  pub arm_loops : {n : _} → Opened → OpenedLoops → Scope → Row_of-Arm n → List Loop
  arm_loops opened inner scope end_of-Arm = []
  arm_loops opened inner scope (more_of-Arm test _ body rest) =
      all_loops opened inner scope body ++ arm_loops opened inner scope rest

  pub case_loops : {n : _} → Opened → OpenedLoops → Scope → Row_of-Case n → List Loop
  case_loops opened inner scope end_of-Case = []
  case_loops opened inner scope (more_of-Case labels _ body rest) =
      all_loops opened inner scope body ++ case_loops opened inner scope rest

abbrev pub loops_in : List Routine → OpenedLoops
loops_in [] k scope = []
loops_in (r ∷ earlier) k scope =
    if nat_eq k (length earlier) then loops (opened_in earlier) (loops_in earlier) scope r.body
    else loops_in earlier k scope

-- what the routines of a text read and write, and their loops
abbrev pub opened_routines : List Routine → Opened
opened_routines routines = opened_in (reverse routines)

abbrev pub routine_loops : List Routine → OpenedLoops
routine_loops routines = loops_in (reverse routines)

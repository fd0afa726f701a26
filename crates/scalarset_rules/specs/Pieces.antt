-- What a body reads, writes and calls, with no call opened: the list of its pieces. Opening each call gives what the
-- opened body reads and writes. Code goes this way: first down the tree, and then into the routines.
use Rattle.std.specs.Prelude.{ℕ, suc, Bool, true, false, List, [], ◌∷◌, ◌++◌, map, Option, None, Some, if◌then◌else◌}
use Rattle.std.specs.List.{flat_map}
use Rattle.murphi_ast.specs.declared.token.Span.{Span}
use Rattle.murphi_typed.specs.declared.types.Simple.{Simple}
use Rattle.murphi_typed.specs.Prefix.{is_over_nodes}
use Rattle.murphi_typed.specs.declared.expr.Expr as x
use Rattle.murphi_typed.specs.declared.expr.Expr.{Expr, end_of-Expr, more_of-Expr, Row_of-Link, end_of-Link, more_of-Link}
use Rattle.murphi_typed.specs.declared.expr.Link.{Link}
use Rattle.murphi_typed.specs.declared.expr.Designator as d
use Rattle.murphi_typed.specs.declared.expr.Designator.{Designator, Row_of-Selector, end_of-Selector, more_of-Selector, items-the_row-Selector}
use Rattle.murphi_typed.specs.declared.expr.Selector as select
use Rattle.murphi_typed.specs.declared.expr.Arguments as a
use Rattle.murphi_typed.specs.declared.expr.Arguments.{Arguments, Row_of-Argument, end_of-Argument, more_of-Argument, items-the_row-Argument}
use Rattle.murphi_typed.specs.declared.expr.Argument as argument
use Rattle.murphi_typed.specs.declared.stmt.Stmt as s
use Rattle.murphi_typed.specs.declared.stmt.Stmt.{Stmt, Row_of-Stmt, end_of-Stmt, more_of-Stmt, Row_of-Arm, end_of-Arm, more_of-Arm, Row_of-Case, end_of-Case, more_of-Case}
use Rattle.murphi_typed.specs.declared.stmt.Arm.{Arm}
use Rattle.murphi_typed.specs.declared.stmt.Case.{Case}
use Rattle.murphi_typed.specs.Forms.{NotForm, MinusForm, CompareForm, ImpliesForm, ChoiceForm, QuantifiedForm}
use Rattle.scalarset_rules.specs.Accesses.{Binder, Part, Field, Index, Stand, Scope, binding, mark, argument_stand, stands_of, Access, accessed, from_call, Opened, OpenedLoops, Loop, loop_from, next_binder}

-- a designator that is read or written, or a call: the routine, what stands for its formals, and the place of its name
pub data Piece : Type 0 where
  Touch : Access → Piece
  Enter : ℕ → List Stand → Span → Piece

abbrev pub opened_piece : Opened → ℕ → Piece → List Access
opened_piece opened depth (Touch access) = access ∷ []
opened_piece opened depth (Enter k stands at) =
    from_call at (opened k (record { depth = suc depth; bound = 0; stands = stands }))

-- the pieces of a body at this depth, opened
abbrev pub opened_pieces : Opened → ℕ → List Piece → List Access
opened_pieces opened depth pieces = flat_map (opened_piece opened depth) pieces

unfoldable mutual
  pub read_pieces : Scope → Expr → List Piece
  read_pieces scope (x.Known v) = []
  read_pieces scope (x.Bound k) = []
  read_pieces scope (x.Read place) = Touch (accessed false scope place) ∷ index_pieces scope place
  read_pieces scope (x.Call k args at) = argument_pieces scope args ++ Enter k (stands_of scope args) at ∷ []
  read_pieces scope (NotForm body) = read_pieces scope body
  read_pieces scope (MinusForm body) = read_pieces scope body
  read_pieces scope (x.Chain' _ (more_of-Expr first end_of-Expr) _ rest) =
      read_pieces scope first ++ chain_pieces scope rest
  read_pieces scope (CompareForm op left right) = read_pieces scope left ++ read_pieces scope right
  read_pieces scope (ImpliesForm left right) = read_pieces scope left ++ read_pieces scope right
  read_pieces scope (ChoiceForm test then' else') =
      read_pieces scope test ++ (read_pieces scope then' ++ read_pieces scope else')
  read_pieces scope (QuantifiedForm all over body) = read_pieces (binding scope) body
  read_pieces scope (x.IsUndefined place) = Touch (accessed false scope place) ∷ index_pieces scope place

  pub chain_pieces : {n : _} → Scope → Row_of-Link n → List Piece
  chain_pieces scope end_of-Link = []
  chain_pieces scope (more_of-Link op operand rest) = read_pieces scope operand ++ chain_pieces scope rest

  pub index_pieces : Scope → Designator → List Piece
  index_pieces scope (d.Of' root _ selectors at) = row_pieces scope selectors

  pub row_pieces : {n : _} → Scope → Row_of-Selector n → List Piece
  row_pieces scope end_of-Selector = []
  row_pieces scope (more_of-Selector (select.Field name) rest) = row_pieces scope rest
  row_pieces scope (more_of-Selector (select.Index over index) rest) =
      read_pieces scope index ++ row_pieces scope rest

  pub argument_pieces : Scope → Arguments → List Piece
  argument_pieces scope (a.Of' _ args) = row_argument_pieces scope args

  pub row_argument_pieces : {n : _} → Scope → Row_of-Argument n → List Piece
  row_argument_pieces scope end_of-Argument = []
  row_argument_pieces scope (more_of-Argument first rest) =
      one_argument_pieces scope first ++ row_argument_pieces scope rest

  pub one_argument_pieces : Scope → argument.Argument → List Piece
  one_argument_pieces scope (argument.Copy place) =
      Touch (accessed false scope place) ∷ index_pieces scope place
  one_argument_pieces scope (argument.CopyAll place) =
      Touch (accessed false scope place) ∷ index_pieces scope place
  one_argument_pieces scope (argument.Value body) = read_pieces scope body
  one_argument_pieces scope (argument.Place place) = index_pieces scope place

abbrev pub touch_place : Bool → Scope → Designator → List Piece
touch_place write scope place = Touch (accessed write scope place) ∷ index_pieces scope place

abbrev pub read_place : Scope → Designator → List Piece
read_place scope place = Touch (accessed false scope place) ∷ index_pieces scope place

abbrev pub write_place : Scope → Designator → List Piece
write_place scope place = Touch (accessed true scope place) ∷ index_pieces scope place

unfoldable mutual
  pub pieces : Scope → Stmt → List Piece
  pieces scope (s.Block' _ body) = all_pieces scope body
  pieces scope (s.Assign to into body) = write_place scope to ++ read_pieces scope body
  pieces scope (s.Copy to into from) = write_place scope to ++ read_place scope from
  pieces scope (s.CopyAll to from) = write_place scope to ++ read_place scope from
  pieces scope (s.Call k args at) = argument_pieces scope args ++ Enter k (stands_of scope args) at ∷ []
  pieces scope (s.If' _ arms _ otherwise at) = arm_pieces scope arms ++ all_pieces scope otherwise
  pieces scope (s.Switch' on _ cases _ otherwise at) =
      read_pieces scope on ++ (case_pieces scope cases ++ all_pieces scope otherwise)
  pieces scope (s.For' over _ body at) = all_pieces (binding scope) body
  pieces scope (s.Clear place type at) = write_place scope place
  pieces scope (s.Undefine place at) = write_place scope place
  pieces scope (s.Error at) = []
  pieces scope (s.Assert test at) = read_pieces scope test
  pieces scope (s.PutText at) = []
  pieces scope (s.Put shown at) = []
  pieces scope (s.Leave at) = []
  pieces scope (s.Return body at) = read_pieces scope body

  pub all_pieces : {n : _} → Scope → Row_of-Stmt n → List Piece
  all_pieces scope end_of-Stmt = []
  all_pieces scope (more_of-Stmt first rest) = pieces scope first ++ all_pieces scope rest

  pub arm_pieces : {n : _} → Scope → Row_of-Arm n → List Piece
  arm_pieces scope end_of-Arm = []
  arm_pieces scope (more_of-Arm test _ body rest) =
      read_pieces scope test ++ (all_pieces scope body ++ arm_pieces scope rest)

  pub case_pieces : {n : _} → Scope → Row_of-Case n → List Piece
  case_pieces scope end_of-Case = []
  case_pieces scope (more_of-Case labels _ body rest) =
      flat_map (read_pieces scope) labels ++ (all_pieces scope body ++ case_pieces scope rest)

-- The same over the lists that code reads

-- the parts of a designator, and the arguments of a list of them
abbrev pub selectors_of : Designator → List select.Selector
selectors_of (d.Of' root _ row at) = items-the_row-Selector _ row

abbrev pub arguments_in : Arguments → List argument.Argument
arguments_in (a.Of' _ row) = items-the_row-Argument _ row

abbrev pub list_chain : Scope → List Link → List Piece
list_chain scope [] = []
list_chain scope (l ∷ ls) = read_pieces scope l.operand ++ list_chain scope ls

abbrev pub list_parts : Scope → List select.Selector → List Part
list_parts scope [] = []
list_parts scope (select.Field name ∷ rest) = Field name ∷ list_parts scope rest
list_parts scope (select.Index over index ∷ rest) = Index (mark scope index) ∷ list_parts scope rest

-- a mark, where nothing is selected
abbrev pub lone : Option select.Selector → Option Binder → Option Binder
lone None m = m
lone (Some selector) m = None

abbrev pub list_indices : Scope → List select.Selector → List Piece
list_indices scope [] = []
list_indices scope (select.Field name ∷ rest) = list_indices scope rest
list_indices scope (select.Index over index ∷ rest) = read_pieces scope index ++ list_indices scope rest

abbrev pub list_arguments : Scope → List argument.Argument → List Piece
list_arguments scope [] = []
list_arguments scope (first ∷ rest) = one_argument_pieces scope first ++ list_arguments scope rest

abbrev pub list_stands : Scope → List argument.Argument → List Stand
list_stands scope [] = []
list_stands scope (first ∷ rest) = argument_stand scope first ∷ list_stands scope rest

abbrev pub list_pieces : Scope → List Stmt → List Piece
list_pieces scope [] = []
list_pieces scope (first ∷ rest) = pieces scope first ++ list_pieces scope rest

abbrev pub list_arms : Scope → List Arm → List Piece
list_arms scope [] = []
list_arms scope (first ∷ rest) =
    read_pieces scope first.test ++ (list_pieces scope first.body ++ list_arms scope rest)

abbrev pub list_cases : Scope → List Case → List Piece
list_cases scope [] = []
list_cases scope (first ∷ rest) =
    flat_map (read_pieces scope) first.labels ++ (list_pieces scope first.body ++ list_cases scope rest)

-- Loops

-- a `for` over nodes, with its variable and the pieces of its body, or a call of a procedure
pub data LoopPiece : Type 0 where
  Around : Binder → List Piece → LoopPiece
  Within : ℕ → List Stand → Span → LoopPiece

abbrev pub opened_loop : Opened → OpenedLoops → ℕ → LoopPiece → List Loop
opened_loop opened inner depth (Around v pieces) =
    record { variable = v; accesses = opened_pieces opened depth pieces } ∷ []
opened_loop opened inner depth (Within k stands at) =
    map (loop_from at) (inner k (record { depth = suc depth; bound = 0; stands = stands }))

abbrev pub opened_loops : Opened → OpenedLoops → ℕ → List LoopPiece → List Loop
opened_loops opened inner depth all = flat_map (opened_loop opened inner depth) all

abbrev pub if_around : Simple → LoopPiece → List LoopPiece → List LoopPiece
if_around over loop inner = if is_over_nodes over then loop ∷ inner else inner

unfoldable mutual
  pub loop_pieces : Scope → Stmt → List LoopPiece
  loop_pieces scope (s.Block' _ body) = all_loop_pieces scope body
  loop_pieces scope (s.Call k args at) = Within k (stands_of scope args) at ∷ []
  loop_pieces scope (s.If' _ arms _ otherwise at) = arm_loop_pieces scope arms ++ all_loop_pieces scope otherwise
  loop_pieces scope (s.Switch' on _ cases _ otherwise at) =
      case_loop_pieces scope cases ++ all_loop_pieces scope otherwise
  loop_pieces scope (s.For' over _ body at) =
      if_around over (Around (next_binder scope) (all_pieces (binding scope) body))
      (all_loop_pieces (binding scope) body)
  loop_pieces scope _ = []

  pub all_loop_pieces : {n : _} → Scope → Row_of-Stmt n → List LoopPiece
  all_loop_pieces scope end_of-Stmt = []
  all_loop_pieces scope (more_of-Stmt first rest) = loop_pieces scope first ++ all_loop_pieces scope rest

  pub arm_loop_pieces : {n : _} → Scope → Row_of-Arm n → List LoopPiece
  arm_loop_pieces scope end_of-Arm = []
  arm_loop_pieces scope (more_of-Arm test _ body rest) = all_loop_pieces scope body ++ arm_loop_pieces scope rest

  pub case_loop_pieces : {n : _} → Scope → Row_of-Case n → List LoopPiece
  case_loop_pieces scope end_of-Case = []
  case_loop_pieces scope (more_of-Case labels _ body rest) =
      all_loop_pieces scope body ++ case_loop_pieces scope rest

abbrev pub list_loops : Scope → List Stmt → List LoopPiece
list_loops scope [] = []
list_loops scope (first ∷ rest) = loop_pieces scope first ++ list_loops scope rest

abbrev pub list_arm_loops : Scope → List Arm → List LoopPiece
list_arm_loops scope [] = []
list_arm_loops scope (first ∷ rest) = list_loops scope first.body ++ list_arm_loops scope rest

abbrev pub list_case_loops : Scope → List Case → List LoopPiece
list_case_loops scope [] = []
list_case_loops scope (first ∷ rest) = list_loops scope first.body ++ list_case_loops scope rest

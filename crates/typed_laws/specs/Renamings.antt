-- The nodes of a protocol change places: what values, cells and bodies become of that.
use Rattle.std.specs.Prelude.{◌≡◌, ℕ, Bool, true, false, not, ◌&&◌, List, map, option_map}
use Rattle.std.specs.List.{list_all}
use Rattle.term_core.specs.declared.value.Value.{Value}
use Rattle.term_core.specs.declared.value.Value.TheVariants as value
use Rattle.term_core.specs.Nodes.{is_node}
use Rattle.murphi_ast.specs.declared.token.Span.{Span}
use Rattle.murphi_typed.specs.declared.expr.Expr as x
use Rattle.murphi_typed.specs.declared.expr.Expr.{Expr, end_of-Expr, more_of-Expr, Row_of-Link, end_of-Link, more_of-Link}
use Rattle.murphi_typed.specs.declared.expr.Designator as d
use Rattle.murphi_typed.specs.declared.expr.Designator.{Designator, Row_of-Selector, end_of-Selector, more_of-Selector}
use Rattle.murphi_typed.specs.declared.expr.Selector as select
use Rattle.murphi_typed.specs.declared.expr.Arguments as a
use Rattle.murphi_typed.specs.declared.expr.Arguments.{Arguments, Row_of-Argument, end_of-Argument, more_of-Argument}
use Rattle.murphi_typed.specs.declared.expr.Argument as argument
use Rattle.murphi_typed.specs.declared.stmt.Stmt as s
use Rattle.murphi_typed.specs.declared.stmt.Stmt.{Stmt, Row_of-Stmt, end_of-Stmt, more_of-Stmt, Row_of-Arm, end_of-Arm, more_of-Arm, Row_of-Case, end_of-Case, more_of-Case}
use Rattle.murphi_typed.specs.declared.protocol.Routine.{Routine}
use Rattle.murphi_typed.specs.Forms.{NotForm, MinusForm, CompareForm, ImpliesForm, ChoiceForm, QuantifiedForm}
use Rattle.murphi_typed.specs.Prefix.{is_over_nodes}
use Rattle.murphi_typed.specs.Store.{Place, Contents, Cells}
use Rattle.murphi_typed.specs.Outcome.{Outcome, Got, Fault}
use Rattle.murphi_typed.specs.Expressions.{Given, Filled, Standing, Scene, value_of}
use Rattle.murphi_typed.specs.Execution.{Ending, Next, Returned, run, calls_of}

-- each of N nodes has one new name, and each of N nodes is the new name of one
pub record IsRenaming (N : ℕ) (to from : ℕ → ℕ) : Type 0 where
  pub back : (n : ℕ) → from (to n) ≡ n
  pub forth : (n : ℕ) → to (from n) ≡ n
  pub within : (n : ℕ) → is_node N (to n) ≡ is_node N n

abbrev pub renamed : (ℕ → ℕ) → Value → Value
renamed to value.Undefined = value.Undefined
renamed to (value.Truth b) = value.Truth b
renamed to (value.Number z) = value.Number z
renamed to (value.Member kind index) = value.Member kind index
renamed to (value.Node n) = value.Node (to n)

-- a cell has the renamed value of the one whose indices have its indices as new names
abbrev pub renamed_contents : (ℕ → ℕ) → (ℕ → ℕ) → Contents → Contents
renamed_contents to from contents path at = renamed to (contents path (map (renamed from) at))

abbrev pub renamed_cells : (ℕ → ℕ) → (ℕ → ℕ) → Cells → Cells
renamed_cells to from cells owner = renamed_contents to from (cells owner)

abbrev pub renamed_place : (ℕ → ℕ) → Place → Place
renamed_place to p = record { owner = p.owner; path = p.path; at = map (renamed to) p.at }

abbrev pub renamed_given : (ℕ → ℕ) → (ℕ → ℕ) → Given → Given
renamed_given to from (Filled contents) = Filled (renamed_contents to from contents)
renamed_given to from (Standing place) = Standing (renamed_place to place)

abbrev pub renamed_scene : (ℕ → ℕ) → (ℕ → ℕ) → Scene → Scene
renamed_scene to from scene =
    record {
      nodes = scene.nodes;
      depth = scene.depth;
      bound = map (renamed to) scene.bound;
      formals = map (renamed_given to from) scene.formals;
    }

abbrev pub renamed_ending : (ℕ → ℕ) → (ℕ → ℕ) → Ending → Ending
renamed_ending to from (Next cells) = Next (renamed_cells to from cells)
renamed_ending to from (Returned cells v) = Returned (renamed_cells to from cells) (option_map (renamed to) v)

-- both fault, or both give something, and what they give goes together
abbrev pub Alike : {A B : Type 0} → (A → B → Type 0) → Outcome A → Outcome B → Type 0
Alike P (Got a) (Got b) = P a b
Alike P (Got a) (Fault at) = ⊥
Alike P (Fault at) (Got b) = ⊥
Alike P (Fault at) (Fault other) = Unit {0}

-- Texts name no nodes, and where nothing orders them the names do not matter

abbrev pub is_no_node : Value → Bool
is_no_node (value.Node n) = false
is_no_node _ = true

unfoldable mutual
  -- an expression names no node
  pub is_free : Expr → Bool
  is_free (x.Known v) = is_no_node v
  is_free (x.Bound k) = true
  is_free (x.Read place) = place_is_free place
  is_free (x.Call k args _) = arguments_are_free args
  is_free (NotForm body) = is_free body
  is_free (MinusForm body) = is_free body
  is_free (x.Chain' _ (more_of-Expr first end_of-Expr) _ rest) = is_free first && chain_is_free rest
  is_free (CompareForm op left right) = is_free left && is_free right
  is_free (ImpliesForm left right) = is_free left && is_free right
  is_free (ChoiceForm test then' else') = is_free test && (is_free then' && is_free else')
  is_free (QuantifiedForm all over body) = is_free body
  is_free (x.IsUndefined place) = place_is_free place

  pub chain_is_free : {n : _} → Row_of-Link n → Bool
  chain_is_free end_of-Link = true
  chain_is_free (more_of-Link op operand rest) = is_free operand && chain_is_free rest

  pub place_is_free : Designator → Bool
  place_is_free (d.Of' root _ selectors _) = selectors_are_free selectors

  pub selectors_are_free : {n : _} → Row_of-Selector n → Bool
  selectors_are_free end_of-Selector = true
  selectors_are_free (more_of-Selector (select.Field name) rest) = selectors_are_free rest
  selectors_are_free (more_of-Selector (select.Index over index) rest) = is_free index && selectors_are_free rest

  pub arguments_are_free : Arguments → Bool
  arguments_are_free (a.Of' _ args) = row_is_free args

  pub row_is_free : {n : _} → Row_of-Argument n → Bool
  row_is_free end_of-Argument = true
  row_is_free (more_of-Argument first rest) = argument_is_free first && row_is_free rest

  pub argument_is_free : argument.Argument → Bool
  argument_is_free (argument.Copy place) = place_is_free place
  argument_is_free (argument.CopyAll place) = place_is_free place
  argument_is_free (argument.Value body) = is_free body
  argument_is_free (argument.Place place) = place_is_free place

unfoldable mutual
  -- a statement names no node, and has no `for` over nodes, which takes them in an order
  pub is_unordered : Stmt → Bool
  is_unordered (s.Block' _ body) = are_unordered body
  is_unordered (s.Assign to into body) = place_is_free to && is_free body
  is_unordered (s.Copy to into from) = place_is_free to && place_is_free from
  is_unordered (s.CopyAll to from) = place_is_free to && place_is_free from
  is_unordered (s.Call k args _) = arguments_are_free args
  is_unordered (s.If' _ arms _ otherwise _) = arms_are_unordered arms && are_unordered otherwise
  is_unordered (s.Switch' on _ cases _ otherwise _) =
      is_free on && (cases_are_unordered cases && are_unordered otherwise)
  is_unordered (s.For' over _ body _) = not (is_over_nodes over) && are_unordered body
  is_unordered (s.Clear place type _) = place_is_free place
  is_unordered (s.Undefine place _) = place_is_free place
  is_unordered (s.Error _) = true
  is_unordered (s.Assert test _) = is_free test
  is_unordered (s.PutText _) = true
  is_unordered (s.Put shown _) = true
  is_unordered (s.Leave _) = true
  is_unordered (s.Return body _) = is_free body

  pub are_unordered : {n : _} → Row_of-Stmt n → Bool
  are_unordered end_of-Stmt = true
  are_unordered (more_of-Stmt first rest) = is_unordered first && are_unordered rest

  pub arms_are_unordered : {n : _} → Row_of-Arm n → Bool
  arms_are_unordered end_of-Arm = true
  arms_are_unordered (more_of-Arm test _ body rest) = is_free test && (are_unordered body && arms_are_unordered rest)

  pub cases_are_unordered : {n : _} → Row_of-Case n → Bool
  cases_are_unordered end_of-Case = true
  cases_are_unordered (more_of-Case labels _ body rest) =
      list_all is_free labels && (are_unordered body && cases_are_unordered rest)

abbrev pub routine_is_unordered : Routine → Bool
routine_is_unordered r = is_unordered r.body

-- where the nodes change places, the value of an expression is renamed, calls opened. Where one faults so does the
-- other; which of several functions faults first may differ, since a quantifier asks the nodes in order.
abbrev pub ValuesAreRenamed : Type 0
ValuesAreRenamed =
    (to from : ℕ → ℕ) (routines : List Routine) (scene : Scene) (at : Span) (cells : Cells) (e : Expr)
    → IsRenaming scene.nodes to from → list_all routine_is_unordered routines ≡ true → is_free e ≡ true
    → Alike (λ v w. w ≡ renamed to v) (value_of (calls_of routines) scene at cells e)
    (value_of (calls_of routines) (renamed_scene to from scene) at (renamed_cells to from cells) e)

-- and what a body leaves is renamed, where neither it nor what it calls has a `for` over nodes
abbrev pub EndingsAreRenamed : Type 0
EndingsAreRenamed =
    (to from : ℕ → ℕ) (routines : List Routine) (scene : Scene) (cells : Cells) (body : Stmt)
    → IsRenaming scene.nodes to from → list_all routine_is_unordered routines ≡ true → is_unordered body ≡ true
    → Alike (λ v w. w ≡ renamed_ending to from v) (run (calls_of routines) scene cells body)
    (run (calls_of routines) (renamed_scene to from scene) (renamed_cells to from cells) body)

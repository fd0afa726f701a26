-- Prefix lengths: of how many nodes a formula speaks. They are counted in the source, with calls opened.
use Rattle.std.specs.Prelude.{ℕ, suc, ◌+◌, max, Bool, true, false, nat_eq, List, [], ◌∷◌, reverse, length, Option, if◌then◌else◌, slice_get, unwrap_or}
use Rattle.std.specs.List.{count_by}
use Rattle.std.specs.Option.{option_map_or}
use Rattle.murphi_ast.specs.declared.expr.ChainOp.{ChainOp}
use Rattle.murphi_ast.specs.declared.expr.ChainOp.TheVariants as op
use Rattle.murphi_typed.specs.declared.types.Simple.{Simple}
use Rattle.murphi_typed.specs.declared.types.Simple.TheVariants as simple
use Rattle.murphi_typed.specs.declared.expr.Root.{Root}
use Rattle.murphi_typed.specs.declared.expr.Root.TheVariants as root
use Rattle.murphi_typed.specs.declared.expr.Expr as x
use Rattle.murphi_typed.specs.declared.expr.Expr.{Expr, end_of-Expr, more_of-Expr, Row_of-Link, end_of-Link, more_of-Link}
use Rattle.murphi_typed.specs.declared.expr.Designator as d
use Rattle.murphi_typed.specs.declared.expr.Designator.{Designator, Row_of-Selector, end_of-Selector, more_of-Selector}
use Rattle.murphi_typed.specs.declared.expr.Selector as select
use Rattle.murphi_typed.specs.declared.expr.Arguments as a
use Rattle.murphi_typed.specs.declared.expr.Arguments.{Arguments, Row_of-Argument, end_of-Argument, more_of-Argument}
use Rattle.murphi_typed.specs.declared.expr.Argument as argument
use Rattle.murphi_typed.specs.declared.stmt.Stmt as s
use Rattle.murphi_typed.specs.declared.stmt.Stmt.{Stmt, Row_of-Stmt, end_of-Stmt, more_of-Stmt, Row_of-Arm, end_of-Arm, more_of-Arm, Row_of-Case, end_of-Case, more_of-Case}
use Rattle.murphi_typed.specs.declared.protocol.Parameter.{Parameter}
use Rattle.murphi_typed.specs.declared.protocol.Guard.{Guard}
use Rattle.murphi_typed.specs.declared.protocol.Routine.{Routine}
use Rattle.murphi_typed.specs.Forms.{NotForm, MinusForm, CompareForm, ImpliesForm, ChoiceForm, QuantifiedForm}

abbrev pub is_over_nodes : Simple → Bool
is_over_nodes simple.Node = true
is_over_nodes _ = false

-- one level more, where a quantifier or a `for` is over nodes
abbrev pub level : Simple → ℕ → ℕ
level over inner = if is_over_nodes over then suc inner else inner

-- how deep nodes are bound in the body of a routine, by its number, where the arguments bind them so deep
abbrev pub Depths : Type 0
Depths = ℕ → List ℕ → ℕ

-- a formal counts as deep as its argument, wherever it is used
abbrev pub root_depth : List ℕ → Root → ℕ
root_depth formals (root.Formal k) = unwrap_or (slice_get formals k) 0
root_depth formals (root.Place k) = unwrap_or (slice_get formals k) 0
root_depth formals _ = 0

unfoldable mutual
  -- the deepest nesting of quantifiers over nodes in an expression, calls opened
  pub depth_of : Depths → List ℕ → Expr → ℕ
  depth_of calls formals (x.Known v) = 0
  depth_of calls formals (x.Bound k) = 0
  depth_of calls formals (x.Read place) = place_depth calls formals place
  depth_of calls formals (x.Call k args _) =
      max (args_depth calls formals args) (calls k (depths_of calls formals args))
  depth_of calls formals (NotForm body) = depth_of calls formals body
  depth_of calls formals (MinusForm body) = depth_of calls formals body
  depth_of calls formals (x.Chain' _ (more_of-Expr first end_of-Expr) _ rest) =
      max (depth_of calls formals first) (chain_depth calls formals rest)
  depth_of calls formals (CompareForm op left right) =
      max (depth_of calls formals left) (depth_of calls formals right)
  depth_of calls formals (ImpliesForm left right) = max (depth_of calls formals left) (depth_of calls formals right)
  depth_of calls formals (ChoiceForm test then' else') =
      max (depth_of calls formals test) (max (depth_of calls formals then') (depth_of calls formals else'))
  depth_of calls formals (QuantifiedForm all over body) = level over (depth_of calls formals body)
  depth_of calls formals (x.IsUndefined place) = place_depth calls formals place

  pub chain_depth : {n : _} → Depths → List ℕ → Row_of-Link n → ℕ
  chain_depth calls formals end_of-Link = 0
  chain_depth calls formals (more_of-Link op operand rest) =
      max (depth_of calls formals operand) (chain_depth calls formals rest)

  pub place_depth : Depths → List ℕ → Designator → ℕ
  place_depth calls formals (d.Of' root _ selectors _) =
      max (root_depth formals root) (indices_depth calls formals selectors)

  pub indices_depth : {n : _} → Depths → List ℕ → Row_of-Selector n → ℕ
  indices_depth calls formals end_of-Selector = 0
  indices_depth calls formals (more_of-Selector (select.Field name) rest) = indices_depth calls formals rest
  indices_depth calls formals (more_of-Selector (select.Index over index) rest) =
      max (depth_of calls formals index) (indices_depth calls formals rest)

  -- the deepest of the arguments
  pub args_depth : Depths → List ℕ → Arguments → ℕ
  args_depth calls formals (a.Of' _ args) = row_args_depth calls formals args

  pub row_args_depth : {n : _} → Depths → List ℕ → Row_of-Argument n → ℕ
  row_args_depth calls formals end_of-Argument = 0
  row_args_depth calls formals (more_of-Argument first rest) =
      max (arg_depth calls formals first) (row_args_depth calls formals rest)

  -- how deep each of the arguments is
  pub depths_of : Depths → List ℕ → Arguments → List ℕ
  depths_of calls formals (a.Of' _ args) = row_depths calls formals args

  pub row_depths : {n : _} → Depths → List ℕ → Row_of-Argument n → List ℕ
  row_depths calls formals end_of-Argument = []
  row_depths calls formals (more_of-Argument first rest) =
      arg_depth calls formals first ∷ row_depths calls formals rest

  pub arg_depth : Depths → List ℕ → argument.Argument → ℕ
  arg_depth calls formals (argument.Copy place) = place_depth calls formals place
  arg_depth calls formals (argument.CopyAll place) = place_depth calls formals place
  arg_depth calls formals (argument.Value body) = depth_of calls formals body
  arg_depth calls formals (argument.Place place) = place_depth calls formals place

abbrev pub labels_depth : Depths → List ℕ → List Expr → ℕ
labels_depth calls formals [] = 0
labels_depth calls formals (label ∷ labels) = max (depth_of calls formals label) (labels_depth calls formals labels)

unfoldable mutual
  -- the deepest nesting of quantifiers and `for`s over nodes in a statement, calls opened; the argument of `put`
  -- counts too
  pub stmt_depth : Depths → List ℕ → Stmt → ℕ
  stmt_depth calls formals (s.Block' _ body) = body_depth calls formals body
  stmt_depth calls formals (s.Assign to into body) =
      max (place_depth calls formals to) (depth_of calls formals body)
  stmt_depth calls formals (s.Copy to into from) =
      max (place_depth calls formals to) (place_depth calls formals from)
  stmt_depth calls formals (s.CopyAll to from) = max (place_depth calls formals to) (place_depth calls formals from)
  stmt_depth calls formals (s.Call k args at) =
      max (args_depth calls formals args) (calls k (depths_of calls formals args))
  stmt_depth calls formals (s.If' _ arms _ otherwise at) =
      max (arms_depth calls formals arms) (body_depth calls formals otherwise)
  stmt_depth calls formals (s.Switch' on _ cases _ otherwise at) =
      max (depth_of calls formals on) (max (cases_depth calls formals cases) (body_depth calls formals otherwise))
  stmt_depth calls formals (s.For' over _ body at) = level over (body_depth calls formals body)
  stmt_depth calls formals (s.Clear place type at) = place_depth calls formals place
  stmt_depth calls formals (s.Undefine place at) = place_depth calls formals place
  stmt_depth calls formals (s.Error at) = 0
  stmt_depth calls formals (s.Assert test at) = depth_of calls formals test
  stmt_depth calls formals (s.PutText at) = 0
  stmt_depth calls formals (s.Put shown at) = depth_of calls formals shown
  stmt_depth calls formals (s.Leave at) = 0
  stmt_depth calls formals (s.Return body at) = depth_of calls formals body

  pub body_depth : {n : _} → Depths → List ℕ → Row_of-Stmt n → ℕ
  body_depth calls formals end_of-Stmt = 0
  body_depth calls formals (more_of-Stmt first rest) =
      max (stmt_depth calls formals first) (body_depth calls formals rest)

  pub arms_depth : {n : _} → Depths → List ℕ → Row_of-Arm n → ℕ
  arms_depth calls formals end_of-Arm = 0
  arms_depth calls formals (more_of-Arm test _ body rest) =
      max (depth_of calls formals test) (max (body_depth calls formals body) (arms_depth calls formals rest))

  pub cases_depth : {n : _} → Depths → List ℕ → Row_of-Case n → ℕ
  cases_depth calls formals end_of-Case = 0
  cases_depth calls formals (more_of-Case labels _ body rest) =
      max (labels_depth calls formals labels) (max (body_depth calls formals body) (cases_depth calls formals rest))

-- how deep the routines of a list bind nodes, the last of the text first: each calls only those after it in
-- the list
abbrev pub depths_in : List Routine → Depths
depths_in [] k formals = 0
depths_in (r ∷ earlier) k formals =
    if nat_eq k (length earlier) then stmt_depth (depths_in earlier) formals r.body else depths_in earlier k formals

abbrev pub routine_depths : List Routine → Depths
routine_depths routines = depths_in (reverse routines)

-- the parts of `&` share what is moved, those of `|` do not; arithmetic moves nothing
abbrev pub joined_up : ChainOp → ℕ → ℕ → ℕ
joined_up op.And before operand = max before operand
joined_up op.Or before operand = before + operand
joined_up _ before operand = 0

-- where the whole is to be false it is the other way round
abbrev pub joined_down : ChainOp → ℕ → ℕ → ℕ
joined_down op.And before operand = before + operand
joined_down op.Or before operand = max before operand
joined_down _ before operand = 0

unfoldable mutual
  -- how many `forall`s over nodes can be moved to the front of an expression that is to be true
  pub up : Expr → ℕ
  up (x.Chain' _ (more_of-Expr first end_of-Expr) _ rest) = chain_up (up first) rest
  up (ImpliesForm left right) = down left + up right
  up (NotForm body) = down body
  up (ChoiceForm test then' else') = max (down test + up then') (up test + up else')
  up (QuantifiedForm all over body) = if all then level over (up body) else 0
  up _ = 0

  -- the same of one that is to be false: `exists` is moved then
  pub down : Expr → ℕ
  down (x.Chain' _ (more_of-Expr first end_of-Expr) _ rest) = chain_down (down first) rest
  down (ImpliesForm left right) = max (up left) (down right)
  down (NotForm body) = up body
  down (ChoiceForm test then' else') = max (down test + down then') (up test + down else')
  down (QuantifiedForm all over body) = if all then 0 else level over (down body)
  down _ = 0

  -- of a chain, given what is moved of the operands before the row
  pub chain_up : {n : _} → ℕ → Row_of-Link n → ℕ
  chain_up before end_of-Link = before
  chain_up before (more_of-Link op operand rest) = chain_up (joined_up op before (up operand)) rest

  pub chain_down : {n : _} → ℕ → Row_of-Link n → ℕ
  chain_down before end_of-Link = before
  chain_down before (more_of-Link op operand rest) = chain_down (joined_down op before (down operand)) rest

-- how many parameters are nodes
abbrev pub node_parameters : List Parameter → ℕ
node_parameters params = count_by (λ (p : Parameter). is_over_nodes p.over) params

-- the prefix length of an invariant or lemma: its node parameters, and the deepest nesting or what can be moved
-- to the front, whichever is more
abbrev pub formula_prefix : List Routine → List Parameter → Expr → ℕ
formula_prefix routines params body =
    node_parameters params + max (depth_of (routine_depths routines) [] body) (up body)

abbrev pub guard_depth : Depths → Option Guard → ℕ
guard_depth calls guard = option_map_or (λ (g : Guard). depth_of calls [] g.test) guard 0

-- the prefix length of a rule, or of a start state, which has no guard: its node parameters, and the deepest
-- nesting in guard and body
abbrev pub rule_prefix : List Routine → List Parameter → Option Guard → Stmt → ℕ
rule_prefix routines params guard body =
    node_parameters params + max (guard_depth (routine_depths routines) guard)
    (stmt_depth (routine_depths routines) [] body)

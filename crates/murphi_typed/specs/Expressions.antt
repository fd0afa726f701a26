-- What expressions, designators and arguments mean, after the Murphi manual. What routines do is given: a
-- call is looked up there. A fault has the place of the statement or guard that is running, but for a fault
-- inside a routine, which has a place of its own.
use Rattle.std.specs.Prelude.{ℕ, Bool, true, false, not, ◌&&◌, ◌||◌, List, [], ◌∷◌, ◌++◌, ℤ, pos, ◌+ℤ◌, ◌-ℤ◌, ◌*ℤ◌, int_lt, int_div, int_rem, Option, None, Some, if◌then◌else◌, slice_get}
use Rattle.term_core.specs.declared.value.Value.{Value}
use Rattle.term_core.specs.declared.value.Value.TheVariants as value
use Rattle.term_core.specs.declared.value.ArithOp.{ArithOp}
use Rattle.term_core.specs.declared.value.ArithOp.TheVariants as arith
use Rattle.term_core.specs.Values.{truth, number, same_value, is_number, is_zero}
use Rattle.murphi_ast.specs.declared.token.Span.{Span}
use Rattle.murphi_ast.specs.declared.expr.ChainOp.{ChainOp}
use Rattle.murphi_ast.specs.declared.expr.ChainOp.TheVariants as op
use Rattle.murphi_ast.specs.declared.expr.CompareOp.{CompareOp}
use Rattle.murphi_ast.specs.declared.expr.CompareOp.TheVariants as compare
use Rattle.murphi_typed.specs.declared.expr.Root.{Root}
use Rattle.murphi_typed.specs.declared.expr.Root.TheVariants as root
use Rattle.murphi_typed.specs.declared.expr.Expr as x
use Rattle.murphi_typed.specs.declared.expr.Expr.{Expr, end_of-Expr, more_of-Expr, Row_of-Link, end_of-Link, more_of-Link}
use Rattle.murphi_typed.specs.declared.expr.Designator as d
use Rattle.murphi_typed.specs.declared.expr.Designator.{Designator, Row_of-Selector, end_of-Selector, more_of-Selector}
use Rattle.murphi_typed.specs.declared.expr.Selector as select
use Rattle.murphi_typed.specs.declared.expr.Arguments as a
use Rattle.murphi_typed.specs.declared.expr.Arguments.{Arguments, Row_of-Argument, end_of-Argument, more_of-Argument}
use Rattle.murphi_typed.specs.declared.expr.Argument as argument
use Rattle.murphi_typed.specs.Forms.{NotForm, MinusForm, CompareForm, ImpliesForm, ChoiceForm, QuantifiedForm}
use Rattle.murphi_typed.specs.Values.{is_value, values}
use Rattle.murphi_typed.specs.Families.{Path}
use Rattle.murphi_typed.specs.Store.{Owner, Global, Local, Formal, Place, Contents, Cells, cell_at, contents_at, only}
use Rattle.murphi_typed.specs.Outcome.{Outcome, Got, Fault, given, or_fault}

-- what a call gives to a formal: to a formal by value what its cells are to hold, to a `var` formal the place
-- that it stands for
pub data Given : Type 0 where
  Filled : Contents → Given
  Standing : Place → Given

-- the body that is running: the number of nodes, its depth in calls, the values of its parameters and bound
-- variables from the outermost, and what its formals were given
pub record Scene : Type 0 where
  pub nodes : ℕ
  pub depth : ℕ
  pub bound : List Value
  pub formals : List Given

-- what a routine leaves: the cells, and its result where it is a function
pub record Left : Type 0 where
  pub cells : Cells
  pub result : Option Value

-- what calling a routine does, by its number: the scene and the place of the caller, what the formals are
-- given, and the cells before
abbrev pub Calls : Type 0
Calls = ℕ → Scene → Span → List Given → Cells → Outcome Left

-- a value as a truth value
abbrev pub as_truth : Value → Value
as_truth v = value.Truth (truth v)

-- the number that an operation gives, if there is one: quotients go toward 0, and nothing is divided by 0
abbrev pub result_of : ArithOp → ℤ → ℤ → Option ℤ
result_of arith.Add a b = Some (a +ℤ b)
result_of arith.Subtract a b = Some (a -ℤ b)
result_of arith.Times a b = Some (a *ℤ b)
result_of arith.Divide a b = if is_zero b then None else Some (int_div a b)
result_of arith.Modulo a b = if is_zero b then None else Some (int_rem a b)

-- a result has to be from -32,768 to 32,767
abbrev pub in_range : Span → ℤ → Outcome Value
in_range at z = if is_number z then Got (value.Number z) else Fault at

abbrev pub calculated : Span → ArithOp → Value → Value → Outcome Value
calculated at op a b = given (or_fault at (result_of op (number a) (number b))) (in_range at)

-- a chain is worked out from left to right: `false & e` and `true | e` do not evaluate e
abbrev pub joined : Span → ChainOp → Value → Outcome Value → Outcome Value
joined at op.Or left right = if truth left then Got (value.Truth true) else given right (λ b. Got (as_truth b))
joined at op.And left right = if truth left then given right (λ b. Got (as_truth b)) else Got (value.Truth false)
joined at op.Add left right = given right (calculated at arith.Add left)
joined at op.Subtract left right = given right (calculated at arith.Subtract left)
joined at op.Times left right = given right (calculated at arith.Times left)
joined at op.Divide left right = given right (calculated at arith.Divide left)
joined at op.Modulo left right = given right (calculated at arith.Modulo left)

-- `=` and `!=` compare values, the others compare numbers
abbrev pub compared : CompareOp → Value → Value → Bool
compared compare.Equal a b = same_value a b
compared compare.NotEqual a b = not (same_value a b)
compared compare.Less a b = int_lt (number a) (number b)
compared compare.LessEqual a b = not (int_lt (number b) (number a))
compared compare.Greater a b = int_lt (number b) (number a)
compared compare.GreaterEqual a b = not (int_lt (number a) (number b))

-- reading an undefined cell faults
abbrev pub defined : Span → Value → Outcome Value
defined at value.Undefined = Fault at
defined at v = Got v

-- every instance of a quantifier is worked out, so it faults where one of them does
abbrev pub over_all : Bool → (Value → Outcome Value) → List Value → Outcome Bool
over_all all instance [] = Got all
over_all all instance (v ∷ vs) =
    given (instance v)
    (λ first. given (over_all all instance vs)
    (λ rest. Got (if all then truth first && rest else truth first || rest)))

-- the scene inside a quantifier or a `for`, where one more variable is bound
abbrev pub with_bound : Scene → Value → Scene
with_bound scene v = record scene { bound = scene.bound ++ v ∷ [] }

abbrev pub whole : Owner → Place
whole owner = record { owner = owner; path = []; at = [] }

-- what a `var` formal stands for
abbrev pub stood_for : Option Given → Option Place
stood_for (Some (Standing place)) = Some place
stood_for _ = None

-- the place of a variable
abbrev pub root_place : Scene → Root → Option Place
root_place scene (root.Global k) = Some (whole (Global k))
root_place scene (root.Local k) = Some (whole (Local scene.depth k))
root_place scene (root.Formal k) = Some (whole (Formal scene.depth k))
root_place scene (root.Place k) = stood_for (slice_get scene.formals k)

-- a place under another, by further fields and indices
abbrev pub under : Place → Path → List Value → Place
under place path at = record { owner = place.owner; path = place.path ++ path; at = place.at ++ at }

-- the names of the fields of a designator
abbrev pub row_path : {n : _} → Row_of-Selector n → Path
row_path end_of-Selector = []
row_path (more_of-Selector (select.Field name) rest) = name ∷ row_path rest
row_path (more_of-Selector (select.Index over index) rest) = row_path rest

-- an index has to be of the index type of the array
abbrev pub fitting : Bool → Span → Value → Outcome Value
fitting fits at v = if fits then Got v else Fault at

unfoldable mutual
  -- the value of an expression
  pub value_of : Calls → Scene → Span → Cells → Expr → Outcome Value
  value_of calls scene at cells (x.Known v) = Got v
  value_of calls scene at cells (x.Bound k) = or_fault at (slice_get scene.bound k)
  value_of calls scene at cells (x.Read place) =
      given (place_of calls scene at cells place) (λ p. defined at (cell_at cells p))
  value_of calls scene at cells (x.Call k args _) =
      given (arguments_of calls scene at cells args)
      (λ args. given (calls k scene at args cells) (λ left. or_fault at left.result))
  value_of calls scene at cells (NotForm body) =
      given (value_of calls scene at cells body) (λ v. Got (value.Truth (not (truth v))))
  value_of calls scene at cells (MinusForm body) =
      given (value_of calls scene at cells body) (calculated at arith.Subtract (value.Number (pos 0)))
  value_of calls scene at cells (x.Chain' _ (more_of-Expr first end_of-Expr) _ rest) =
      given (value_of calls scene at cells first) (λ v. chain_value calls scene at cells v rest)
  value_of calls scene at cells (CompareForm op left right) =
      given (value_of calls scene at cells left)
      (λ v. given (value_of calls scene at cells right) (λ w. Got (value.Truth (compared op v w))))
  value_of calls scene at cells (ImpliesForm left right) =
      given (value_of calls scene at cells left) (λ v. if truth v then given (value_of calls scene at cells right)
      (λ w. Got (as_truth w)) else Got (value.Truth true))
  value_of calls scene at cells (ChoiceForm test then' else') =
      given (value_of calls scene at cells test)
      (λ v. if truth v then value_of calls scene at cells then' else value_of calls scene at cells else')
  value_of calls scene at cells (QuantifiedForm all over body) =
      given (over_all all (λ v. value_of calls (with_bound scene v) at cells body) (values scene.nodes over))
      (λ b. Got (value.Truth b))
  value_of calls scene at cells (x.IsUndefined place) =
      given (place_of calls scene at cells place)
      (λ p. Got (value.Truth (same_value (cell_at cells p) value.Undefined)))

  -- the value of a chain, given that of the operands before the row
  pub chain_value : {n : _} → Calls → Scene → Span → Cells → Value → Row_of-Link n → Outcome Value
  chain_value calls scene at cells left end_of-Link = Got left
  chain_value calls scene at cells left (more_of-Link op operand rest) =
      given (joined at op left (value_of calls scene at cells operand))
      (λ v. chain_value calls scene at cells v rest)

  -- the place of a designator
  pub place_of : Calls → Scene → Span → Cells → Designator → Outcome Place
  place_of calls scene at cells (d.Of' root _ selectors _) =
      given (or_fault at (root_place scene root))
      (λ p. given (indices_of calls scene at cells selectors)
      (λ indices. Got (under p (row_path selectors) indices)))

  -- the values of the indices of a designator, each of which has to be in its index type
  pub indices_of : {n : _} → Calls → Scene → Span → Cells → Row_of-Selector n → Outcome (List Value)
  indices_of calls scene at cells end_of-Selector = Got []
  indices_of calls scene at cells (more_of-Selector (select.Field name) rest) = indices_of calls scene at cells rest
  indices_of calls scene at cells (more_of-Selector (select.Index over index) rest) =
      given (value_of calls scene at cells index)
      (λ v. given (fitting (is_value scene.nodes over v) at v)
      (λ v. given (indices_of calls scene at cells rest) (λ vs. Got (v ∷ vs))))

  -- what a call gives to the formals
  pub arguments_of : Calls → Scene → Span → Cells → Arguments → Outcome (List Given)
  arguments_of calls scene at cells (a.Of' _ args) = row_arguments calls scene at cells args

  pub row_arguments : {n : _} → Calls → Scene → Span → Cells → Row_of-Argument n → Outcome (List Given)
  row_arguments calls scene at cells end_of-Argument = Got []
  row_arguments calls scene at cells (more_of-Argument first rest) =
      given (argument_of calls scene at cells first)
      (λ g. given (row_arguments calls scene at cells rest) (λ gs. Got (g ∷ gs)))

  pub argument_of : Calls → Scene → Span → Cells → argument.Argument → Outcome Given
  argument_of calls scene at cells (argument.Copy place) =
      given (place_of calls scene at cells place) (λ p. Got (Filled (only (cell_at cells p))))
  argument_of calls scene at cells (argument.CopyAll place) =
      given (place_of calls scene at cells place) (λ p. Got (Filled (contents_at cells p)))
  argument_of calls scene at cells (argument.Value body) =
      given (value_of calls scene at cells body) (λ v. Got (Filled (only v)))
  argument_of calls scene at cells (argument.Place place) =
      given (place_of calls scene at cells place) (λ p. Got (Standing p))

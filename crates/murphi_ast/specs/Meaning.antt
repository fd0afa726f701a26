-- What expressions, statements and rules of a flat protocol mean, after the Murphi manual: reading an
-- undefined variable is a fault, connectives go from left to right and stop as soon as their value is
-- settled, and a rule is one step. Trees of no flat form have no meaning here: they fault.
use Rattle.std.specs.Prelude.{Bool, true, false, not, List, [], ◌∷◌, Option, None, Some, option_map, option_and_then}
use Rattle.murphi_ast.specs.declared.expr.ChainOp.{ChainOp}
use Rattle.murphi_ast.specs.declared.expr.ChainOp.TheVariants as op
use Rattle.murphi_ast.specs.declared.expr.CompareOp.{CompareOp}
use Rattle.murphi_ast.specs.declared.expr.CompareOp.TheVariants as compare
use Rattle.murphi_ast.specs.declared.expr.Designator.{Designator}
use Rattle.murphi_ast.specs.declared.expr.Selector.{Selector}
use Rattle.murphi_ast.specs.declared.expr.Expr as e
use Rattle.murphi_ast.specs.declared.expr.Expr.{Expr, Row_of-Expr, end_of-Expr, more_of-Expr, Row_of-Link, end_of-Link, more_of-Link, end_of-Selector}
use Rattle.murphi_ast.specs.declared.stmt.Stmt as s
use Rattle.murphi_ast.specs.declared.stmt.Stmt.{Stmt}
use Rattle.murphi_ast.specs.Forms.{NameForm, NotForm, CompareForm, ImpliesForm}
use Rattle.murphi_ast.specs.State.{Cell, Name, State, cell_of, with_cell}

-- a value, or none where its evaluation faults
abbrev pub Value : Type 0
Value = Option Bool

-- the value of `!` over a value
abbrev pub not_value : Value → Value
not_value None = None
not_value (Some b) = Some (not b)

-- the value of `left op right`, where right is not evaluated once left settles it: a fault on the
-- left is a fault; `true | e` and `false & e` do not evaluate e
abbrev pub joined : ChainOp → Value → Value → Value
joined op.Or None right = None
joined op.Or (Some true) right = Some true
joined op.Or (Some false) right = right
joined op.And None right = None
joined op.And (Some false) right = Some false
joined op.And (Some true) right = right
joined _ left right = None

-- the value of `left -> right`: `false -> e` does not evaluate e
abbrev pub implied : Value → Value → Value
implied None right = None
implied (Some false) right = Some true
implied (Some true) right = right

abbrev pub same : Bool → Bool → Bool
same true b = b
same false b = not b

-- the value of a comparison, whose two sides are always evaluated
abbrev pub compared : CompareOp → Value → Value → Value
compared compare.Equal (Some a) (Some b) = Some (same a b)
compared compare.NotEqual (Some a) (Some b) = Some (not (same a b))
compared _ left right = None

unfoldable mutual
  -- the value of an expression
  pub value_of : List Name → State → Expr → Value
  value_of vs cells (e.Truth value at) = Some value
  value_of vs cells (NameForm root) = cell_of vs cells root.name
  value_of vs cells (NotForm body at) = not_value (value_of vs cells body)
  value_of vs cells (CompareForm op left right) = compared op (value_of vs cells left) (value_of vs cells right)
  value_of vs cells (ImpliesForm left right) = implied (value_of vs cells left) (value_of vs cells right)
  value_of vs cells (e.Chain' _ (more_of-Expr first end_of-Expr) _ rest) = row_value vs cells (value_of vs cells first) rest
  value_of vs cells _ = None

  -- the value of a chain, given that of the operands before the row
  pub row_value : {n : _} → List Name → State → Value → Row_of-Link n → Value
  row_value vs cells left end_of-Link = left
  row_value vs cells left (more_of-Link op operand rest) = row_value vs cells (joined op left (value_of vs cells operand)) rest

-- what an assignment writes: of a plain name its cell, undefined or not; of any other expression its
-- value, with a fault where that faults
abbrev pub written : List Name → State → Expr → Option Cell
written vs cells (NameForm root) = Some (cell_of vs cells root.name)
written vs cells value = option_map Some (value_of vs cells value)

-- the name of a designator that has neither fields nor indices
abbrev pub plain_name : Designator → Option Name
plain_name d = plain d.selectors d.root.name
  where
    plain : List Selector → Name → Option Name
    plain [] name = Some name
    plain (s ∷ ss) name = None

-- the state after an assignment to a name, given what it writes
abbrev pub assigned : List Name → State → Option Name → Option Cell → Option State
assigned vs cells (Some name) (Some new) = Some (with_cell vs cells name new)
assigned vs cells _ _ = None

-- the state after a statement, or none where it faults
abbrev pub after : List Name → State → Stmt → Option State
after vs cells (s.Assign to value) = assigned vs cells (plain_name to) (written vs cells value)
after vs cells _ = None

-- the state after a body, whose statements run in turn, or none where one of them faults
abbrev pub after_all : List Name → State → List Stmt → Option State
after_all vs cells [] = Some cells
after_all vs cells (first ∷ rest) = option_and_then (λ next. after_all vs next rest) (after vs cells first)

-- The value of a constant by cases on its typed expression: that of the rules for expressions, short cuts and
-- faults included. There is none where it faults, and none of an expression that no constant is.
use Rattle.std.specs.Prelude.{Bool, true, false, not, ◌&&◌, ◌||◌, List, [], ◌∷◌, ℤ, pos, Option, None, Some, option_and_then, option_map, if◌then◌else◌}
use Rattle.term_core.specs.declared.value.Value.{Value}
use Rattle.term_core.specs.declared.value.Value.TheVariants as value
use Rattle.term_core.specs.declared.value.ArithOp.{ArithOp}
use Rattle.term_core.specs.declared.value.ArithOp.TheVariants as arith
use Rattle.term_core.specs.Values.{truth, number, is_number}
use Rattle.murphi_ast.specs.declared.expr.ChainOp.{ChainOp}
use Rattle.murphi_ast.specs.declared.expr.ChainOp.TheVariants as op
use Rattle.murphi_ast.specs.declared.expr.CompareOp.{CompareOp}
use Rattle.murphi_typed.specs.declared.expr.Expr as x
use Rattle.murphi_typed.specs.declared.expr.Expr.{Expr, end_of-Expr, more_of-Expr, Row_of-Link, end_of-Link, more_of-Link}
use Rattle.murphi_typed.specs.declared.expr.Link.{Link}
use Rattle.murphi_typed.specs.Forms.{NotForm, MinusForm, CompareForm, ImpliesForm, ChoiceForm}
use Rattle.murphi_typed.specs.Expressions.{as_truth, result_of, compared}

-- a result has to be one that a number may have
abbrev pub in_range : Option ℤ → Option ℤ
in_range z = option_and_then (λ z. if is_number z then Some z else None) z

abbrev pub calculated : ArithOp → Value → Value → Option Value
calculated op a b = option_map value.Number (in_range (result_of op (number a) (number b)))

abbrev pub joined : ChainOp → Value → Option Value → Option Value
joined op.Or left right = if truth left then Some (value.Truth true) else option_map as_truth right
joined op.And left right = if truth left then option_map as_truth right else Some (value.Truth false)
joined op.Add left right = option_and_then (calculated arith.Add left) right
joined op.Subtract left right = option_and_then (calculated arith.Subtract left) right
joined op.Times left right = option_and_then (calculated arith.Times left) right
joined op.Divide left right = option_and_then (calculated arith.Divide left) right
joined op.Modulo left right = option_and_then (calculated arith.Modulo left) right

abbrev pub joined_both : ChainOp → Option Value → Option Value → Option Value
joined_both op None right = None
joined_both op (Some left) right = joined op left right

abbrev pub negated : Option Value → Option Value
negated v = option_and_then (calculated arith.Subtract (value.Number (pos 0))) v

abbrev pub denied : Option Value → Option Value
denied v = option_map (λ v. value.Truth (not (truth v))) v

abbrev pub compared_both : CompareOp → Option Value → Option Value → Option Value
compared_both op (Some a) (Some b) = Some (value.Truth (compared op a b))
compared_both op _ _ = None

abbrev pub implied : Option Value → Option Value → Option Value
implied None right = None
implied (Some left) right = if truth left then option_map as_truth right else Some (value.Truth true)

abbrev pub picked : Option Value → Option Value → Option Value → Option Value
picked None first second = None
picked (Some test) first second = if truth test then first else second

unfoldable mutual
  pub folded : Expr → Option Value
  folded (x.Known v) = Some v
  folded (NotForm body) = denied (folded body)
  folded (MinusForm body) = negated (folded body)
  folded (x.Chain' _ (more_of-Expr first end_of-Expr) _ rest) = folded_row (folded first) rest
  folded (CompareForm op left right) = compared_both op (folded left) (folded right)
  folded (ImpliesForm left right) = implied (folded left) (folded right)
  folded (ChoiceForm test first second) = picked (folded test) (folded first) (folded second)
  folded _ = None

  pub folded_row : {n : _} → Option Value → Row_of-Link n → Option Value
  folded_row left end_of-Link = left
  folded_row left (more_of-Link op operand rest) = folded_row (joined_both op left (folded operand)) rest

-- the same over the list that code reads
abbrev pub folded_links : Option Value → List Link → Option Value
folded_links left [] = left
folded_links left (l ∷ ls) = folded_links (joined_both l.op left (folded l.operand)) ls

-- the number that a value is
abbrev pub number_in : Option Value → Option ℤ
number_in (Some (value.Number z)) = Some z
number_in _ = None

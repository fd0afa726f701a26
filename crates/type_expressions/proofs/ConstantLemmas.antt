-- The value of an expression that is written as a constant is that of its typed expression by the rules for
-- expressions; and it declares nothing.
use Rattle.std.proofs.Common.{◌≡◌, ℕ, Bool, true, false, ◌&&◌, not, List, [], ◌∷◌, ◌++◌, Option, None, Some, refl, ap, sym, ◌∙◌, true≢false}
use Rattle.std.specs.Prelude.{ℤ, pos, option_map, option_and_then, if◌then◌else◌}
use Rattle.std.proofs.lemmas.Bool.{and_parts}
use denote.Hole.Carrier.{hidden}
use Rattle.term_core.specs.declared.value.Value.{Value}
use Rattle.term_core.specs.declared.value.Value.TheVariants as value
use Rattle.term_core.specs.declared.value.ArithOp.{ArithOp}
use Rattle.term_core.specs.declared.value.ArithOp.TheVariants as arith
use Rattle.term_core.specs.Values.{truth, number, is_number}
use Rattle.murphi_ast.specs.declared.token.Span.{Span}
use Rattle.murphi_ast.specs.declared.expr.ChainOp.{ChainOp}
use Rattle.murphi_ast.specs.declared.expr.ChainOp.TheVariants as op
use Rattle.murphi_ast.specs.declared.expr.CompareOp.{CompareOp}
use Rattle.murphi_typed.specs.declared.expr.Expr as x
use Rattle.murphi_typed.specs.declared.expr.Expr.{Expr, Row_of-Link, end_of-Link, more_of-Link, items-the_row-Link, items_hidden-the_row-Link-3}
use Rattle.murphi_typed.specs.declared.expr.Argument.TheBlock.{shape-the_row-Expr-2, hidden-the_row-Expr-2, hidden-the_row-Link-3}
use Rattle.murphi_typed.specs.declared.expr.Link.{Link}
use Rattle.murphi_typed.specs.Outcome.{Outcome, Got, Fault, given, or_fault}
use Rattle.murphi_typed.specs.Store.{blank}
use Rattle.murphi_typed.specs.Expressions.{value_of, chain_value, as_truth, result_of, compared}
use Rattle.murphi_typed.specs.Expressions as meaning
use Rattle.murphi_types.specs.Constants.{no_calls, no_scene, constant_number}
use Rattle.type_parts.specs.Folding.{calculated, joined, joined_both, negated, denied, compared_both, implied, picked, folded, folded_links, number_in}
use Rattle.type_parts.proofs.FoldEquations.{folded-Known, folded-Not, folded-Minus, folded-Chain, folded-Compare, folded-Implies, folded-Choice}

-- the value of a constant's typed expression
abbrev pub worth : Span → Expr → Outcome Value
worth at tree = value_of no_calls no_scene at blank tree

pub worth-Known : (at : Span) (v : Value) → worth at (x.Known v) ≡ Got v
unfolding value_of
worth-Known at v = refl

pub worth-Not : (at : Span) (b : Expr) → worth at (x.Not b) ≡ given (worth at b) (λ v. Got (value.Truth (not (truth v))))
unfolding value_of shape-the_row-Expr-2 hidden-the_row-Expr-2 hidden
worth-Not at b = refl

pub worth-Minus : (at : Span) (b : Expr) → worth at (x.Minus b) ≡ given (worth at b) (meaning.calculated at arith.Subtract (value.Number (pos 0)))
unfolding value_of shape-the_row-Expr-2 hidden-the_row-Expr-2 hidden
worth-Minus at b = refl

-- the value of a chain over a list
abbrev pub list_worth : Span → Value → List Link → Outcome Value
list_worth at left [] = Got left
list_worth at left (l ∷ ls) = given (meaning.joined at l.op left (worth at l.operand)) (λ v. list_worth at v ls)

row_worth_is : {n : _} (at : Span) (left : Value) (row : Row_of-Link n) → chain_value no_calls no_scene at blank left row ≡ list_worth at left (items-the_row-Link n row)
unfolding value_of
row_worth_is at left end_of-Link = refl
row_worth_is at left (more_of-Link op operand rest) = go (meaning.joined at op left (value_of no_calls no_scene at blank operand)) (λ v. row_worth_is at v rest)
  where
    go : (o : Outcome Value) → ((v : Value) → chain_value no_calls no_scene at blank v rest ≡ list_worth at v (items-the_row-Link _ rest)) → given o (λ v. chain_value no_calls no_scene at blank v rest) ≡ given o (λ v. list_worth at v (items-the_row-Link _ rest))
    go (Got v) h = h v
    go (Fault p) h = refl

pub worth-Chain : (at : Span) (a : Expr) (ls : List Link) → worth at (x.Chain a ls) ≡ given (worth at a) (λ v. list_worth at v ls)
unfolding value_of shape-the_row-Expr-2 hidden-the_row-Expr-2 hidden
worth-Chain at a ls = go (value_of no_calls no_scene at blank a)
  where
    one : (v : Value) → chain_value no_calls no_scene at blank v (hidden-the_row-Link-3 ls) ≡ list_worth at v ls
    one v = row_worth_is at v (hidden-the_row-Link-3 ls) ∙ ap (list_worth at v) (items_hidden-the_row-Link-3 ls)

    go : (o : Outcome Value) → given o (λ v. chain_value no_calls no_scene at blank v (hidden-the_row-Link-3 ls)) ≡ given o (λ v. list_worth at v ls)
    go (Got v) = one v
    go (Fault p) = refl

pub worth-Compare : (at : Span) (op : CompareOp) (a b : Expr) → worth at (x.Compare op a b) ≡ given (worth at a) (λ v. given (worth at b) (λ w. Got (value.Truth (compared op v w))))
unfolding value_of shape-the_row-Expr-2 hidden-the_row-Expr-2 hidden
worth-Compare at op a b = refl

pub worth-Implies : (at : Span) (a b : Expr) → worth at (x.Implies a b) ≡ given (worth at a) (λ v. if truth v then given (worth at b) (λ w. Got (as_truth w)) else Got (value.Truth true))
unfolding value_of shape-the_row-Expr-2 hidden-the_row-Expr-2 hidden
worth-Implies at a b = refl

pub worth-Choice : (at : Span) (a b c : Expr) → worth at (x.Choice a b c) ≡ given (worth at a) (λ v. if truth v then worth at b else worth at c)
unfolding value_of shape-the_row-Expr-2 hidden-the_row-Expr-2 hidden
worth-Choice at a b c = refl

-- What comes of each operator

pub calc-is : (at : Span) (op : ArithOp) (a : Value) (o : Option Value) → given (or_fault at o) (meaning.calculated at op a) ≡ or_fault at (option_and_then (calculated op a) o)
calc-is at op a None = refl
calc-is at op a (Some b) = go (result_of op (number a) (number b))
  where
    in_range : (z : ℤ) (b : Bool) → (if b then Got (value.Number z) else Fault at) ≡ or_fault at (option_map value.Number (if b then Some z else None))
    in_range z true = refl
    in_range z false = refl

    go : (r : Option ℤ) → given (or_fault at r) (meaning.in_range at) ≡ or_fault at (option_map value.Number (option_and_then (λ z. if is_number z then Some z else None) r))
    go None = refl
    go (Some z) = in_range z (is_number z)

pub map-is : (at : Span) (f : Value → Value) (o : Option Value) → given (or_fault at o) (λ v. Got (f v)) ≡ or_fault at (option_map f o)
map-is at f None = refl
map-is at f (Some v) = refl

pub joined-is : (at : Span) (op : ChainOp) (left : Value) (o : Option Value) → meaning.joined at op left (or_fault at o) ≡ or_fault at (joined op left o)
joined-is at op.Or left o = go (truth left)
  where
    go : (b : Bool) → (if b then Got (value.Truth true) else given (or_fault at o) (λ b. Got (as_truth b))) ≡ or_fault at (if b then Some (value.Truth true) else option_map as_truth o)
    go true = refl
    go false = map-is at as_truth o
joined-is at op.And left o = go (truth left)
  where
    go : (b : Bool) → (if b then given (or_fault at o) (λ b. Got (as_truth b)) else Got (value.Truth false)) ≡ or_fault at (if b then option_map as_truth o else Some (value.Truth false))
    go true = map-is at as_truth o
    go false = refl
joined-is at op.Add left o = calc-is at arith.Add left o
joined-is at op.Subtract left o = calc-is at arith.Subtract left o
joined-is at op.Times left o = calc-is at arith.Times left o
joined-is at op.Divide left o = calc-is at arith.Divide left o
joined-is at op.Modulo left o = calc-is at arith.Modulo left o

pub compared-is : (at : Span) (op : CompareOp) (a b : Option Value) → given (or_fault at a) (λ v. given (or_fault at b) (λ w. Got (value.Truth (compared op v w)))) ≡ or_fault at (compared_both op a b)
compared-is at op None b = refl
compared-is at op (Some v) None = refl
compared-is at op (Some v) (Some w) = refl

pub implied-is : (at : Span) (a b : Option Value) → given (or_fault at a) (λ v. if truth v then given (or_fault at b) (λ w. Got (as_truth w)) else Got (value.Truth true)) ≡ or_fault at (implied a b)
implied-is at None b = refl
implied-is at (Some v) b = go (truth v)
  where
    go : (c : Bool) → (if c then given (or_fault at b) (λ w. Got (as_truth w)) else Got (value.Truth true)) ≡ or_fault at (if c then option_map as_truth b else Some (value.Truth true))
    go true = map-is at as_truth b
    go false = refl

pub picked-is : (at : Span) (a b c : Option Value) → given (or_fault at a) (λ v. if truth v then or_fault at b else or_fault at c) ≡ or_fault at (picked a b c)
picked-is at None b c = refl
picked-is at (Some v) b c = go (truth v)
  where
    go : (d : Bool) → (if d then or_fault at b else or_fault at c) ≡ or_fault at (if d then b else c)
    go true = refl
    go false = refl

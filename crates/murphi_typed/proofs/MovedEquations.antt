-- What each form of expression moves to the front, in terms of the parts that code reads.
use Rattle.std.proofs.Common.{◌≡◌, ℕ, ◌+◌, max, Bool, List, refl, ap, ◌∙◌}
use Rattle.std.specs.Prelude.{if◌then◌else◌}
use denote.Hole.Carrier.{hidden}
use Rattle.term_core.specs.declared.value.Value.{Value}
use Rattle.murphi_ast.specs.declared.token.Span.{Span}
use Rattle.murphi_ast.specs.declared.expr.CompareOp.{CompareOp}
use Rattle.murphi_typed.specs.declared.types.Simple.{Simple}
use Rattle.murphi_typed.specs.declared.expr.Arguments.{Arguments}
use Rattle.murphi_typed.specs.declared.expr.Designator.{Designator}
use Rattle.murphi_typed.specs.declared.expr.Link.{Link}
use Rattle.murphi_typed.specs.declared.expr.Expr as x
use Rattle.murphi_typed.specs.declared.expr.Expr.{Expr, Row_of-Link, end_of-Link, more_of-Link, items-the_row-Link, items_hidden-the_row-Link-3, the_lemmas}
use Rattle.murphi_typed.specs.declared.expr.Argument.TheBlock.{shape-the_row-Expr-2, hidden-the_row-Expr-2, hidden-the_row-Link-3}
use Rattle.murphi_typed.specs.Prefix.{up, down, chain_up, chain_down, joined_up, joined_down, level}
use Rattle.murphi_typed.specs.PrefixLists.{list_up, list_down}

row_up_is : {n : _} (before : ℕ) (row : Row_of-Link n) → chain_up before row ≡ list_up before (items-the_row-Link n row)
unfolding up
row_up_is before end_of-Link = refl
row_up_is before (more_of-Link op operand rest) = row_up_is (joined_up op before (up operand)) rest

row_down_is : {n : _} (before : ℕ) (row : Row_of-Link n) → chain_down before row ≡ list_down before (items-the_row-Link n row)
unfolding up
row_down_is before end_of-Link = refl
row_down_is before (more_of-Link op operand rest) = row_down_is (joined_down op before (down operand)) rest

pub up-Chain : (first : Expr) (rest : List Link) → up (x.Chain first rest) ≡ list_up (up first) rest
unfolding up shape-the_row-Expr-2 hidden-the_row-Expr-2 hidden
up-Chain first rest = row_up_is (up first) (hidden-the_row-Link-3 rest) ∙ ap (list_up (up first)) (items_hidden-the_row-Link-3 rest)

pub down-Chain : (first : Expr) (rest : List Link) → down (x.Chain first rest) ≡ list_down (down first) rest
unfolding up shape-the_row-Expr-2 hidden-the_row-Expr-2 hidden
down-Chain first rest = row_down_is (down first) (hidden-the_row-Link-3 rest) ∙ ap (list_down (down first)) (items_hidden-the_row-Link-3 rest)

pub up-Implies : (left right : Expr) → up (x.Implies left right) ≡ down left + up right
unfolding up shape-the_row-Expr-2 hidden-the_row-Expr-2 hidden
up-Implies left right = refl

pub down-Implies : (left right : Expr) → down (x.Implies left right) ≡ max (up left) (down right)
unfolding up shape-the_row-Expr-2 hidden-the_row-Expr-2 hidden
down-Implies left right = refl

pub up-Not : (body : Expr) → up (x.Not body) ≡ down body
unfolding up shape-the_row-Expr-2 hidden-the_row-Expr-2 hidden
up-Not body = refl

pub down-Not : (body : Expr) → down (x.Not body) ≡ up body
unfolding up shape-the_row-Expr-2 hidden-the_row-Expr-2 hidden
down-Not body = refl

pub up-Choice : (test a b : Expr) → up (x.Choice test a b) ≡ max (down test + up a) (up test + up b)
unfolding up shape-the_row-Expr-2 hidden-the_row-Expr-2 hidden
up-Choice test a b = refl

pub down-Choice : (test a b : Expr) → down (x.Choice test a b) ≡ max (down test + down a) (up test + down b)
unfolding up shape-the_row-Expr-2 hidden-the_row-Expr-2 hidden
down-Choice test a b = refl

pub up-Quantified : (all : Bool) (over : Simple) (body : Expr) → up (x.Quantified all over body) ≡ (if all then level over (up body) else 0)
unfolding up shape-the_row-Expr-2 hidden-the_row-Expr-2 hidden
up-Quantified all over body = refl

pub down-Quantified : (all : Bool) (over : Simple) (body : Expr) → down (x.Quantified all over body) ≡ (if all then 0 else level over (down body))
unfolding up shape-the_row-Expr-2 hidden-the_row-Expr-2 hidden
down-Quantified all over body = refl

pub up-Known : (v : Value) → up (x.Known v) ≡ 0
unfolding up
up-Known v = refl

pub down-Known : (v : Value) → down (x.Known v) ≡ 0
unfolding up
down-Known v = refl

pub up-Bound : (k : ℕ) → up (x.Bound k) ≡ 0
unfolding up
up-Bound k = refl

pub down-Bound : (k : ℕ) → down (x.Bound k) ≡ 0
unfolding up
down-Bound k = refl

pub up-Read : (place : Designator) → up (x.Read place) ≡ 0
unfolding up
up-Read place = refl

pub down-Read : (place : Designator) → down (x.Read place) ≡ 0
unfolding up
down-Read place = refl

pub up-IsUndefined : (place : Designator) → up (x.IsUndefined place) ≡ 0
unfolding up
up-IsUndefined place = refl

pub down-IsUndefined : (place : Designator) → down (x.IsUndefined place) ≡ 0
unfolding up
down-IsUndefined place = refl

pub up-Call : (k : ℕ) (args : Arguments) (at : Span) → up (x.Call k args at) ≡ 0
unfolding up
up-Call k args at = refl

pub down-Call : (k : ℕ) (args : Arguments) (at : Span) → down (x.Call k args at) ≡ 0
unfolding up
down-Call k args at = refl

pub up-Minus : (body : Expr) → up (x.Minus body) ≡ 0
unfolding up shape-the_row-Expr-2 hidden-the_row-Expr-2 hidden
up-Minus body = refl

pub down-Minus : (body : Expr) → down (x.Minus body) ≡ 0
unfolding up shape-the_row-Expr-2 hidden-the_row-Expr-2 hidden
down-Minus body = refl

pub up-Compare : (op : CompareOp) (left right : Expr) → up (x.Compare op left right) ≡ 0
unfolding up shape-the_row-Expr-2 hidden-the_row-Expr-2 hidden
up-Compare op left right = refl

pub down-Compare : (op : CompareOp) (left right : Expr) → down (x.Compare op left right) ≡ 0
unfolding up shape-the_row-Expr-2 hidden-the_row-Expr-2 hidden
down-Compare op left right = refl

pub ruleset moved = (up-Chain, down-Chain, up-Implies, down-Implies, up-Not, down-Not, up-Choice, down-Choice, up-Quantified, down-Quantified, up-Known, down-Known, up-Bound, down-Bound, up-Read, down-Read, up-IsUndefined, down-IsUndefined, up-Call, down-Call, up-Minus, down-Minus, up-Compare, down-Compare, the_lemmas)

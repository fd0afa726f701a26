-- The value of each form of typed expression, where it is a constant, in terms of the parts that code reads.
use Rattle.std.proofs.Common.{◌≡◌, ℕ, Bool, List, [], ◌∷◌, Option, None, Some, refl, ap, ◌∙◌}
use denote.Hole.Carrier.{hidden}
use Rattle.term_core.specs.declared.value.Value.{Value}
use Rattle.term_core.specs.declared.value.Value.TheVariants as value
use Rattle.murphi_ast.specs.declared.token.Span.{Span}
use Rattle.murphi_ast.specs.declared.expr.CompareOp.{CompareOp}
use Rattle.murphi_typed.specs.declared.types.Simple.{Simple}
use Rattle.murphi_typed.specs.declared.expr.Expr as x
use Rattle.murphi_typed.specs.declared.expr.Expr.{Expr, Row_of-Link, end_of-Link, more_of-Link, items-the_row-Link, items_hidden-the_row-Link-3, the_lemmas}
use Rattle.murphi_typed.specs.declared.expr.Argument.TheBlock.{shape-the_row-Expr-2, hidden-the_row-Expr-2, hidden-the_row-Link-3}
use Rattle.murphi_typed.specs.declared.expr.Link.{Link}
use Rattle.murphi_typed.specs.declared.expr.Designator.{Designator}
use Rattle.murphi_typed.specs.declared.expr.Arguments.{Arguments}
use Rattle.type_parts.specs.Folding.{folded, folded_row, folded_links, joined_both, denied, negated, compared_both, implied, picked}

pub folded-Known : (v : Value) → folded (x.Known v) ≡ Some v
unfolding folded
folded-Known v = refl

pub folded-Not : (b : Expr) → folded (x.Not b) ≡ denied (folded b)
unfolding folded shape-the_row-Expr-2 hidden-the_row-Expr-2 hidden
folded-Not b = refl

pub folded-Minus : (b : Expr) → folded (x.Minus b) ≡ negated (folded b)
unfolding folded shape-the_row-Expr-2 hidden-the_row-Expr-2 hidden
folded-Minus b = refl

row_folded_is : {n : _} (left : Option Value) (row : Row_of-Link n) → folded_row left row ≡ folded_links left (items-the_row-Link n row)
unfolding folded
row_folded_is left end_of-Link = refl
row_folded_is left (more_of-Link op operand rest) = row_folded_is (joined_both op left (folded operand)) rest

pub folded-Chain : (a : Expr) (ls : List Link) → folded (x.Chain a ls) ≡ folded_links (folded a) ls
unfolding folded shape-the_row-Expr-2 hidden-the_row-Expr-2 hidden
folded-Chain a ls = row_folded_is (folded a) (hidden-the_row-Link-3 ls) ∙ ap (folded_links (folded a)) (items_hidden-the_row-Link-3 ls)

pub folded-Compare : (op : CompareOp) (a b : Expr) → folded (x.Compare op a b) ≡ compared_both op (folded a) (folded b)
unfolding folded shape-the_row-Expr-2 hidden-the_row-Expr-2 hidden
folded-Compare op a b = refl

pub folded-Implies : (a b : Expr) → folded (x.Implies a b) ≡ implied (folded a) (folded b)
unfolding folded shape-the_row-Expr-2 hidden-the_row-Expr-2 hidden
folded-Implies a b = refl

pub folded-Choice : (a b c : Expr) → folded (x.Choice a b c) ≡ picked (folded a) (folded b) (folded c)
unfolding folded shape-the_row-Expr-2 hidden-the_row-Expr-2 hidden
folded-Choice a b c = refl

pub folded-Bound : (k : ℕ) → folded (x.Bound k) ≡ None
unfolding folded
folded-Bound k = refl

pub folded-Read : (d : Designator) → folded (x.Read d) ≡ None
unfolding folded
folded-Read d = refl

pub folded-Call : (k : ℕ) (args : Arguments) (at : Span) → folded (x.Call k args at) ≡ None
unfolding folded
folded-Call k args at = refl

pub folded-Quantified : (all : Bool) (over : Simple) (b : Expr) → folded (x.Quantified all over b) ≡ None
unfolding folded shape-the_row-Expr-2 hidden-the_row-Expr-2 hidden
folded-Quantified all over b = refl

pub folded-IsUndefined : (d : Designator) → folded (x.IsUndefined d) ≡ None
unfolding folded
folded-IsUndefined d = refl

pub ruleset folds = (folded-Known, folded-Not, folded-Minus, folded-Chain, folded-Compare, folded-Implies, folded-Choice, folded-Bound, folded-Read, folded-Call, folded-Quantified, folded-IsUndefined, the_lemmas)

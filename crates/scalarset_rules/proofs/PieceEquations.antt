-- What each form of expression reads and calls, in terms of the parts that code reads.
use Rattle.std.proofs.Common.{◌≡◌, ℕ, Bool, false, List, [], ◌∷◌, ◌++◌, refl, ap, ◌∙◌, append_assoc, append-nil}
use denote.Hole.Carrier.{hidden}
use Rattle.term_core.specs.declared.value.Value.{Value}
use Rattle.murphi_ast.specs.declared.token.Span.{Span}
use Rattle.murphi_ast.specs.declared.expr.CompareOp.{CompareOp}
use Rattle.murphi_typed.specs.declared.types.Simple.{Simple}
use Rattle.murphi_typed.specs.declared.expr.Link.{Link}
use Rattle.murphi_typed.specs.declared.expr.Designator as d
use Rattle.murphi_typed.specs.declared.expr.Designator.{Designator, Row_of-Selector, end_of-Selector, more_of-Selector, items-the_row-Selector}
use Rattle.murphi_typed.specs.declared.expr.Selector as select
use Rattle.murphi_typed.specs.declared.expr.Arguments as a
use Rattle.murphi_typed.specs.declared.expr.Arguments.{Arguments, Row_of-Argument, end_of-Argument, more_of-Argument, items-the_row-Argument}
use Rattle.murphi_typed.specs.declared.expr.Argument as argument
use Rattle.murphi_typed.specs.declared.expr.Expr as x
use Rattle.murphi_typed.specs.declared.expr.Expr.{Expr, Row_of-Link, end_of-Link, more_of-Link, items-the_row-Link, items_hidden-the_row-Link-3, the_lemmas}
use Rattle.murphi_typed.specs.declared.expr.Argument.TheBlock.{shape-the_row-Expr-2, hidden-the_row-Expr-2, hidden-the_row-Link-3}
use Rattle.scalarset_rules.specs.Accesses.{Scope, binding, accessed, stands_of}
use Rattle.scalarset_rules.specs.Pieces.{Touch, Enter, read_pieces, chain_pieces, index_pieces, row_pieces, argument_pieces, row_argument_pieces, one_argument_pieces, list_chain, list_indices, list_arguments, selectors_of, arguments_in}
use Rattle.scalarset_rules.proofs.PlaceEquations.{mapped_joined}

pub nothing_after : {A : Type 0} (xs : List A) → xs ++ [] ≡ xs
nothing_after xs = append-nil xs

pub after_after : {A : Type 0} (xs ys zs : List A) → (xs ++ ys) ++ zs ≡ xs ++ (ys ++ zs)
after_after xs ys zs = append_assoc xs ys zs

row_chain : {n : _} (scope : Scope) (row : Row_of-Link n) → chain_pieces scope row ≡ list_chain scope (items-the_row-Link n row)
unfolding read_pieces
row_chain scope end_of-Link = refl
row_chain scope (more_of-Link op operand rest) = ap (λ ps. read_pieces scope operand ++ ps) (row_chain scope rest)

row_indices : {n : _} (scope : Scope) (row : Row_of-Selector n) → row_pieces scope row ≡ list_indices scope (items-the_row-Selector n row)
unfolding read_pieces
row_indices scope end_of-Selector = refl
row_indices scope (more_of-Selector (select.Field name) rest) = row_indices scope rest
row_indices scope (more_of-Selector (select.Index over index) rest) = ap (λ ps. read_pieces scope index ++ ps) (row_indices scope rest)

row_arguments : {n : _} (scope : Scope) (row : Row_of-Argument n) → row_argument_pieces scope row ≡ list_arguments scope (items-the_row-Argument n row)
unfolding read_pieces
row_arguments scope end_of-Argument = refl
row_arguments scope (more_of-Argument first rest) = ap (λ ps. one_argument_pieces scope first ++ ps) (row_arguments scope rest)

pub index-Of : (scope : Scope) (place : Designator) → index_pieces scope place ≡ list_indices scope (selectors_of place)
unfolding read_pieces
index-Of scope (d.Of' r _ row at) = row_indices scope row

pub argument-Of : (scope : Scope) (args : Arguments) → argument_pieces scope args ≡ list_arguments scope (arguments_in args)
unfolding read_pieces
argument-Of scope (a.Of' _ row) = row_arguments scope row

pub read-Known : (scope : Scope) (v : Value) → read_pieces scope (x.Known v) ≡ []
unfolding read_pieces
read-Known scope v = refl

pub read-Bound : (scope : Scope) (k : ℕ) → read_pieces scope (x.Bound k) ≡ []
unfolding read_pieces
read-Bound scope k = refl

pub read-Read : (scope : Scope) (place : Designator) → read_pieces scope (x.Read place) ≡ Touch (accessed false scope place) ∷ [] ++ index_pieces scope place
unfolding read_pieces
read-Read scope place = refl

pub read-IsUndefined : (scope : Scope) (place : Designator) → read_pieces scope (x.IsUndefined place) ≡ Touch (accessed false scope place) ∷ [] ++ index_pieces scope place
unfolding read_pieces
read-IsUndefined scope place = refl

pub read-Call : (scope : Scope) (k : ℕ) (args : Arguments) (at : Span) → read_pieces scope (x.Call k args at) ≡ argument_pieces scope args ++ Enter k (stands_of scope args) at ∷ []
unfolding read_pieces
read-Call scope k args at = refl

pub read-Not : (scope : Scope) (b : Expr) → read_pieces scope (x.Not b) ≡ read_pieces scope b
unfolding read_pieces shape-the_row-Expr-2 hidden-the_row-Expr-2 hidden
read-Not scope b = refl

pub read-Minus : (scope : Scope) (b : Expr) → read_pieces scope (x.Minus b) ≡ read_pieces scope b
unfolding read_pieces shape-the_row-Expr-2 hidden-the_row-Expr-2 hidden
read-Minus scope b = refl

pub read-Chain : (scope : Scope) (first : Expr) (rest : List Link) → read_pieces scope (x.Chain first rest) ≡ read_pieces scope first ++ list_chain scope rest
unfolding read_pieces shape-the_row-Expr-2 hidden-the_row-Expr-2 hidden
read-Chain scope first rest = ap (λ ps. read_pieces scope first ++ ps) (row_chain scope (hidden-the_row-Link-3 rest) ∙ ap (list_chain scope) (items_hidden-the_row-Link-3 rest))

pub read-Compare : (scope : Scope) (op : CompareOp) (l r : Expr) → read_pieces scope (x.Compare op l r) ≡ read_pieces scope l ++ read_pieces scope r
unfolding read_pieces shape-the_row-Expr-2 hidden-the_row-Expr-2 hidden
read-Compare scope op l r = refl

pub read-Implies : (scope : Scope) (l r : Expr) → read_pieces scope (x.Implies l r) ≡ read_pieces scope l ++ read_pieces scope r
unfolding read_pieces shape-the_row-Expr-2 hidden-the_row-Expr-2 hidden
read-Implies scope l r = refl

pub read-Choice : (scope : Scope) (t l r : Expr) → read_pieces scope (x.Choice t l r) ≡ read_pieces scope t ++ (read_pieces scope l ++ read_pieces scope r)
unfolding read_pieces shape-the_row-Expr-2 hidden-the_row-Expr-2 hidden
read-Choice scope t l r = refl

pub read-Quantified : (scope : Scope) (all : Bool) (over : Simple) (b : Expr) → read_pieces scope (x.Quantified all over b) ≡ read_pieces (binding scope) b
unfolding read_pieces shape-the_row-Expr-2 hidden-the_row-Expr-2 hidden
read-Quantified scope all over b = refl

pub one-Copy : (scope : Scope) (place : Designator) → one_argument_pieces scope (argument.Copy place) ≡ Touch (accessed false scope place) ∷ [] ++ index_pieces scope place
unfolding read_pieces
one-Copy scope place = refl

pub one-CopyAll : (scope : Scope) (place : Designator) → one_argument_pieces scope (argument.CopyAll place) ≡ Touch (accessed false scope place) ∷ [] ++ index_pieces scope place
unfolding read_pieces
one-CopyAll scope place = refl

pub one-Value : (scope : Scope) (e : Expr) → one_argument_pieces scope (argument.Value e) ≡ read_pieces scope e
unfolding read_pieces
one-Value scope e = refl

pub one-Place : (scope : Scope) (place : Designator) → one_argument_pieces scope (argument.Place place) ≡ index_pieces scope place
unfolding read_pieces
one-Place scope place = refl

pub ruleset pieces = (mapped_joined, nothing_after, after_after, index-Of, argument-Of, read-Known, read-Bound, read-Read, read-IsUndefined, read-Call, read-Not, read-Minus, read-Chain, read-Compare, read-Implies, read-Choice, read-Quantified, one-Copy, one-CopyAll, one-Value, one-Place, the_lemmas)

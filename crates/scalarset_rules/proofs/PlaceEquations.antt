-- Designators, indices and arguments, in terms of the parts that code reads.
use Rattle.std.proofs.Common.{◌≡◌, ℕ, zero, suc, Bool, List, [], ◌∷◌, ◌++◌, map, Option, None, refl, ap}
use Rattle.std.specs.Prelude.{slice_get, option_map}
use denote.Hole.Carrier.{hidden}
use Rattle.murphi_typed.specs.declared.types.Simple.{Simple}
use Rattle.murphi_ast.specs.declared.expr.CompareOp.{CompareOp}
use Rattle.murphi_typed.specs.declared.expr.Link.{Link}
use Rattle.murphi_typed.specs.declared.expr.Expr as x
use Rattle.murphi_typed.specs.declared.expr.Expr.{Expr}
use Rattle.murphi_typed.specs.Execution.{at_of}
use Rattle.murphi_typed.specs.WellTyped.{root_of}
use Rattle.murphi_typed.specs.declared.expr.Designator as d
use Rattle.murphi_typed.specs.declared.expr.Designator.{Designator, Row_of-Selector, end_of-Selector, more_of-Selector, items-the_row-Selector}
use Rattle.murphi_typed.specs.declared.expr.Selector as select
use Rattle.murphi_typed.specs.declared.expr.Arguments as a
use Rattle.murphi_typed.specs.declared.expr.Arguments.{Arguments, Row_of-Argument, end_of-Argument, more_of-Argument, items-the_row-Argument}
use Rattle.murphi_typed.specs.declared.expr.Argument.TheBlock.{hidden-the_row-Expr-2, shape-the_row-Expr-2}
use Rattle.scalarset_rules.specs.Accesses.{Binder, accessed, Field, Index, Scope, mark, root_mark, unselected, place_mark, root_shape, row_parts, under, shape_of, argument_stand, row_stands, stands_of}
use Rattle.scalarset_rules.specs.Pieces.{selectors_of, arguments_in, list_parts, list_stands, lone}

pub got_mapped : {A B : Type 0} (f : A → B) (xs : List A) (k : ℕ) → slice_get (map f xs) k ≡ option_map f (slice_get xs k)
got_mapped f [] k = refl
got_mapped f (x ∷ xs) zero = refl
got_mapped f (x ∷ xs) (suc k) = got_mapped f xs k

pub mapped_joined : {A B : Type 0} (f : A → B) (xs ys : List A) → map f (xs ++ ys) ≡ map f xs ++ map f ys
mapped_joined f [] ys = refl
mapped_joined f (x ∷ xs) ys = ap (λ zs. f x ∷ zs) (mapped_joined f xs ys)

row_parts_are : {n : _} (scope : Scope) (row : Row_of-Selector n) → row_parts scope row ≡ list_parts scope (items-the_row-Selector n row)
row_parts_are scope end_of-Selector = refl
row_parts_are scope (more_of-Selector (select.Field name) rest) = ap (λ ps. Field name ∷ ps) (row_parts_are scope rest)
row_parts_are scope (more_of-Selector (select.Index over index) rest) = ap (λ ps. Index (mark scope index) ∷ ps) (row_parts_are scope rest)

pub shape-Of : (scope : Scope) (place : Designator) → shape_of scope place ≡ under (root_shape scope (root_of place)) (list_parts scope (selectors_of place))
shape-Of scope (d.Of' r _ row at) = ap (under (root_shape scope r)) (row_parts_are scope row)

lone_row : {n : _} (row : Row_of-Selector n) (m : Option Binder) → unselected row m ≡ lone (slice_get (items-the_row-Selector n row) 0) m
lone_row end_of-Selector m = refl
lone_row (more_of-Selector selector rest) m = refl

pub mark-Of : (scope : Scope) (place : Designator) → place_mark scope place ≡ lone (slice_get (selectors_of place) 0) (root_mark scope (root_of place))
mark-Of scope (d.Of' r _ row at) = lone_row row (root_mark scope r)

pub mark-Not : (scope : Scope) (b : Expr) → mark scope (x.Not b) ≡ None
unfolding shape-the_row-Expr-2 hidden-the_row-Expr-2 hidden
mark-Not scope b = refl

pub mark-Minus : (scope : Scope) (b : Expr) → mark scope (x.Minus b) ≡ None
unfolding shape-the_row-Expr-2 hidden-the_row-Expr-2 hidden
mark-Minus scope b = refl

pub mark-Chain : (scope : Scope) (first : Expr) (rest : List Link) → mark scope (x.Chain first rest) ≡ None
unfolding shape-the_row-Expr-2 hidden-the_row-Expr-2 hidden
mark-Chain scope first rest = refl

pub mark-Compare : (scope : Scope) (op : CompareOp) (l r : Expr) → mark scope (x.Compare op l r) ≡ None
unfolding shape-the_row-Expr-2 hidden-the_row-Expr-2 hidden
mark-Compare scope op l r = refl

pub mark-Implies : (scope : Scope) (l r : Expr) → mark scope (x.Implies l r) ≡ None
unfolding shape-the_row-Expr-2 hidden-the_row-Expr-2 hidden
mark-Implies scope l r = refl

pub mark-Choice : (scope : Scope) (t l r : Expr) → mark scope (x.Choice t l r) ≡ None
unfolding shape-the_row-Expr-2 hidden-the_row-Expr-2 hidden
mark-Choice scope t l r = refl

pub mark-Quantified : (scope : Scope) (all : Bool) (over : Simple) (b : Expr) → mark scope (x.Quantified all over b) ≡ None
unfolding shape-the_row-Expr-2 hidden-the_row-Expr-2 hidden
mark-Quantified scope all over b = refl

row_stands_are : {n : _} (scope : Scope) (row : Row_of-Argument n) → row_stands scope row ≡ list_stands scope (items-the_row-Argument n row)
row_stands_are scope end_of-Argument = refl
row_stands_are scope (more_of-Argument first rest) = ap (λ ss. argument_stand scope first ∷ ss) (row_stands_are scope rest)

pub stands-Of : (scope : Scope) (args : Arguments) → stands_of scope args ≡ list_stands scope (arguments_in args)
stands-Of scope (a.Of' _ row) = row_stands_are scope row

pub accessed-Is : (write : Bool) (scope : Scope) (place : Designator) → accessed write scope place ≡ record { write = write; shape = shape_of scope place; at = at_of place; by = None }
accessed-Is write scope (d.Of' r sh selectors at) = refl

parts_joined : (scope : Scope) (xs ys : List select.Selector) → list_parts scope (xs ++ ys) ≡ list_parts scope xs ++ list_parts scope ys
parts_joined scope [] ys = refl
parts_joined scope (select.Field name ∷ xs) ys = ap (λ ps. Field name ∷ ps) (parts_joined scope xs ys)
parts_joined scope (select.Index over index ∷ xs) ys = ap (λ ps. Index (mark scope index) ∷ ps) (parts_joined scope xs ys)

pub ruleset places = (got_mapped, mapped_joined, shape-Of, mark-Of, mark-Not, mark-Minus, mark-Chain, mark-Compare, mark-Implies, mark-Choice, mark-Quantified, stands-Of, accessed-Is)

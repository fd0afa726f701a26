-- Constants have numbers in range.
use Rattle.std.proofs.Common.{◌≡◌, Bool, true, false, not, ◌&&◌, Option, None, Some, refl, sym, ap, ◌∙◌}
use Rattle.std.specs.Prelude.{ℤ, pos, is_some, if◌then◌else◌}
use Rattle.std.proofs.lemmas.Bool.{and_parts}
use Rattle.term_core.specs.declared.value.Value.{Value}
use Rattle.term_core.specs.declared.value.Value.TheVariants as value
use Rattle.term_core.specs.declared.value.ArithOp.{ArithOp}
use Rattle.term_core.specs.declared.value.ArithOp.TheVariants as arith
use Rattle.term_core.specs.Values.{truth, number, is_number}
use Rattle.murphi_ast.specs.declared.token.Span.{Span}
use Rattle.murphi_ast.specs.declared.expr.ChainOp.{ChainOp}
use Rattle.murphi_ast.specs.declared.expr.ChainOp.TheVariants as op
use Rattle.murphi_ast.specs.declared.expr.CompareOp.TheVariants as compare
use Rattle.murphi_typed.specs.declared.types.Simple.{Simple}
use Rattle.murphi_typed.specs.declared.types.Simple.TheVariants as simple
use Rattle.murphi_typed.specs.declared.expr.Expr as x
use Rattle.murphi_typed.specs.declared.expr.Expr.{Expr, end_of-Expr, more_of-Expr, Row_of-Link, end_of-Link, more_of-Link}
use Rattle.murphi_typed.specs.declared.expr.Designator.{Designator}
use Rattle.murphi_typed.specs.Forms.{NotForm, MinusForm, CompareForm, ImpliesForm, ChoiceForm, QuantifiedForm}
use Rattle.murphi_typed.specs.Store.{Place, blank, cell_at}
use Rattle.murphi_typed.specs.Outcome.{Outcome, Got, Fault, given, or_fault}
use Rattle.murphi_typed.specs.Expressions.{as_truth, result_of, in_range, calculated, joined, defined, value_of, chain_value, place_of, arguments_of}
use Rattle.murphi_typed.specs.WellTyped.{Scope, numbers, is_of, only_if, comparable, type_of, chain_type}
use Rattle.murphi_types.specs.Constants.{no_calls, no_scene, number_in, constant_number}

-- a number that was got is in range
abbrev IsFine : Outcome Value → Type 0
IsFine (Got (value.Number z)) = is_number z ≡ true
IsFine (Got value.Undefined) = Unit {0}
IsFine (Got (value.Truth b)) = Unit {0}
IsFine (Got (value.Member kind index)) = Unit {0}
IsFine (Got (value.Node n)) = Unit {0}
IsFine (Fault at) = Unit {0}

ranged : (at : Span) (z : ℤ) → IsFine (in_range at z)
ranged at z = go (is_number z) refl
  where
    go : (b : Bool) → is_number z ≡ b → IsFine (if b then Got (value.Number z) else Fault at)
    go true e = e
    go false e = tt

after-result : (at : Span) (o : Option ℤ) → IsFine (given (or_fault at o) (in_range at))
after-result at None = tt
after-result at (Some z) = ranged at z

calculated-fine : (at : Span) (o : ArithOp) (a b : Value) → IsFine (calculated at o a b)
calculated-fine at o a b = after-result at (result_of o (number a) (number b))

-- what only gives truth values is fine
given-truth : {A : Type 0} (f : A → Bool) (o : Outcome A) → IsFine (given o (λ v. Got (value.Truth (f v))))
given-truth f (Got v) = tt
given-truth f (Fault at) = tt

given-fine : {A : Type 0} (o : Outcome A) (f : A → Outcome Value) → ((v : A) → IsFine (f v)) → IsFine (given o f)
given-fine (Got v) f h = h v
given-fine (Fault at) f h = tt

joined-fine : (at : Span) (o : ChainOp) (left : Value) (right : Outcome Value) → IsFine (joined at o left right)
joined-fine at op.Or left right = go (truth left)
  where
    go : (b : Bool) → IsFine (if b then Got (value.Truth true) else given right (λ v. Got (as_truth v)))
    go true = tt
    go false = given-truth truth right
joined-fine at op.And left right = go (truth left)
  where
    go : (b : Bool) → IsFine (if b then given right (λ v. Got (as_truth v)) else Got (value.Truth false))
    go true = given-truth truth right
    go false = tt
joined-fine at op.Add left right = given-fine right _ (λ v. calculated-fine at arith.Add left v)
joined-fine at op.Subtract left right = given-fine right _ (λ v. calculated-fine at arith.Subtract left v)
joined-fine at op.Times left right = given-fine right _ (λ v. calculated-fine at arith.Times left v)
joined-fine at op.Divide left right = given-fine right _ (λ v. calculated-fine at arith.Divide left v)
joined-fine at op.Modulo left right = given-fine right _ (λ v. calculated-fine at arith.Modulo left v)

-- a step of a chain that gives a fine value, and then the rest
chained : (o : Outcome Value) (f : Value → Outcome Value) → IsFine o → ((v : Value) → IsFine (Got v) → IsFine (f v)) → IsFine (given o f)
chained (Got v) f h g = g v h
chained (Fault at) f h g = tt

chain-fine : {n : _} (at : Span) (left : Value) (row : Row_of-Link n) → IsFine (Got left) → IsFine (chain_value no_calls no_scene at blank left row)
unfolding value_of
chain-fine at left end_of-Link h = h
chain-fine at left (more_of-Link o operand rest) h =
    chained (joined at o left (value_of no_calls no_scene at blank operand)) (λ v. chain_value no_calls no_scene at blank v rest)
    (joined-fine at o left (value_of no_calls no_scene at blank operand)) (λ v g. chain-fine at v rest g)

-- a chain has a type where its first operand has one
nothing-of : {n : _} (W : Scope) (row : Row_of-Link n) → chain_type W None row ≡ None
unfolding type_of
nothing-of W end_of-Link = refl
nothing-of W (more_of-Link o operand rest) = nothing-of W rest

first-typed : {n : _} (W : Scope) (o : Option Simple) (row : Row_of-Link n) (u : Simple) → chain_type W o row ≡ Some u → is_some o ≡ true
first-typed W None row u e = let n = nothing-of W row in cc
first-typed W (Some v) row u e = refl

pub some-of : {A : Type 0} (o : Option A) → is_some o ≡ true → (v : A) × (o ≡ Some v)
some-of None e = cc
some-of (Some v) e = (v, refl)

left-typed : (a b : Option Simple) → comparable compare.Equal a b ≡ true → is_some b ≡ true
left-typed None b e = cc
left-typed (Some u) None e = cc
left-typed (Some u) (Some v) e = refl

pub only-some : {A : Type 0} (b : Bool) (o : Option A) (u : A) → only_if b o ≡ Some u → (b ≡ true) × (o ≡ Some u)
only-some true o u e = (refl, e)
only-some false o u e = cc

if-fine : (b : Bool) (o p : Outcome Value) → IsFine o → IsFine p → IsFine (if b then o else p)
if-fine true o p g h = g
if-fine false o p g h = h

known-fine : (W : Scope) (v : Value) (u : Simple) → type_of W (x.Known v) ≡ Some u → IsFine (Got v)
unfolding type_of
known-fine W (value.Number z) u e = (only-some (is_number z) (Some numbers) u e).0
known-fine W value.Undefined u e = tt
known-fine W (value.Truth b) u e = tt
known-fine W (value.Member kind index) u e = tt
known-fine W (value.Node n) u e = tt

read-fine : (at : Span) (o : Outcome Place) → IsFine (given o (λ p. defined at (cell_at blank p)))
read-fine at (Got p) = tt
read-fine at (Fault other) = tt

value-fine : (W : Scope) (at : Span) (e : Expr) (u : Simple) → type_of W e ≡ Some u → IsFine (value_of no_calls no_scene at blank e)
unfolding value_of type_of
value-fine W at (x.Known v) u e = known-fine W v u e
value-fine W at (x.Bound k) u e = tt
value-fine W at (x.Read place) u e = read-fine at (place_of no_calls no_scene at blank place)
value-fine W at (x.Call k args from) u e = given-fine (arguments_of no_calls no_scene at blank args) _ (λ gs. tt)
value-fine W at (NotForm body) u e = given-truth (λ v. not (truth v)) (value_of no_calls no_scene at blank body)
value-fine W at (MinusForm body) u e = given-fine (value_of no_calls no_scene at blank body) _ (λ v. calculated-fine at arith.Subtract (value.Number (pos 0)) v)
value-fine W at (x.Chain' shape (more_of-Expr first end_of-Expr) other rest) u e =
    let (v, is) = some-of (type_of W first) (first-typed W (type_of W first) rest u e) in
    chained (value_of no_calls no_scene at blank first) (λ v. chain_value no_calls no_scene at blank v rest) (value-fine W at first v is) (λ v g. chain-fine at v rest g)
value-fine W at (CompareForm o left right) u e = given-fine (value_of no_calls no_scene at blank left) _ (λ v. given-truth _ (value_of no_calls no_scene at blank right))
value-fine W at (ImpliesForm left right) u e =
    given-fine (value_of no_calls no_scene at blank left) _ (λ v. if-fine (truth v) _ _ (given-truth truth (value_of no_calls no_scene at blank right)) tt)
value-fine W at (ChoiceForm test a b) u e =
    let (both, first) = only-some (is_of simple.Truth (type_of W test) && comparable compare.Equal (type_of W a) (type_of W b)) (type_of W a) u e in
    let (truths, alike) = and_parts (is_of simple.Truth (type_of W test)) (comparable compare.Equal (type_of W a) (type_of W b)) both in
    let (w, second) = some-of (type_of W b) (left-typed (type_of W a) (type_of W b) alike) in
    given-fine (value_of no_calls no_scene at blank test) _ (λ v. if-fine (truth v) _ _ (value-fine W at a u first) (value-fine W at b w second))
value-fine W at (QuantifiedForm all over body) u e = given-truth (λ b. b) _
value-fine W at (x.IsUndefined place) u e = given-truth _ (place_of no_calls no_scene at blank place)

got-number : (o : Outcome Value) (z : ℤ) → number_in o ≡ Some z → IsFine o → is_number z ≡ true
got-number (Got (value.Number y)) z e h = let same : y ≡ z = cc in sym (ap is_number same) ∙ h
got-number (Got value.Undefined) z e h = cc
got-number (Got (value.Truth b)) z e h = cc
got-number (Got (value.Member kind index)) z e h = cc
got-number (Got (value.Node n)) z e h = cc
got-number (Fault at) z e h = cc

-- the number of a well-typed constant is one
pub constant-fine : (W : Scope) (at : Span) (e : Expr) (u : Simple) (z : ℤ) → type_of W e ≡ Some u → constant_number at e ≡ Some z → is_number z ≡ true
constant-fine W at e u z typed is = got-number (value_of no_calls no_scene at blank e) z is (value-fine W at e u typed)

-- a cell has none
pub read-none : (at : Span) (place : Designator) (z : ℤ) → constant_number at (x.Read place) ≡ Some z → is_number z ≡ true
unfolding value_of
read-none at place z is = got-number (given (place_of no_calls no_scene at blank place) (λ p. defined at (cell_at blank p))) z is (read-fine at (place_of no_calls no_scene at blank place))

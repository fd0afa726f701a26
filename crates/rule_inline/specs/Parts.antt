-- Expressions, designators and arguments as terms, with what they demand. What routines do with the terms is
-- given: a call is looked up there.
use Rattle.std.specs.Prelude.{ℕ, suc, Bool, true, false, List, [], ◌∷◌, ◌++◌, map, pos, negsuc, Option, None, Some, if◌then◌else◌, slice_get, unwrap_or}
use Rattle.term_core.specs.declared.value.Value.{Value}
use Rattle.term_core.specs.declared.value.Value.TheVariants as value
use Rattle.term_core.specs.declared.value.ArithOp.{ArithOp}
use Rattle.term_core.specs.declared.value.ArithOp.TheVariants as arith
use Rattle.term_core.specs.declared.term.Term as t
use Rattle.term_core.specs.declared.term.Term.{Term}
use Rattle.murphi_ast.specs.declared.expr.ChainOp.{ChainOp}
use Rattle.murphi_ast.specs.declared.expr.ChainOp.TheVariants as op
use Rattle.murphi_ast.specs.declared.expr.CompareOp.{CompareOp}
use Rattle.murphi_ast.specs.declared.expr.CompareOp.TheVariants as compare
use Rattle.murphi_typed.specs.declared.types.Simple.{Simple}
use Rattle.murphi_typed.specs.declared.types.Simple.TheVariants as simple
use Rattle.murphi_typed.specs.declared.expr.Root.{Root}
use Rattle.murphi_typed.specs.declared.expr.Root.TheVariants as root
use Rattle.murphi_typed.specs.declared.expr.Expr as x
use Rattle.murphi_typed.specs.declared.expr.Expr.{Expr, end_of-Expr, more_of-Expr, Row_of-Link, end_of-Link, more_of-Link}
use Rattle.murphi_typed.specs.declared.expr.Designator as d
use Rattle.murphi_typed.specs.declared.expr.Designator.{Designator, Row_of-Selector, end_of-Selector, more_of-Selector}
use Rattle.murphi_typed.specs.declared.expr.Selector as select
use Rattle.murphi_typed.specs.declared.expr.Arguments as a
use Rattle.murphi_typed.specs.declared.expr.Arguments.{Arguments, Row_of-Argument, end_of-Argument, more_of-Argument}
use Rattle.murphi_typed.specs.declared.expr.Argument as argument
use Rattle.murphi_typed.specs.Forms.{NotForm, MinusForm, CompareForm, ImpliesForm, ChoiceForm, QuantifiedForm}
use Rattle.murphi_typed.specs.Values.{values}
use Rattle.murphi_typed.specs.Store.{Global, Local, Formal}
use Rattle.murphi_typed.specs.Expressions.{row_path}
use Rattle.murphi_typed.specs.Prefix.{is_over_nodes}
use Rattle.rule_inline.specs.Demands.{Demand, demand, truth_term, under_test, binding}
use Rattle.rule_inline.specs.Tables.{Leaving, Result, Terms, Change, under_variable, Index, Axis, Among, Spot, lifted_spot, Shown, shown_at, read_of, only_term}

-- what a call gives to a formal: to a formal by value the terms that its cells are to have, with the bound
-- variable that it is itself, if it is one, and whether it is a plain designator; to a `var` formal a place
pub data Given : Type 0 where
  Filled : Option ℕ → Bool → Shown → Given
  Standing : Spot → Given

-- the body that is taken: how many variables are bound, its depth in calls, its result type where it is that of a
-- function, the terms of its parameters and bound variables from the outermost, and what its formals were given
pub record Site : Type 0 where
  pub frame : ℕ
  pub depth : ℕ
  pub result : Option Simple
  pub bound : List Term
  pub formals : List Given

-- what a formal by value holds stands in the terms of its cells
abbrev pub lifted_given : ℕ → Given → Given
lifted_given frame (Filled mark plain shown) = Filled mark plain shown
lifted_given frame (Standing spot) = Standing (lifted_spot frame spot)

-- inside a quantifier or a `for` over another type, for one of its values
abbrev pub with_value : Site → Value → Site
with_value site v = record site { bound = site.bound ++ t.Known v ∷ [] }

-- inside a quantifier or a `for` over all nodes
abbrev pub with_variable : Site → Site
with_variable site =
    record site {
      frame = suc site.frame;
      bound = site.bound ++ t.Var site.frame ∷ [];
      formals = map
          (lifted_given site.frame) site.formals;
    }

-- the term of an expression, the place of a designator, what arguments give, and what a body does, each with
-- what it demands
pub record Valued : Type 0 where
  pub term : Term
  pub demands : List Demand

pub record Placed : Type 0 where
  pub spot : Spot
  pub demands : List Demand

pub record Indexed : Type 0 where
  pub indices : List Index
  pub demands : List Demand

pub record Argued : Type 0 where
  pub given : List Given
  pub demands : List Demand

pub record Done : Type 0 where
  pub change : Change
  pub demands : List Demand

-- what a called routine does, by its number: the site of the caller, the terms before it, and what its formals
-- are given
abbrev pub Calls : Type 0
Calls = ℕ → Site → Terms → List Given → Done

-- the values of a type that is not of nodes
abbrev pub fixed_values : Simple → List Value
fixed_values over = values 0 over

abbrev pub undefined : Term
undefined = t.Known value.Undefined

-- Conditions

abbrev pub is_defined : Term → Term
is_defined e = t.Not (t.Same e undefined)

abbrev pub at_most : Term → Term → Term
at_most left right = t.Not (t.Less right left)

-- what a range asks of a number, besides that it is one
abbrev pub bounds : Simple → Term → List Term
bounds (simple.Range low high) e = at_most (t.Known (value.Number low)) e ∷ at_most e (t.Known (value.Number high)) ∷ []
bounds _ e = []

-- an index is defined and in the index type
abbrev pub index_fits : Simple → Term → Term
index_fits over e = t.And (is_defined e ∷ bounds over e)

-- a value is in the range of the place that it is to be stored in; a plain designator may be undefined
abbrev pub range_fits : Bool → Term → List Term → List Demand
range_fits plain e [] = []
range_fits true e (test ∷ tests) = demand (t.Or (t.Same e undefined ∷ t.And (test ∷ tests) ∷ [])) ∷ []
range_fits false e (test ∷ tests) = demand (t.And (test ∷ tests)) ∷ []

abbrev pub stored_fits : Bool → Simple → Term → List Demand
stored_fits plain into e = range_fits plain e (bounds into e)

-- Numbers

abbrev pub whole : ℕ → Term
whole n = t.Known (value.Number (pos n))

abbrev pub lowest : Term
lowest = t.Known (value.Number (negsuc 32767))

abbrev pub highest : Term
highest = whole 32767

abbrev pub minus_one : Term
minus_one = t.Known (value.Number (negsuc 0))

-- a product is in range: each bound is divided by the right part
abbrev pub product_fits : Term → Term → Term
product_fits left right =
    t.If (t.Less (whole 0) right)
    (t.And (at_most left (t.Arith arith.Divide highest right) ∷ at_most (t.Arith arith.Divide lowest right) left ∷ []))
    (t.If (t.Same right (whole 0)) (truth_term true)
    (t.If (t.Same right minus_one) (t.Not (t.Same left lowest))
    (t.And (at_most (t.Arith arith.Divide highest right) left ∷ at_most left (t.Arith arith.Divide lowest right) ∷ []))))

-- what an operation demands of its parts so that its result is a number from -32,768 to 32,767: the parts are
-- compared with bounds that are such numbers themselves
abbrev pub result_fits : ArithOp → Term → Term → List Term
result_fits arith.Add left right =
    t.If (t.Less (whole 0) right) (at_most left (t.Arith arith.Subtract highest right))
    (at_most (t.Arith arith.Subtract lowest right) left) ∷ []
result_fits arith.Subtract left right =
    t.If (t.Less (whole 0) right) (at_most (t.Arith arith.Add lowest right) left)
    (at_most left (t.Arith arith.Add highest right)) ∷ []
result_fits arith.Times left right = product_fits left right ∷ []
result_fits arith.Divide left right =
    t.Not (t.Same right (whole 0)) ∷ t.Not (t.And (t.Same left lowest ∷ t.Same right minus_one ∷ [])) ∷ []
result_fits arith.Modulo left right = t.Not (t.Same right (whole 0)) ∷ []

abbrev pub calculated : ArithOp → Term → Valued → Valued
calculated by left right =
    record {
      term = t.Arith by left right.term;
      demands = right.demands ++ map demand (result_fits by left right.term);
    }

-- Operators

-- one more operand of a chain, after the term of those before it
abbrev pub joined : ℕ → ChainOp → Term → Valued → Valued
joined frame op.Or left right =
    record { term = t.Or (left ∷ right.term ∷ []); demands = under_test frame (t.Not left) right.demands }
joined frame op.And left right =
    record { term = t.And (left ∷ right.term ∷ []); demands = under_test frame left right.demands }
joined frame op.Add left right = calculated arith.Add left right
joined frame op.Subtract left right = calculated arith.Subtract left right
joined frame op.Times left right = calculated arith.Times left right
joined frame op.Divide left right = calculated arith.Divide left right
joined frame op.Modulo left right = calculated arith.Modulo left right

abbrev pub compared : CompareOp → Term → Term → Term
compared compare.Equal left right = t.Same left right
compared compare.NotEqual left right = t.Not (t.Same left right)
compared compare.Less left right = t.Less left right
compared compare.LessEqual left right = t.Not (t.Less right left)
compared compare.Greater left right = t.Less right left
compared compare.GreaterEqual left right = t.Not (t.Less left right)

-- a term after another, with its own demands after the other's
abbrev pub after : List Demand → Valued → Valued
after before e = record e { demands = before ++ e.demands }

abbrev pub negated : Valued → Valued
negated e = record e { term = t.Not e.term }

abbrev pub compared_values : CompareOp → Valued → Valued → Valued
compared_values by left right =
    record { term = compared by left.term right.term; demands = left.demands ++ right.demands }

abbrev pub implied : ℕ → Valued → Valued → Valued
implied frame left right =
    record {
      term = t.Or (t.Not left.term ∷ right.term ∷ []);
      demands = left.demands ++ under_test frame left.term right.demands;
    }

abbrev pub choice : ℕ → Valued → Valued → Valued → Valued
choice frame test then' else' =
    record {
      term = t.If test.term then'.term else'.term;
      demands = test.demands
          ++ (under_test frame test.term then'.demands ++ under_test frame (t.Not test.term) else'.demands);
    }

-- for all nodes, or for one of them
abbrev pub over_nodes : Bool → Valued → Valued
over_nodes all body = record { term = t.Quantified all body.term; demands = binding body.demands }

abbrev pub terms_of : List Valued → List Term
terms_of es = map (λ (e : Valued). e.term) es

abbrev pub demands_of : List Valued → List Demand
demands_of [] = []
demands_of (e ∷ es) = e.demands ++ demands_of es

-- all instances, or one of them
abbrev pub over_values : Bool → List Valued → Valued
over_values true es = record { term = t.And (terms_of es); demands = demands_of es }
over_values false es = record { term = t.Or (terms_of es); demands = demands_of es }

-- Cells

abbrev pub read : Site → Terms → Placed → Valued
read site T p =
    record {
      term = read_of site.frame T p.spot;
      demands = p.demands ++ demand (is_defined (read_of site.frame T p.spot)) ∷ [];
    }

abbrev pub asked_undefined : Site → Terms → Placed → Valued
asked_undefined site T p = record { term = t.Same (read_of site.frame T p.spot) undefined; demands = p.demands }

-- the bound variable that a term is
abbrev pub variable_of : Term → Option ℕ
variable_of (t.Var k) = Some k
variable_of _ = None

-- the bound variable that a formal by value is, as its argument was one
abbrev pub formal_mark : Option Given → Option ℕ
formal_mark (Some (Filled mark plain shown)) = mark
formal_mark _ = None

abbrev pub root_mark : Site → Root → Option ℕ
root_mark site (root.Formal k) = formal_mark (slice_get site.formals k)
root_mark site _ = None

abbrev pub mark_if_whole : {n : _} → Option ℕ → Row_of-Selector n → Option ℕ
mark_if_whole mark end_of-Selector = mark
mark_if_whole mark (more_of-Selector first rest) = None

abbrev pub place_mark : Site → Designator → Option ℕ
place_mark site (d.Of' root _ selectors at) = mark_if_whole (root_mark site root) selectors

abbrev pub bound_term : Site → ℕ → Term
bound_term site k = unwrap_or (slice_get site.bound k) undefined

-- the bound variable that an expression is itself
abbrev pub mark_of : Site → Expr → Option ℕ
mark_of site (x.Bound k) = variable_of (bound_term site k)
mark_of site (x.Read place) = place_mark site place
mark_of site _ = None

abbrev pub whole_spot : Site → Root → Spot
whole_spot site (root.Global k) = record { owner = Global k; path = []; at = [] }
whole_spot site (root.Local k) = record { owner = Local site.depth k; path = []; at = [] }
whole_spot site (root.Formal k) = record { owner = Formal site.depth k; path = []; at = [] }
whole_spot site (root.Place k) = record { owner = Formal site.depth k; path = []; at = [] }

-- what a `var` formal stands for, as it was at the call
abbrev pub stood_for : Spot → Option Given → Spot
stood_for other (Some (Standing spot)) = spot
stood_for other _ = other

abbrev pub root_spot : Site → Root → Spot
root_spot site (root.Place k) = stood_for (whole_spot site (root.Place k)) (slice_get site.formals k)
root_spot site r = whole_spot site r

abbrev pub placed_under : Spot → List (List ℕ) → Indexed → Placed
placed_under spot path e =
    record {
      spot = record { owner = spot.owner; path = spot.path ++ path; at = spot.at ++ e.indices };
      demands = e.demands;
    }

abbrev pub no_indices : Indexed
no_indices = record { indices = []; demands = [] }

abbrev pub index_over : Simple → Option ℕ → Term → Index
index_over over mark e = if is_over_nodes over then Axis mark e else Among (fixed_values over) e

abbrev pub one_index : Simple → Option ℕ → Valued → Indexed → Indexed
one_index over mark e rest =
    record {
      indices = index_over over mark e.term ∷ rest.indices;
      demands = e.demands ++ (demand (index_fits over e.term) ∷ rest.demands);
    }

-- Calls

-- a function's result after its body, which a `return` has to have been met in
abbrev pub result_after : Argued → Done → Valued
result_after args body =
    record {
      term = body.change.now Result;
      demands = args.demands ++ (body.demands ++ demand (body.change.now Leaving) ∷ []);
    }

abbrev pub with_calls : Calls → ℕ → Site → Terms → Argued → Valued
with_calls calls k site T args = result_after args (calls k site T args.given)

abbrev pub no_arguments : Argued
no_arguments = record { given = []; demands = [] }

abbrev pub one_argument : Given → List Demand → Argued → Argued
one_argument g demands rest = record { given = g ∷ rest.given; demands = demands ++ rest.demands }

abbrev pub copied : Site → Terms → Option ℕ → Placed → Argued → Argued
copied site T mark p rest =
    one_argument (Filled mark true (only_term site.frame (read_of site.frame T p.spot))) p.demands rest

abbrev pub copied_all : Site → Terms → Placed → Argued → Argued
copied_all site T p rest = one_argument (Filled None true (shown_at site.frame T p.spot)) p.demands rest

abbrev pub valued : Site → Option ℕ → Valued → Argued → Argued
valued site mark e rest = one_argument (Filled mark false (only_term site.frame e.term)) e.demands rest

abbrev pub standing : Placed → Argued → Argued
standing p rest = one_argument (Standing p.spot) p.demands rest

unfoldable mutual
  -- an expression
  pub valued_of : Calls → Site → Terms → Expr → Valued
  valued_of calls site T (x.Known v) = record { term = t.Known v; demands = [] }
  valued_of calls site T (x.Bound k) = record { term = bound_term site k; demands = [] }
  valued_of calls site T (x.Read place) = read site T (placed_of calls site T place)
  valued_of calls site T (x.Call k args _) = with_calls calls k site T (argued_of calls site T args)
  valued_of calls site T (NotForm body) = negated (valued_of calls site T body)
  valued_of calls site T (MinusForm body) = calculated arith.Subtract (whole 0) (valued_of calls site T body)
  valued_of calls site T (x.Chain' _ (more_of-Expr first end_of-Expr) _ rest) =
      chain_of calls site T (valued_of calls site T first) rest
  valued_of calls site T (CompareForm by left right) =
      compared_values by (valued_of calls site T left) (valued_of calls site T right)
  valued_of calls site T (ImpliesForm left right) =
      implied site.frame (valued_of calls site T left) (valued_of calls site T right)
  valued_of calls site T (ChoiceForm test then' else') =
      choice site.frame (valued_of calls site T test) (valued_of calls site T then') (valued_of calls site T else')
  valued_of calls site T (QuantifiedForm all over body) =
      if is_over_nodes over
      then over_nodes all (valued_of calls (with_variable site) (under_variable site.frame T) body)
      else over_values all (map (λ v. valued_of calls (with_value site v) T body) (fixed_values over))
  valued_of calls site T (x.IsUndefined place) = asked_undefined site T (placed_of calls site T place)

  -- a chain, after the operands before the row
  pub chain_of : {n : _} → Calls → Site → Terms → Valued → Row_of-Link n → Valued
  chain_of calls site T before end_of-Link = before
  chain_of calls site T before (more_of-Link by operand rest) =
      chain_of calls site T
      (after before.demands (joined site.frame by before.term (valued_of calls site T operand))) rest

  -- a designator
  pub placed_of : Calls → Site → Terms → Designator → Placed
  placed_of calls site T (d.Of' root _ selectors _) =
      placed_under (root_spot site root) (row_path selectors) (indices_of calls site T selectors)

  -- its indices
  pub indices_of : {n : _} → Calls → Site → Terms → Row_of-Selector n → Indexed
  indices_of calls site T end_of-Selector = no_indices
  indices_of calls site T (more_of-Selector (select.Field name) rest) = indices_of calls site T rest
  indices_of calls site T (more_of-Selector (select.Index over index) rest) =
      one_index over (mark_of site index) (valued_of calls site T index) (indices_of calls site T rest)

  -- what a call gives to the formals
  pub argued_of : Calls → Site → Terms → Arguments → Argued
  argued_of calls site T (a.Of' _ args) = row_argued calls site T args

  pub row_argued : {n : _} → Calls → Site → Terms → Row_of-Argument n → Argued
  row_argued calls site T end_of-Argument = no_arguments
  row_argued calls site T (more_of-Argument first rest) =
      one_argued calls site T first (row_argued calls site T rest)

  pub one_argued : Calls → Site → Terms → argument.Argument → Argued → Argued
  one_argued calls site T (argument.Copy place) rest =
      copied site T (place_mark site place) (placed_of calls site T place) rest
  one_argued calls site T (argument.CopyAll place) rest = copied_all site T (placed_of calls site T place) rest
  one_argued calls site T (argument.Value body) rest = valued site (mark_of site body) (valued_of calls site T body) rest
  one_argued calls site T (argument.Place place) rest = standing (placed_of calls site T place) rest

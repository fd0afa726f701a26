-- A demand has no more binders than nodes are bound in the part that makes it, calls opened.
use Rattle.std.proofs.Common.{ℕ, suc, ◌≤◌, max, Bool, true, false, List, [], ◌∷◌, ◌++◌, length, map, Option, None, Some, arith}
use Rattle.std.specs.Prelude.{nat_eq, if◌then◌else◌}
use Rattle.term_core.specs.declared.value.Value.{Value}
use Rattle.term_core.specs.declared.value.ArithOp.{ArithOp}
use Rattle.term_core.specs.declared.value.ArithOp.TheVariants as operation
use Rattle.term_core.specs.declared.term.Term as t
use Rattle.term_core.specs.declared.term.Term.{Term}
use Rattle.murphi_ast.specs.declared.expr.ChainOp.{ChainOp}
use Rattle.murphi_ast.specs.declared.expr.ChainOp.TheVariants as op
use Rattle.murphi_typed.specs.declared.types.Simple.{Simple}
use Rattle.murphi_typed.specs.declared.types.Simple.TheVariants as simple
use Rattle.murphi_typed.specs.declared.expr.Expr as x
use Rattle.murphi_typed.specs.declared.expr.Expr.{Expr, end_of-Expr, more_of-Expr, Row_of-Link, end_of-Link, more_of-Link}
use Rattle.murphi_typed.specs.declared.expr.Designator as d
use Rattle.murphi_typed.specs.declared.expr.Designator.{Designator, Row_of-Selector, end_of-Selector, more_of-Selector}
use Rattle.murphi_typed.specs.declared.expr.Selector as select
use Rattle.murphi_typed.specs.declared.expr.Arguments as a
use Rattle.murphi_typed.specs.declared.expr.Arguments.{Arguments, Row_of-Argument, end_of-Argument, more_of-Argument}
use Rattle.murphi_typed.specs.declared.expr.Argument as argument
use Rattle.murphi_typed.specs.declared.protocol.Routine.{Routine}
use Rattle.murphi_typed.specs.declared.protocol.Formal.{Formal as DeclaredFormal}
use Rattle.murphi_typed.specs.declared.stmt.Stmt as s
use Rattle.murphi_typed.specs.declared.stmt.Stmt.{Stmt, Row_of-Stmt, end_of-Stmt, more_of-Stmt, Row_of-Arm, end_of-Arm, more_of-Arm, Row_of-Case, end_of-Case, more_of-Case}
use Rattle.murphi_typed.specs.Forms.{NotForm, MinusForm, CompareForm, ImpliesForm, ChoiceForm, QuantifiedForm}
use Rattle.murphi_typed.specs.Execution.{simple_type}
use Rattle.murphi_typed.specs.Prefix.{Depths, root_depth, depth_of, chain_depth, place_depth, indices_depth, args_depth, row_args_depth, depths_of, arg_depth, labels_depth, stmt_depth, body_depth, arms_depth, cases_depth, depths_in}
use Rattle.rule_inline.specs.Demands.{Demand, demand, under_test, unless_left, one_unless, binding, is_constant_false, truth_term}
use Rattle.rule_inline.specs.Tables.{Terms, read_of, Leaving, under_variable}
use Rattle.rule_inline.specs.Parts.{Given, Filled, Standing, Site, with_value, with_variable, Valued, Argued, Calls, Done, whole, is_defined, index_fits, fixed_values, range_fits, bounds, stored_fits, result_fits, calculated, joined, over_values, demands_of, valued_of, chain_of, placed_of, indices_of, argued_of, row_argued, one_argued}
use Rattle.rule_inline.specs.Bodies.{result_stored, turns, labels_of, among, reached, formal_fits, formals_fit, called_site, entered, called, calls_in, taken, done_by, all_done, arms_done, cases_done}

abbrev pub Within : ℕ → List Demand → Type 0
Within n [] = Unit {0}
Within n (q ∷ qs) = (q.binders ≤ n) × Within n qs

pub more_within : (m n : ℕ) (qs : List Demand) → m ≤ n → Within m qs → Within n qs
more_within m n [] h w = tt
more_within m n (q ∷ qs) h (one, w) = (omega (arith, one, h), more_within m n qs h w)

pub both_within : (n : ℕ) (ps qs : List Demand) → Within n ps → Within n qs → Within n (ps ++ qs)
both_within n [] qs v w = w
both_within n (p ∷ ps) qs (one, v) w = (one, both_within n ps qs v w)

-- two parts, each within its own
two_within : (m n : ℕ) (ps qs : List Demand) → Within m ps → Within n qs → Within (max m n) (ps ++ qs)
two_within m n ps qs v w = both_within (max m n) ps qs (more_within m (max m n) ps (omega arith) v) (more_within n (max m n) qs (omega arith) w)

pub under_within : (n frame : ℕ) (test : Term) (qs : List Demand) → Within n qs → Within n (under_test frame test qs)
under_within n frame test [] w = tt
under_within n frame test (q ∷ qs) (one, w) = (one, under_within n frame test qs w)

each_unless_within : (n frame : ℕ) (left : Term) (qs : List Demand) → Within n qs → Within n (map (one_unless frame left) qs)
each_unless_within n frame left [] w = tt
each_unless_within n frame left (q ∷ qs) (one, w) = (one, each_unless_within n frame left qs w)

unless_within : (n frame : ℕ) (left : Term) (qs : List Demand) → Within n qs → Within n (unless_left frame left qs)
unless_within n frame left qs w = go (is_constant_false left)
  where
    go : (b : Bool) → Within n (if b then qs else map (one_unless frame left) qs)
    go true = w
    go false = each_unless_within n frame left qs w

reached_within : (n : ℕ) (site : Site) (T : Terms) (qs : List Demand) → Within n qs → Within n (reached site T qs)
reached_within n site T qs w = unless_within n site.frame (T Leaving) qs w

binding_within : (n : ℕ) (qs : List Demand) → Within n qs → Within (suc n) (binding qs)
binding_within n [] w = tt
binding_within n (q ∷ qs) (one, w) = (omega (arith, one), binding_within n qs w)

-- demands of a part that stands by itself
one_within : (n : ℕ) (e : Term) → Within n (demand e ∷ [])
one_within n e = (omega arith, tt)

each_within : (n : ℕ) (es : List Term) → Within n (map demand es)
each_within n [] = tt
each_within n (e ∷ es) = (omega arith, each_within n es)

range_within : (n : ℕ) (plain : Bool) (e : Term) (tests : List Term) → Within n (range_fits plain e tests)
range_within n plain e [] = tt
range_within n true e (test ∷ tests) = (omega arith, tt)
range_within n false e (test ∷ tests) = (omega arith, tt)

stored_within : (n : ℕ) (plain : Bool) (into : Simple) (e : Term) → Within n (stored_fits plain into e)
stored_within n plain into e = range_within n plain e (bounds into e)

calculated_within : (n : ℕ) (by : ArithOp) (left : Term) (right : Valued) → Within n right.demands → Within n (calculated by left right).demands
calculated_within n by left right w = both_within n right.demands (map demand (result_fits by left right.term)) w (each_within n (result_fits by left right.term))

joined_within : (n frame : ℕ) (by : ChainOp) (left : Term) (right : Valued) → Within n right.demands → Within n (joined frame by left right).demands
joined_within n frame op.Or left right w = under_within n frame (t.Not left) right.demands w
joined_within n frame op.And left right w = under_within n frame left right.demands w
joined_within n frame op.Add left right w = calculated_within n operation.Add left right w
joined_within n frame op.Subtract left right w = calculated_within n operation.Subtract left right w
joined_within n frame op.Times left right w = calculated_within n operation.Times left right w
joined_within n frame op.Divide left right w = calculated_within n operation.Divide left right w
joined_within n frame op.Modulo left right w = calculated_within n operation.Modulo left right w

values_within : (n : ℕ) (all : Bool) (es : List Valued) → Within n (demands_of es) → Within n (over_values all es).demands
values_within n true es w = w
values_within n false es w = w

instances_within : (n : ℕ) (f : Value → Valued) → ((v : Value) → Within n (f v).demands) → (vs : List Value) → Within n (demands_of (map f vs))
instances_within n f each [] = tt
instances_within n f each (v ∷ vs) = both_within n (f v).demands (demands_of (map f vs)) (each v) (instances_within n f each vs)

over_values_within : (n : ℕ) (all : Bool) (f : Value → Valued) → ((v : Value) → Within n (f v).demands) → (vs : List Value) → Within n (over_values all (map f vs)).demands
over_values_within n all f each vs = values_within n all (map f vs) (instances_within n f each vs)

max_three : (m a b : ℕ) → max (max m a) b ≤ max m (max a b)
max_three m a b = omega arith

arm_joined : (a b c m : ℕ) (ps qs rs : List Demand) → Within a ps → Within b qs → Within (max c m) rs → Within (max (max a (max b c)) m) (ps ++ (qs ++ rs))
arm_joined a b c m ps qs rs u v w =
    both_within (max (max a (max b c)) m) ps (qs ++ rs) (more_within a (max (max a (max b c)) m) ps (omega arith) u)
    (both_within (max (max a (max b c)) m) qs rs (more_within b (max (max a (max b c)) m) qs (omega arith) v) (more_within (max c m) (max (max a (max b c)) m) rs (omega arith) w))

-- what calls demand is within what is bound in them
abbrev pub CallsWithin : Calls → Depths → Type 0
CallsWithin calls depths = (k : ℕ) (site : Site) (T : Terms) (gs : List Given) (formals : List ℕ) → Within (depths k formals) (calls k site T gs).demands

module _ (calls : Calls) (depths : Depths) (inner : CallsWithin calls depths) where
  mutual
    unfolding valued_of depth_of

    pub value_within : (formals : List ℕ) (site : Site) (T : Terms) (e : Expr) → Within (depth_of depths formals e) (valued_of calls site T e).demands
    value_within formals site T (x.Known v) = tt
    value_within formals site T (x.Bound k) = tt
    value_within formals site T (x.Read place) = both_within (place_depth depths formals place) (placed_of calls site T place).demands (demand (is_defined (read_of site.frame T (placed_of calls site T place).spot)) ∷ []) (place_within formals site T place) (one_within (place_depth depths formals place) (is_defined (read_of site.frame T (placed_of calls site T place).spot)))
    value_within formals site T (x.Call k args _) =
        two_within (args_depth depths formals args) (depths k (depths_of depths formals args)) (argued_of calls site T args).demands ((calls k site T (argued_of calls site T args).given).demands ++ demand ((calls k site T (argued_of calls site T args).given).change.now Leaving) ∷ [])
        (arguments_within formals site T args) (both_within (depths k (depths_of depths formals args)) (calls k site T (argued_of calls site T args).given).demands (demand ((calls k site T (argued_of calls site T args).given).change.now Leaving) ∷ []) (inner k site T (argued_of calls site T args).given (depths_of depths formals args)) (one_within (depths k (depths_of depths formals args)) ((calls k site T (argued_of calls site T args).given).change.now Leaving)))
    value_within formals site T (NotForm body) = value_within formals site T body
    value_within formals site T (MinusForm body) = calculated_within (depth_of depths formals body) operation.Subtract (whole 0) (valued_of calls site T body) (value_within formals site T body)
    value_within formals site T (x.Chain' _ (more_of-Expr first end_of-Expr) _ rest) =
        chain_within formals site T rest (depth_of depths formals first) (valued_of calls site T first) (value_within formals site T first)
    value_within formals site T (CompareForm by left right) =
        two_within (depth_of depths formals left) (depth_of depths formals right) (valued_of calls site T left).demands (valued_of calls site T right).demands (value_within formals site T left) (value_within formals site T right)
    value_within formals site T (ImpliesForm left right) =
        two_within (depth_of depths formals left) (depth_of depths formals right) (valued_of calls site T left).demands (under_test site.frame (valued_of calls site T left).term (valued_of calls site T right).demands) (value_within formals site T left) (under_within (depth_of depths formals right) site.frame (valued_of calls site T left).term (valued_of calls site T right).demands (value_within formals site T right))
    value_within formals site T (ChoiceForm test then' else') =
        two_within (depth_of depths formals test) (max (depth_of depths formals then') (depth_of depths formals else')) (valued_of calls site T test).demands ((under_test site.frame (valued_of calls site T test).term (valued_of calls site T then').demands) ++ (under_test site.frame (t.Not (valued_of calls site T test).term) (valued_of calls site T else').demands)) (value_within formals site T test)
        (two_within (depth_of depths formals then') (depth_of depths formals else') (under_test site.frame (valued_of calls site T test).term (valued_of calls site T then').demands) (under_test site.frame (t.Not (valued_of calls site T test).term) (valued_of calls site T else').demands) (under_within (depth_of depths formals then') site.frame (valued_of calls site T test).term (valued_of calls site T then').demands (value_within formals site T then')) (under_within (depth_of depths formals else') site.frame (t.Not (valued_of calls site T test).term) (valued_of calls site T else').demands (value_within formals site T else')))
    value_within formals site T (QuantifiedForm all simple.Node body) = binding_within (depth_of depths formals body) (valued_of calls (with_variable site) (under_variable site.frame T) body).demands (value_within formals (with_variable site) (under_variable site.frame T) body)
    value_within formals site T (QuantifiedForm all simple.Truth body) = over_values_within (depth_of depths formals body) all (λ v. valued_of calls (with_value site v) T body) (λ v. value_within formals (with_value site v) T body) (fixed_values simple.Truth)
    value_within formals site T (QuantifiedForm all (simple.Range low high) body) = over_values_within (depth_of depths formals body) all (λ v. valued_of calls (with_value site v) T body) (λ v. value_within formals (with_value site v) T body) (fixed_values (simple.Range low high))
    value_within formals site T (QuantifiedForm all (simple.Listed kind count) body) = over_values_within (depth_of depths formals body) all (λ v. valued_of calls (with_value site v) T body) (λ v. value_within formals (with_value site v) T body) (fixed_values (simple.Listed kind count))
    value_within formals site T (QuantifiedForm all (simple.Scalarset kind count) body) = over_values_within (depth_of depths formals body) all (λ v. valued_of calls (with_value site v) T body) (λ v. value_within formals (with_value site v) T body) (fixed_values (simple.Scalarset kind count))
    value_within formals site T (x.IsUndefined place) = place_within formals site T place

    chain_within : {n : _} (formals : List ℕ) (site : Site) (T : Terms) (rest : Row_of-Link n) (m : ℕ) (before : Valued) → Within m before.demands → Within (max m (chain_depth depths formals rest)) (chain_of calls site T before rest).demands
    chain_within formals site T end_of-Link m before w = more_within m (max m 0) before.demands (omega arith) w
    chain_within formals site T (more_of-Link by operand rest) m before w =
        more_within (max (max m (depth_of depths formals operand)) (chain_depth depths formals rest)) (max m (max (depth_of depths formals operand) (chain_depth depths formals rest))) (chain_of calls site T (record (joined site.frame by before.term (valued_of calls site T operand)) { demands = before.demands ++ (joined site.frame by before.term (valued_of calls site T operand)).demands }) rest).demands (max_three m (depth_of depths formals operand) (chain_depth depths formals rest))
        (chain_within formals site T rest (max m (depth_of depths formals operand)) (record (joined site.frame by before.term (valued_of calls site T operand)) { demands = before.demands ++ (joined site.frame by before.term (valued_of calls site T operand)).demands })
        (two_within m (depth_of depths formals operand) before.demands (joined site.frame by before.term (valued_of calls site T operand)).demands w (joined_within (depth_of depths formals operand) site.frame by before.term (valued_of calls site T operand) (value_within formals site T operand))))

    pub place_within : (formals : List ℕ) (site : Site) (T : Terms) (place : Designator) → Within (place_depth depths formals place) (placed_of calls site T place).demands
    place_within formals site T (d.Of' root _ selectors _) = more_within (indices_depth depths formals selectors) (max (root_depth formals root) (indices_depth depths formals selectors)) (indices_of calls site T selectors).demands (omega arith) (indices_within formals site T selectors)

    indices_within : {n : _} (formals : List ℕ) (site : Site) (T : Terms) (selectors : Row_of-Selector n) → Within (indices_depth depths formals selectors) (indices_of calls site T selectors).demands
    indices_within formals site T end_of-Selector = tt
    indices_within formals site T (more_of-Selector (select.Field name) rest) = indices_within formals site T rest
    indices_within formals site T (more_of-Selector (select.Index over index) rest) =
        two_within (depth_of depths formals index) (indices_depth depths formals rest) (valued_of calls site T index).demands (demand (index_fits over (valued_of calls site T index).term) ∷ (indices_of calls site T rest).demands) (value_within formals site T index) (omega arith, indices_within formals site T rest)

    pub arguments_within : (formals : List ℕ) (site : Site) (T : Terms) (args : Arguments) → Within (args_depth depths formals args) (argued_of calls site T args).demands
    arguments_within formals site T (a.Of' _ args) = arguments_row_within formals site T args

    arguments_row_within : {n : _} (formals : List ℕ) (site : Site) (T : Terms) (args : Row_of-Argument n) → Within (row_args_depth depths formals args) (row_argued calls site T args).demands
    arguments_row_within formals site T end_of-Argument = tt
    arguments_row_within formals site T (more_of-Argument first rest) = argument_within formals site T first (row_args_depth depths formals rest) (row_argued calls site T rest) (arguments_row_within formals site T rest)

    argument_within : (formals : List ℕ) (site : Site) (T : Terms) (arg : argument.Argument) (m : ℕ) (rest : Argued) → Within m rest.demands → Within (max (arg_depth depths formals arg) m) (one_argued calls site T arg rest).demands
    argument_within formals site T (argument.Copy place) m rest w = two_within (place_depth depths formals place) m (placed_of calls site T place).demands rest.demands (place_within formals site T place) w
    argument_within formals site T (argument.CopyAll place) m rest w = two_within (place_depth depths formals place) m (placed_of calls site T place).demands rest.demands (place_within formals site T place) w
    argument_within formals site T (argument.Value body) m rest w = two_within (depth_of depths formals body) m (valued_of calls site T body).demands rest.demands (value_within formals site T body) w
    argument_within formals site T (argument.Place place) m rest w = two_within (place_depth depths formals place) m (placed_of calls site T place).demands rest.demands (place_within formals site T place) w

  -- Statements

  turns_within : (n : ℕ) (body : Value → Terms → Done) → ((v : Value) (T : Terms) → Within n (body v T).demands) → (vs : List Value) (T : Terms) → Within n (turns body vs T).demands
  turns_within n body each [] T = tt
  turns_within n body each (v ∷ vs) T = both_within n (body v T).demands ((turns body vs ((body v T).change.now)).demands) (each v T) (turns_within n body each vs ((body v T).change.now))

  result_within : (n : ℕ) (into : Option Simple) (e : Term) → Within n (result_stored into e)
  result_within n None e = tt
  result_within n (Some into) e = stored_within n false into e

  labels_within : (formals : List ℕ) (site : Site) (T : Terms) (on : Term) (labels : List Expr) → Within (labels_depth depths formals labels) (labels_of (valued_of calls site T) site on labels).demands
  labels_within formals site T on [] = tt
  labels_within formals site T on (label ∷ labels) =
      two_within (depth_of depths formals label) (labels_depth depths formals labels) (valued_of calls site T label).demands (under_test site.frame (t.Not (t.Same on (valued_of calls site T label).term)) (labels_of (valued_of calls site T) site on labels).demands)
      (value_within formals site T label) (under_within (labels_depth depths formals labels) site.frame (t.Not (t.Same on (valued_of calls site T label).term)) (labels_of (valued_of calls site T) site on labels).demands (labels_within formals site T on labels))

  mutual
    unfolding done_by stmt_depth

    pub stmt_within : (formals : List ℕ) (site : Site) (T : Terms) (stmt : Stmt) → Within (stmt_depth depths formals stmt) (done_by calls site T stmt).demands
    stmt_within formals site T (s.Block' _ body) = body_within formals site T body
    stmt_within formals site T (s.Assign to into body) =
        reached_within (max (place_depth depths formals to) (depth_of depths formals body)) site T ((placed_of calls site T to).demands ++ ((valued_of calls site T body).demands ++ stored_fits false into (valued_of calls site T body).term))
        (two_within (place_depth depths formals to) (depth_of depths formals body) (placed_of calls site T to).demands ((valued_of calls site T body).demands ++ stored_fits false into (valued_of calls site T body).term) (place_within formals site T to) (both_within (depth_of depths formals body) (valued_of calls site T body).demands (stored_fits false into (valued_of calls site T body).term) (value_within formals site T body) (stored_within (depth_of depths formals body) false into (valued_of calls site T body).term)))
    stmt_within formals site T (s.Copy to into from) =
        reached_within (max (place_depth depths formals to) (place_depth depths formals from)) site T ((placed_of calls site T to).demands ++ ((placed_of calls site T from).demands ++ stored_fits true into (read_of site.frame T (placed_of calls site T from).spot)))
        (two_within (place_depth depths formals to) (place_depth depths formals from) (placed_of calls site T to).demands ((placed_of calls site T from).demands ++ stored_fits true into (read_of site.frame T (placed_of calls site T from).spot)) (place_within formals site T to) (both_within (place_depth depths formals from) (placed_of calls site T from).demands (stored_fits true into (read_of site.frame T (placed_of calls site T from).spot)) (place_within formals site T from) (stored_within (place_depth depths formals from) true into (read_of site.frame T (placed_of calls site T from).spot))))
    stmt_within formals site T (s.CopyAll to from) =
        reached_within (max (place_depth depths formals to) (place_depth depths formals from)) site T ((placed_of calls site T to).demands ++ (placed_of calls site T from).demands) (two_within (place_depth depths formals to) (place_depth depths formals from) (placed_of calls site T to).demands (placed_of calls site T from).demands (place_within formals site T to) (place_within formals site T from))
    stmt_within formals site T (s.Call k args at) =
        reached_within (max (args_depth depths formals args) (depths k (depths_of depths formals args))) site T ((argued_of calls site T args).demands ++ (calls k site T (argued_of calls site T args).given).demands)
        (two_within (args_depth depths formals args) (depths k (depths_of depths formals args)) (argued_of calls site T args).demands (calls k site T (argued_of calls site T args).given).demands (arguments_within formals site T args) (inner k site T (argued_of calls site T args).given (depths_of depths formals args)))
    stmt_within formals site T (s.If' _ arms _ otherwise at) = arms_within formals site T arms (body_depth depths formals otherwise) (all_done calls site T otherwise) (body_within formals site T otherwise)
    stmt_within formals site T (s.Switch' on _ cases _ otherwise at) =
        two_within (depth_of depths formals on) (max (cases_depth depths formals cases) (body_depth depths formals otherwise)) (reached site T (valued_of calls site T on).demands) (cases_done calls site T (valued_of calls site T on).term cases (all_done calls site T otherwise)).demands
        (reached_within (depth_of depths formals on) site T (valued_of calls site T on).demands (value_within formals site T on))
        (cases_within formals site T (valued_of calls site T on).term cases (body_depth depths formals otherwise) (all_done calls site T otherwise) (body_within formals site T otherwise))
    stmt_within formals site T (s.For' simple.Node _ body at) = binding_within (body_depth depths formals body) (all_done calls (with_variable site) (under_variable site.frame T) body).demands (body_within formals (with_variable site) (under_variable site.frame T) body)
    stmt_within formals site T (s.For' simple.Truth _ body at) = turns_within (body_depth depths formals body) (λ v U. all_done calls (with_value site v) U body) (λ v U. body_within formals (with_value site v) U body) (fixed_values simple.Truth) T
    stmt_within formals site T (s.For' (simple.Range low high) _ body at) = turns_within (body_depth depths formals body) (λ v U. all_done calls (with_value site v) U body) (λ v U. body_within formals (with_value site v) U body) (fixed_values (simple.Range low high)) T
    stmt_within formals site T (s.For' (simple.Listed kind count) _ body at) = turns_within (body_depth depths formals body) (λ v U. all_done calls (with_value site v) U body) (λ v U. body_within formals (with_value site v) U body) (fixed_values (simple.Listed kind count)) T
    stmt_within formals site T (s.For' (simple.Scalarset kind count) _ body at) = turns_within (body_depth depths formals body) (λ v U. all_done calls (with_value site v) U body) (λ v U. body_within formals (with_value site v) U body) (fixed_values (simple.Scalarset kind count)) T
    stmt_within formals site T (s.Clear place of at) = reached_within (place_depth depths formals place) site T (placed_of calls site T place).demands (place_within formals site T place)
    stmt_within formals site T (s.Undefine place at) = reached_within (place_depth depths formals place) site T (placed_of calls site T place).demands (place_within formals site T place)
    stmt_within formals site T (s.Error at) = reached_within 0 site T (demand (truth_term false) ∷ []) (one_within 0 (truth_term false))
    stmt_within formals site T (s.Assert test at) = reached_within (depth_of depths formals test) site T ((valued_of calls site T test).demands ++ demand (valued_of calls site T test).term ∷ []) (both_within (depth_of depths formals test) (valued_of calls site T test).demands (demand (valued_of calls site T test).term ∷ []) (value_within formals site T test) (one_within (depth_of depths formals test) (valued_of calls site T test).term))
    stmt_within formals site T (s.PutText at) = tt
    stmt_within formals site T (s.Put shown at) = tt
    stmt_within formals site T (s.Leave at) = tt
    stmt_within formals site T (s.Return body at) = reached_within (depth_of depths formals body) site T ((valued_of calls site T body).demands ++ result_stored site.result (valued_of calls site T body).term) (both_within (depth_of depths formals body) (valued_of calls site T body).demands (result_stored site.result (valued_of calls site T body).term) (value_within formals site T body) (result_within (depth_of depths formals body) site.result (valued_of calls site T body).term))

    pub body_within : {n : _} (formals : List ℕ) (site : Site) (T : Terms) (body : Row_of-Stmt n) → Within (body_depth depths formals body) (all_done calls site T body).demands
    body_within formals site T end_of-Stmt = tt
    body_within formals site T (more_of-Stmt first rest) =
        two_within (stmt_depth depths formals first) (body_depth depths formals rest) (done_by calls site T first).demands (all_done calls site ((taken site T (done_by calls site T first)).change.now) rest).demands (stmt_within formals site T first) (body_within formals site ((taken site T (done_by calls site T first)).change.now) rest)

    arms_within : {n : _} (formals : List ℕ) (site : Site) (T : Terms) (arms : Row_of-Arm n) (m : ℕ) (otherwise : Done) → Within m otherwise.demands → Within (max (arms_depth depths formals arms) m) (arms_done calls site T arms otherwise).demands
    arms_within formals site T end_of-Arm m otherwise w = more_within m (max 0 m) otherwise.demands (omega arith) w
    arms_within formals site T (more_of-Arm test _ body rest) m otherwise w =
        arm_joined (depth_of depths formals test) (body_depth depths formals body) (arms_depth depths formals rest) m (reached site T (valued_of calls site T test).demands) (under_test site.frame (valued_of calls site T test).term (all_done calls site T body).demands) (under_test site.frame (t.Not (valued_of calls site T test).term) (arms_done calls site T rest otherwise).demands)
        (reached_within (depth_of depths formals test) site T (valued_of calls site T test).demands (value_within formals site T test))
        (under_within (body_depth depths formals body) site.frame (valued_of calls site T test).term (all_done calls site T body).demands (body_within formals site T body))
        (under_within (max (arms_depth depths formals rest) m) site.frame (t.Not (valued_of calls site T test).term) (arms_done calls site T rest otherwise).demands (arms_within formals site T rest m otherwise w))

    cases_within : {n : _} (formals : List ℕ) (site : Site) (T : Terms) (on : Term) (cases : Row_of-Case n) (m : ℕ) (otherwise : Done) → Within m otherwise.demands → Within (max (cases_depth depths formals cases) m) (cases_done calls site T on cases otherwise).demands
    cases_within formals site T on end_of-Case m otherwise w = more_within m (max 0 m) otherwise.demands (omega arith) w
    cases_within formals site T on (more_of-Case labels _ body rest) m otherwise w =
        arm_joined (labels_depth depths formals labels) (body_depth depths formals body) (cases_depth depths formals rest) m (reached site T (among (labels_of (valued_of calls site T) site on labels)).demands) (under_test site.frame (among (labels_of (valued_of calls site T) site on labels)).term (all_done calls site T body).demands) (under_test site.frame (t.Not (among (labels_of (valued_of calls site T) site on labels)).term) (cases_done calls site T on rest otherwise).demands)
        (reached_within (labels_depth depths formals labels) site T (among (labels_of (valued_of calls site T) site on labels)).demands (labels_within formals site T on labels))
        (under_within (body_depth depths formals body) site.frame (among (labels_of (valued_of calls site T) site on labels)).term (all_done calls site T body).demands (body_within formals site T body))
        (under_within (max (cases_depth depths formals rest) m) site.frame (t.Not (among (labels_of (valued_of calls site T) site on labels)).term) (cases_done calls site T on rest otherwise).demands (cases_within formals site T on rest m otherwise w))

formals_within : (n : ℕ) (ds : List DeclaredFormal) (gs : List Given) → Within n (formals_fit ds gs)
formals_within n [] [] = tt
formals_within n [] (g ∷ gs) = tt
formals_within n (d ∷ ds) [] = tt
formals_within n (d ∷ ds) (g ∷ gs) = both_within n (formal_fits (simple_type d.of) g) (formals_fit ds gs) (one (simple_type d.of) g) (formals_within n ds gs)
  where
    one : (o : Option Simple) (g : Given) → Within n (formal_fits o g)
    one None g = tt
    one (Some into) (Filled mark plain shown) = stored_within n plain into (shown [] [])
    one (Some into) (Standing spot) = tt

pub calls_within : (routines : List Routine) → CallsWithin (calls_in routines) (depths_in routines)
calls_within [] k site T gs formals = tt
calls_within (r ∷ earlier) k site T gs formals = go (calls_within earlier) (nat_eq k (length earlier))
  where
    go : CallsWithin (calls_in earlier) (depths_in earlier) → (b : Bool) → Within (if b then stmt_depth (depths_in earlier) formals r.body else depths_in earlier k formals) ((if b then called (calls_in earlier) r site T gs else calls_in earlier k site T gs).demands)
    go inner true = both_within (stmt_depth (depths_in earlier) formals r.body) (formals_fit r.formals gs) (done_by (calls_in earlier) (called_site site r.result gs) (entered (suc site.depth) gs T) r.body).demands (formals_within (stmt_depth (depths_in earlier) formals r.body) r.formals gs) (stmt_within (calls_in earlier) (depths_in earlier) inner formals (called_site site r.result gs) (entered (suc site.depth) gs T) r.body)
    go inner false = inner k site T gs formals

-- Statements and routines as terms, with what they demand. Statements are taken in turn, each on the terms that
-- the one before left.
use Rattle.std.specs.Prelude.{ℕ, suc, true, false, nat_eq, List, [], ◌∷◌, ◌++◌, reverse, length, Option, None, Some, if◌then◌else◌, slice_get}
use Rattle.std.specs.Option.{option_map_or}
use Rattle.term_core.specs.declared.value.Value.{Value}
use Rattle.term_core.specs.declared.term.Term as t
use Rattle.term_core.specs.declared.term.Term.{Term}
use Rattle.murphi_typed.specs.declared.types.Simple.{Simple}
use Rattle.murphi_typed.specs.declared.types.AnyType.{AnyType}
use Rattle.murphi_typed.specs.declared.expr.Expr.{Expr}
use Rattle.murphi_typed.specs.declared.stmt.Stmt as s
use Rattle.murphi_typed.specs.declared.stmt.Stmt.{Stmt, Row_of-Stmt, end_of-Stmt, more_of-Stmt, Row_of-Arm, end_of-Arm, more_of-Arm, Row_of-Case, end_of-Case, more_of-Case}
use Rattle.murphi_typed.specs.declared.protocol.Formal.{Formal as DeclaredFormal}
use Rattle.murphi_typed.specs.declared.protocol.Routine.{Routine}
use Rattle.murphi_typed.specs.Values.{cleared_value}
use Rattle.murphi_typed.specs.Families.{leaf_at}
use Rattle.murphi_typed.specs.Store.{Global, Local, Formal}
use Rattle.murphi_typed.specs.Execution.{simple_type}
use Rattle.murphi_typed.specs.Prefix.{is_over_nodes}
use Rattle.rule_inline.specs.Demands.{Demand, demand, truth_term, under_test, unless_left, binding}
use Rattle.rule_inline.specs.Tables.{Slot, Family, Leaving, Result, Terms, Marks, Change, unchanged, and_then, renewed_by, under_variable, Shown, shown_at, read_of, only_term, written, Branch, chosen, unless_returned, over_nodes}
use Rattle.rule_inline.specs.Parts.{Given, Filled, Standing, Site, with_value, with_variable, Valued, Placed, Argued, Done, Calls, fixed_values, undefined, stored_fits, valued_of, placed_of, argued_of}

-- what does nothing
abbrev pub nothing : Terms → Done
nothing T = record { change = unchanged T; demands = [] }

-- one part after another
abbrev pub before : Done → Done → Done
before a b = record { change = and_then a.change b.change; demands = a.demands ++ b.demands }

abbrev pub followed : Done → (Terms → Done) → Done
followed a next = before a (next a.change.now)

-- the demands of a part of a statement: where no `return` was met before
abbrev pub reached : Site → Terms → List Demand → List Demand
reached site T demands = unless_left site.frame (T Leaving) demands

-- Assignments

abbrev pub stored : Site → Terms → Placed → Simple → Valued → Done
stored site T to into e =
    record {
      change = written site.frame T to.spot (only_term site.frame e.term);
      demands = reached site T (to.demands ++ (e.demands ++ stored_fits false into e.term));
    }

abbrev pub copied : Site → Terms → Placed → Simple → Placed → Done
copied site T to into from =
    record {
      change = written site.frame T to.spot (only_term site.frame (read_of site.frame T from.spot));
      demands = reached site T
          (to.demands ++ (from.demands ++ stored_fits true into (read_of site.frame T from.spot)));
    }

abbrev pub copied_all : Site → Terms → Placed → Placed → Done
copied_all site T to from =
    record {
      change = written site.frame T to.spot (shown_at site.frame T from.spot);
      demands = reached site T (to.demands ++ from.demands);
    }

-- each cell gets a constant
abbrev pub set : Site → Terms → Placed → Shown → Done
set site T to new =
    record { change = written site.frame T to.spot new; demands = reached site T to.demands }

-- what `clear` gives the cells under a designator of this type
abbrev pub cleared : AnyType → Shown
cleared of path key = option_map_or (λ leaf. t.Known (cleared_value leaf)) (leaf_at of path) undefined

abbrev pub all_undefined : Shown
all_undefined path key = undefined

-- Returns

abbrev pub left_body : Slot → Option Term
left_body Leaving = Some (truth_term true)
left_body _ = None

abbrev pub left_with : Term → Slot → Option Term
left_with result Leaving = Some (truth_term true)
left_with result Result = Some result
left_with result (Family owner path key) = None

abbrev pub leave : Terms → Done
leave T = record { change = renewed_by [] left_body T; demands = [] }

-- the result is in the range of the result type
abbrev pub result_stored : Option Simple → Term → List Demand
result_stored (Some into) e = stored_fits false into e
result_stored None e = []

abbrev pub returned : Site → Terms → Valued → Done
returned site T e =
    record {
      change = renewed_by [] (left_with e.term) T;
      demands = reached site T (e.demands ++ result_stored site.result e.term);
    }

-- Tests

abbrev pub asserted : Site → Terms → Valued → Done
asserted site T e =
    record { change = unchanged T; demands = reached site T (e.demands ++ demand e.term ∷ []) }

abbrev pub failed : Site → Terms → Done
failed site T = record { change = unchanged T; demands = reached site T (demand (truth_term false) ∷ []) }

-- branches in order, the last of which has no test, and what they demand
pub record Branching : Type 0 where
  pub branches : List Branch
  pub otherwise : Change
  pub demands : List Demand

abbrev pub last_branch : Done → Branching
last_branch body = record { branches = []; otherwise = body.change; demands = body.demands }

abbrev pub one_branch : Site → Terms → Valued → Done → Branching → Branching
one_branch site T test body rest =
    record {
      branches = record { test = test.term; change = body.change } ∷ rest.branches;
      otherwise = rest.otherwise;
      demands = reached site T test.demands
          ++ (under_test site.frame test.term body.demands ++ under_test site.frame (t.Not test.term) rest.demands);
    }

abbrev pub branched : Site → Terms → List Demand → Branching → Done
branched site T first all =
    record { change = chosen site.frame T all.branches all.otherwise; demands = first ++ all.demands }

-- whether a value is one of the labels, in order: several are one test
pub record Labels : Type 0 where
  pub tests : List Term
  pub demands : List Demand

abbrev pub no_labels : Labels
no_labels = record { tests = []; demands = [] }

abbrev pub one_label : Site → Term → Valued → Labels → Labels
one_label site on label rest =
    record {
      tests = t.Same on label.term ∷ rest.tests;
      demands = label.demands ++ under_test site.frame (t.Not (t.Same on label.term)) rest.demands;
    }

abbrev pub labels_of : (Expr → Valued) → Site → Term → List Expr → Labels
labels_of worked site on [] = no_labels
labels_of worked site on (label ∷ labels) = one_label site on (worked label) (labels_of worked site on labels)

abbrev pub one_of_labels : List Term → Term
one_of_labels (test ∷ []) = test
one_of_labels tests = t.Or tests

abbrev pub among : Labels → Valued
among labels = record { term = one_of_labels labels.tests; demands = labels.demands }

-- Loops

-- one turn for each of the values
abbrev pub turns : (Value → Terms → Done) → List Value → Terms → Done
turns body [] T = nothing T
turns body (v ∷ vs) T = followed (body v T) (turns body vs)

abbrev pub for_nodes : Site → Terms → Done → Done
for_nodes site T body = record { change = over_nodes site.frame T body.change; demands = binding body.demands }

-- Calls

-- the terms at the entry of a body of this depth
abbrev pub given_terms : Option Given → Shown
given_terms (Some (Filled mark plain shown)) = shown
given_terms _ = λ path key. undefined

abbrev pub entered : ℕ → List Given → Terms → Terms
entered depth gs T (Family (Global k) path key) = T (Family (Global k) path key)
entered depth gs T (Family (Local of k) path key) =
    if nat_eq of depth then undefined else T (Family (Local of k) path key)
entered depth gs T (Family (Formal of k) path key) =
    if nat_eq of depth then given_terms (slice_get gs k) path key else T (Family (Formal of k) path key)
entered depth gs T Leaving = truth_term false
entered depth gs T Result = undefined

-- a formal by value takes its argument in the same way as an assignment
abbrev pub formal_fits : Option Simple → Given → List Demand
formal_fits (Some into) (Filled mark plain shown) = stored_fits plain into (shown [] [])
formal_fits (Some into) (Standing spot) = []
formal_fits None g = []

abbrev pub formals_fit : List DeclaredFormal → List Given → List Demand
formals_fit (f ∷ fs) (g ∷ gs) = formal_fits (simple_type f.of) g ++ formals_fit fs gs
formals_fit _ _ = []

abbrev pub called_site : Site → Option Simple → List Given → Site
called_site site result gs =
    record { frame = site.frame; depth = suc site.depth; result = result; bound = []; formals = gs }

-- after a call the caller goes on: whether a `return` was met in its own body, and its own result, are as before
abbrev pub back : Terms → Change → Slot → Term
back T change (Family owner path key) = change.now (Family owner path key)
back T change Leaving = T Leaving
back T change Result = T Result

abbrev pub back_first : Change → Slot → Option Marks
back_first change (Family owner path key) = change.first (Family owner path key)
back_first change Leaving = None
back_first change Result = None

abbrev pub came_back : Site → Terms → Argued → Done → Done
came_back site T args body =
    record {
      change = record { now = back T body.change; first = back_first body.change };
      demands = reached site T (args.demands ++ body.demands);
    }

abbrev pub with_arguments : Calls → ℕ → Site → Terms → Argued → Done
with_arguments calls k site T args = came_back site T args (calls k site T args.given)

-- a statement keeps what it would change where a `return` was met before it
abbrev pub taken : Site → Terms → Done → Done
taken site T body = record body { change = unless_returned site.frame T body.change }

unfoldable mutual
  -- what a statement does
  pub done_by : Calls → Site → Terms → Stmt → Done
  done_by calls site T (s.Block' _ body) = all_done calls site T body
  done_by calls site T (s.Assign to into body) =
      stored site T (placed_of calls site T to) into (valued_of calls site T body)
  done_by calls site T (s.Copy to into from) =
      copied site T (placed_of calls site T to) into (placed_of calls site T from)
  done_by calls site T (s.CopyAll to from) = copied_all site T (placed_of calls site T to) (placed_of calls site T from)
  done_by calls site T (s.Call k args at) =
      with_arguments calls k site T (argued_of calls site T args)
  done_by calls site T (s.If' _ arms _ otherwise at) =
      branched site T [] (arms_done calls site T arms (all_done calls site T otherwise))
  done_by calls site T (s.Switch' on _ cases _ otherwise at) =
      branched site T (reached site T (valued_of calls site T on).demands)
      (cases_done calls site T (valued_of calls site T on).term cases (all_done calls site T otherwise))
  done_by calls site T (s.For' over _ body at) =
      if is_over_nodes over
      then for_nodes site T (all_done calls (with_variable site) (under_variable site.frame T) body)
      else turns (λ v T. all_done calls (with_value site v) T body) (fixed_values over) T
  done_by calls site T (s.Clear place of at) = set site T (placed_of calls site T place) (cleared of)
  done_by calls site T (s.Undefine place at) = set site T (placed_of calls site T place) all_undefined
  done_by calls site T (s.Error at) = failed site T
  done_by calls site T (s.Assert test at) = asserted site T (valued_of calls site T test)
  done_by calls site T (s.PutText at) = nothing T
  done_by calls site T (s.Put shown at) = nothing T
  done_by calls site T (s.Leave at) = leave T
  done_by calls site T (s.Return body at) = returned site T (valued_of calls site T body)

  -- what statements do in turn
  pub all_done : {n : _} → Calls → Site → Terms → Row_of-Stmt n → Done
  all_done calls site T end_of-Stmt = nothing T
  all_done calls site T (more_of-Stmt first rest) =
      followed (taken site T (done_by calls site T first)) (λ next. all_done calls site next rest)

  -- the arms of an `if`
  pub arms_done : {n : _} → Calls → Site → Terms → Row_of-Arm n → Done → Branching
  arms_done calls site T end_of-Arm otherwise = last_branch otherwise
  arms_done calls site T (more_of-Arm test _ body rest) otherwise =
      one_branch site T (valued_of calls site T test) (all_done calls site T body)
      (arms_done calls site T rest otherwise)

  -- the cases of a `switch`
  pub cases_done : {n : _} → Calls → Site → Terms → Term → Row_of-Case n → Done → Branching
  cases_done calls site T on end_of-Case otherwise = last_branch otherwise
  cases_done calls site T on (more_of-Case labels _ body rest) otherwise =
      one_branch site T (among (labels_of (valued_of calls site T) site on labels)) (all_done calls site T body)
      (cases_done calls site T on rest otherwise)

-- what is demanded before a body is entered
abbrev pub demanding : List Demand → Done → Done
demanding first body = record body { demands = first ++ body.demands }

-- what calling one routine does, where it is known what the routines do that it calls
abbrev pub called : Calls → Routine → Site → Terms → List Given → Done
called calls r site T gs =
    demanding (formals_fit r.formals gs)
    (done_by calls (called_site site r.result gs) (entered (suc site.depth) gs T) r.body)

-- what calling the routines of a list does, the last of the text first: each calls only those after it in the list
abbrev pub calls_in : List Routine → Calls
calls_in [] k site T gs = nothing T
calls_in (r ∷ earlier) k site T gs =
    if nat_eq k (length earlier) then called (calls_in earlier) r site T gs else calls_in earlier k site T gs

abbrev pub routine_calls : List Routine → Calls
routine_calls routines = calls_in (reverse routines)

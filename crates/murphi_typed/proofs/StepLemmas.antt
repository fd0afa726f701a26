-- Starts and steps keep the cells and what each may hold.
use Rattle.std.proofs.Common.{◌≡◌, ℕ, zero, suc, ◌+◌, ◌<◌, Bool, true, false, ◌&&◌, List, [], ◌∷◌, Option, None, Some, refl, sym, ap, ◌∙◌, subst, arith}
use Rattle.std.specs.Prelude.{nat_eq, if◌then◌else◌, slice_get, IsTrue, option_map}
use Rattle.std.specs.List.{flat_map, list_all}
use Rattle.std.specs.Str.{bytes_eq}
use Rattle.std.proofs.lemmas.Bool.{and_parts, eqb-true, ltb-true}
use Rattle.std.proofs.lemmas.Option.{slice_get-map}
use Rattle.std.proofs.lemmas.List.{length-map}
use Rattle.term_core.specs.declared.value.Value.{Value}
use Rattle.term_core.specs.Values.{same_value}
use Rattle.murphi_typed.specs.declared.types.AnyType.{AnyType}
use Rattle.murphi_typed.specs.declared.types.Kind.{Kind}
use Rattle.murphi_typed.specs.declared.expr.Root.TheVariants as root
use Rattle.murphi_typed.specs.declared.stmt.Stmt.{Stmt}
use Rattle.murphi_typed.specs.declared.protocol.Parameter.{Parameter}
use Rattle.murphi_typed.specs.declared.protocol.Variable.{Variable}
use Rattle.murphi_typed.specs.declared.protocol.Typed.{Typed}
use Rattle.murphi_typed.specs.Values.{may_hold}
use Rattle.murphi_typed.specs.Families.{ways, path_of, axes_of, choices, Cell, cells_on, cells_from, cells, leaf_at}
use Rattle.murphi_typed.specs.Store.{Global, Local, Formal, same_owner, Cells, blank}
use Rattle.murphi_typed.specs.Outcome.{Got, given}
use Rattle.murphi_typed.specs.Expressions.{whole}
use Rattle.murphi_typed.specs.Execution.{cells_after, run}
use Rattle.murphi_typed.specs.Steps.{State, same_list, is_cell, listed, cells_of, value_in, state_of, outermost, calls_in, state_after, guarded, Starts, Steps, IsRun, IsReached}
use Rattle.murphi_typed.specs.WellTyped.{is_type, variable_type, are_variables, are_parameter_types, top_scope, stmt_fits, guard_fits, rule_fits, start_fits, routines_fit, formula_fits, is_well_typed}
use Rattle.murphi_typed.specs.Keeping.{Declared, AreKept, IsState, SceneFits}
unfoldable pub use Rattle.murphi_typed.specs.Keeping.{top_types}
use Rattle.murphi_typed.proofs.TestLemmas.{owners_true, names_true, lists_true}
use Rattle.murphi_typed.proofs.LeafLemmas.{some_same, not_some}
use Rattle.murphi_typed.proofs.KeepLemmas.{IfGot, if_given, if_after}
use Rattle.murphi_typed.proofs.InnerLemmas.{IsShallow, HasGlobals}
use Rattle.murphi_typed.proofs.BodyLemmas.{EndingKept, run_kept}
use Rattle.murphi_typed.proofs.RoutineLemmas.{routines_kept}
use Rattle.murphi_typed.proofs.ListedLemmas.{Each, each_append, each_map, each_flat, each_all, each_other, each_at, Leads, ways_lead}

-- a cell is one of a global, and leads to its simple type
abbrev pub IsFine : List Variable → Cell → Type 0
IsFine globals c = (type : AnyType) × (variable_type (slice_get globals c.global) ≡ Some type) × (leaf_at type (path_of c.way.steps) ≡ Some c.way.leaf)

cells_fine : (N : ℕ) (kinds : List Kind) (all : List Variable) (first : ℕ) (vs : List Variable) → are_variables kinds vs ≡ true → ((j : ℕ) → slice_get all (first + j) ≡ slice_get vs j) → Each (IsFine all) (cells_from N first vs)
cells_fine N kinds all first [] fine there = tt
cells_fine N kinds all first (v ∷ vs) fine there =
    let (one, rest) = and_parts (is_type kinds v.of) (are_variables kinds vs) fine in
    let here : slice_get all first ≡ Some v = ap (slice_get all) (omega arith) ∙ there 0 in
    each_append (IsFine all) (flat_map (cells_on N first) (ways v.of)) (cells_from N (suc first) vs)
    (each_flat (IsFine all) (cells_on N first) (ways v.of) (each_other (Leads v.of) (λ way. Each (IsFine all) (cells_on N first way)) (ways v.of) (λ way leads. each_map (IsFine all) (λ at. record { global = first; way = way; at = at }) (choices N (axes_of way.steps)) (each_all _ (choices N (axes_of way.steps)) (λ at. (v.of, ap variable_type here, leads)))) (ways_lead kinds v.of one)))
    (cells_fine N kinds all (suc first) vs rest (λ j. ap (slice_get all) (omega arith) ∙ there (suc j)))

pub all_fine : (N : ℕ) (T : Typed) → are_variables T.kinds T.globals ≡ true → Each (IsFine T.globals) (cells N T)
all_fine N T fine = cells_fine N T.kinds T.globals 0 T.globals fine (λ j. ap (slice_get T.globals) (omega arith))

-- the values of a state are within the types of the cells
pub listed_kept : (N : ℕ) (globals : List Variable) (types : Declared) → HasGlobals types globals → (cs : List Cell) (vs : State) → Each (IsFine globals) cs → ((k : ℕ) (c : Cell) (v : Value) → slice_get cs k ≡ Some c → slice_get vs k ≡ Some v → may_hold N c.way.leaf v ≡ true) → AreKept N types (listed cs vs)
listed_kept N globals types has [] vs fine may owner type declared path leaf leads at = refl
listed_kept N globals types has (c ∷ cs) [] fine may owner type declared path leaf leads at = refl
listed_kept N globals types has (c ∷ cs) (v ∷ vs) fine may owner type declared path leaf leads at = go (is_cell c owner path at) refl (listed_kept N globals types has cs vs fine.1 (λ k. may (suc k)) owner type declared path leaf leads at)
  where
    go : (b : Bool) → is_cell c owner path at ≡ b → may_hold N leaf (listed cs vs owner path at) ≡ true → may_hold N leaf (if b then v else listed cs vs owner path at) ≡ true
    go false was more = more
    go true was more =
        let (o, rest) = and_parts (same_owner (Global c.global) owner) (same_list bytes_eq (path_of c.way.steps) path && same_list same_value c.at at) was in
        let (p, a) = and_parts (same_list bytes_eq (path_of c.way.steps) path) (same_list same_value c.at at) rest in
        let (type', there, leads') = fine.0 in
        let one : type' ≡ type = some_same (sym there ∙ sym (has c.global) ∙ ap types (owners_true (Global c.global) owner o) ∙ declared) in
        let same : c.way.leaf ≡ leaf = some_same (sym leads' ∙ ap (leaf_at type') (lists_true bytes_eq names_true (path_of c.way.steps) path p) ∙ ap (λ u. leaf_at u path) one ∙ leads) in
        ap (λ s. may_hold N s v) (sym same) ∙ may 0 c v refl refl

pub blank_kept : (N : ℕ) (types : Declared) → AreKept N types blank
blank_kept N types owner type declared path leaf leads at = refl

pub top_has : (T : Typed) (locals : List Variable) → HasGlobals (top_types T locals) T.globals
unfolding top_types
top_has T locals k = refl

pub top_shallow : (T : Typed) (locals : List Variable) → IsShallow (top_types T locals) 0
unfolding top_types
top_shallow T locals of k deep = (go (nat_eq of 0) refl, refl)
  where
    go : (b : Bool) → nat_eq of 0 ≡ b → (if b then variable_type (slice_get locals k) else None) ≡ None
    go false was = refl
    go true was =
        let same : of ≡ 0 = eqb-true of 0 was in
        let more : 0 < of = ltb-true 0 of deep in
        absurd (omega arith)

pub top_fits : (N : ℕ) (T : Typed) (locals : List Variable) (params : List Parameter) (p : List Value) → SceneFits (top_types T locals) (top_scope T locals params) (outermost N p)
unfolding top_types
top_fits N T locals params p (root.Global k) U e = (whole (Global k), refl, (U, e, λ path. refl))
top_fits N T locals params p (root.Local k) U e = (whole (Local 0 k), refl, (U, e, λ path. refl))
top_fits N T locals params p (root.Formal k) U e = absurd (not_some e)
top_fits N T locals params p (root.Place k) U e = absurd (not_some e)

-- the state that cells within their types make up
state_is : (N : ℕ) (T : Typed) (locals : List Variable) (now : Cells) → are_variables T.kinds T.globals ≡ true → AreKept N (top_types T locals) now → IsState N T (state_of N T now)
unfolding top_types
state_is N T locals now fine kept = record { count = length-map (cells N T) (value_in now); values = each }
  where
    each : (k : ℕ) (c : Cell) (v : Value) → slice_get (cells N T) k ≡ Some c → slice_get (state_of N T now) k ≡ Some v → IsTrue (may_hold N c.way.leaf v)
    each k c v here there =
        let value_is : value_in now c ≡ v = some_same (sym (slice_get-map (value_in now) (cells N T) k ∙ ap (option_map (value_in now)) here) ∙ there) in
        let (type, declared, leads) = each_at (IsFine T.globals) (cells N T) k c (all_fine N T fine) here in
        ap (may_hold N c.way.leaf) (sym value_is) ∙ kept (Global c.global) type declared (path_of c.way.steps) c.way.leaf leads c.at

pub all_at : {A : Type 0} (test : A → Bool) (xs : List A) (k : ℕ) (x : A) → list_all test xs ≡ true → slice_get xs k ≡ Some x → test x ≡ true
all_at test [] k x e there = absurd (not_some there)
all_at test (y ∷ xs) zero x e there = let (first, rest) = and_parts (test y) (list_all test xs) e in ap test (sym (some_same there)) ∙ first
all_at test (y ∷ xs) (suc k) x e there = let (first, rest) = and_parts (test y) (list_all test xs) e in all_at test xs k x rest there

body_state : (N : ℕ) (T : Typed) (locals : List Variable) (params : List Parameter) (p : List Value) (now : Cells) (body : Stmt) → are_variables T.kinds T.globals ≡ true → routines_fit T [] T.routines ≡ true → AreKept N (top_types T locals) now → stmt_fits (top_scope T locals params) body ≡ true → IfGot (IsState N T) (state_after N T (run (calls_in T) (outermost N p) now body))
body_state N T locals params p now body fine routines kept fits = if_given (EndingKept N (top_types T locals)) (IsState N T) (run (calls_in T) (outermost N p) now body) (λ ending. Got (state_of N T (cells_after ending)))
    (run_kept (top_types T locals) (calls_in T) (top_scope T locals params) (outermost N p) now body (top_fits N T locals params p) (top_shallow T locals) (top_has T locals) (routines_kept T routines) kept fits)
    (λ ending after. state_is N T locals (cells_after ending) fine after)

pub start_is_state : (N : ℕ) (T : Typed) (k : ℕ) (p : List Value) (t : State) → IsTrue (is_well_typed T) → Starts N T k p t → IsState N T t
start_is_state N T k p t well starts =
    let (globals, a) = and_parts (are_variables T.kinds T.globals) (routines_fit T [] T.routines && (list_all (start_fits T) T.starts && (list_all (rule_fits T) T.rules && list_all (formula_fits T) T.invariants))) well in
    let (routines, b) = and_parts (routines_fit T [] T.routines) (list_all (start_fits T) T.starts && (list_all (rule_fits T) T.rules && list_all (formula_fits T) T.invariants)) a in
    let (of_starts, c) = and_parts (list_all (start_fits T) T.starts) (list_all (rule_fits T) T.rules && list_all (formula_fits T) T.invariants) b in
    let (params, rest) = and_parts (are_parameter_types T.kinds starts.start.params) (are_variables T.kinds starts.start.locals && stmt_fits (top_scope T starts.start.locals starts.start.params) starts.start.body) (all_at (start_fits T) T.starts k starts.start of_starts starts.found) in
    let (locals, body) = and_parts (are_variables T.kinds starts.start.locals) (stmt_fits (top_scope T starts.start.locals starts.start.params) starts.start.body) rest in
    subst (IfGot (IsState N T)) starts.leaves (body_state N T starts.start.locals starts.start.params p blank starts.start.body globals routines (blank_kept N (top_types T starts.start.locals)) body)

-- the state after a firing, if the rule is enabled
abbrev pub NextIs : ℕ → Typed → Option State → Type 0
NextIs N T None = Unit {0}
NextIs N T (Some t) = IsState N T t

pub step_is_state : (N : ℕ) (T : Typed) (s : State) (k : ℕ) (p : List Value) (t : State) → IsTrue (is_well_typed T) → IsState N T s → Steps N T s k p t → IsState N T t
step_is_state N T s k p t well is steps =
    let (globals, a) = and_parts (are_variables T.kinds T.globals) (routines_fit T [] T.routines && (list_all (start_fits T) T.starts && (list_all (rule_fits T) T.rules && list_all (formula_fits T) T.invariants))) well in
    let (routines, b) = and_parts (routines_fit T [] T.routines) (list_all (start_fits T) T.starts && (list_all (rule_fits T) T.rules && list_all (formula_fits T) T.invariants)) a in
    let (of_starts, c) = and_parts (list_all (start_fits T) T.starts) (list_all (rule_fits T) T.rules && list_all (formula_fits T) T.invariants) b in
    let (of_rules, invariants) = and_parts (list_all (rule_fits T) T.rules) (list_all (formula_fits T) T.invariants) c in
    let (params, rest) = and_parts (are_parameter_types T.kinds steps.rule.params) (are_variables T.kinds steps.rule.locals && (guard_fits (top_scope T steps.rule.locals steps.rule.params) steps.rule.guard && stmt_fits (top_scope T steps.rule.locals steps.rule.params) steps.rule.body)) (all_at (rule_fits T) T.rules k steps.rule of_rules steps.found) in
    let (locals, more) = and_parts (are_variables T.kinds steps.rule.locals) (guard_fits (top_scope T steps.rule.locals steps.rule.params) steps.rule.guard && stmt_fits (top_scope T steps.rule.locals steps.rule.params) steps.rule.body) rest in
    let (guard, body) = and_parts (guard_fits (top_scope T steps.rule.locals steps.rule.params) steps.rule.guard) (stmt_fits (top_scope T steps.rule.locals steps.rule.params) steps.rule.body) more in
    let now : AreKept N (top_types T steps.rule.locals) (cells_of N T s) = listed_kept N T.globals (top_types T steps.rule.locals) (top_has T steps.rule.locals) (cells N T) s (all_fine N T globals) is.values in
    subst (IfGot (NextIs N T)) steps.leaves (if_after (NextIs N T) (guarded N T steps.rule.guard p s) _ (λ enabled. go enabled (body_state N T steps.rule.locals steps.rule.params p (cells_of N T s) steps.rule.body globals routines now body)))
  where
    go : (b : Bool) → IfGot (IsState N T) (state_after N T (run (calls_in T) (outermost N p) (cells_of N T s) steps.rule.body)) → IfGot (NextIs N T) (if b then given (state_after N T (run (calls_in T) (outermost N p) (cells_of N T s) steps.rule.body)) (λ next. Got (Some next)) else Got None)
    go false is_next = tt
    go true is_next = if_given (IsState N T) (NextIs N T) (state_after N T (run (calls_in T) (outermost N p) (cells_of N T s) steps.rule.body)) (λ next. Got (Some next)) is_next (λ next after. after)

run_is_state : (N : ℕ) (T : Typed) (s : State) (earlier : List State) → IsTrue (is_well_typed T) → IsRun N T (s ∷ earlier) → IsState N T s
run_is_state N T s [] well (k, p, starts) = start_is_state N T k p s well starts
run_is_state N T t (s ∷ earlier) well (last, before) =
    let (k, p, steps) = last in
    step_is_state N T s k p t well (run_is_state N T s earlier well before) steps

pub reached_is_state : (N : ℕ) (T : Typed) (s : State) → IsTrue (is_well_typed T) → IsReached N T s → IsState N T s
reached_is_state N T s well (earlier, runs) = run_is_state N T s earlier well runs

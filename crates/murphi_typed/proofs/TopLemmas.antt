-- Guards and formulas of a well-typed protocol have values of their types in every state.
use Rattle.std.proofs.Common.{◌≡◌, ℕ, zero, suc, Bool, true, false, ◌&&◌, List, [], ◌∷◌, ◌++◌, map, reverse, length, Option, None, Some, refl, sym, ap, ◌∙◌, subst}
use Rattle.std.specs.Prelude.{nat_eq, if◌then◌else◌, slice_get, IsTrue}
use Rattle.std.specs.List.{list_all}
use Rattle.std.specs.Option.{option_map_or}
use Rattle.std.proofs.lemmas.Bool.{and_parts, eqb-true, eqb-false}
use Rattle.std.proofs.lemmas.List.{reverse-reverse, length-reverse}
use Rattle.term_core.specs.declared.value.Value.{Value}
use Rattle.murphi_ast.specs.declared.token.Span.{Span}
use Rattle.murphi_typed.specs.declared.types.Simple.{Simple}
use Rattle.murphi_typed.specs.declared.types.AnyType.{AnyType}
use Rattle.murphi_typed.specs.declared.types.Kind.{Kind}
use Rattle.murphi_typed.specs.declared.expr.Root.TheVariants as root
use Rattle.murphi_typed.specs.declared.expr.Expr.{Expr}
use Rattle.murphi_typed.specs.declared.protocol.Formal.{Formal as DeclaredFormal}
use Rattle.murphi_typed.specs.declared.protocol.Parameter.{Parameter}
use Rattle.murphi_typed.specs.declared.protocol.Routine.{Routine}
use Rattle.murphi_typed.specs.declared.protocol.Variable.{Variable}
use Rattle.murphi_typed.specs.declared.protocol.Typed.{Typed}
use Rattle.murphi_typed.specs.Values.{is_value}
use Rattle.murphi_typed.specs.Families.{cells}
use Rattle.murphi_typed.specs.Store.{Cells}
use Rattle.murphi_typed.specs.Outcome.{Outcome, Got, Fault, given}
use Rattle.murphi_typed.specs.Expressions.{Given, Scene, Left, Calls, value_of}
use Rattle.murphi_typed.specs.Execution.{Ending, Next, Returned, run, formals_fit, entered, called_scene, ended, call_of, calls_of}
use Rattle.murphi_typed.specs.Steps.{State, cells_of, are_parameters, outermost, calls_in}
use Rattle.murphi_typed.specs.WellTyped.{is_type, is_simple_type, formal_allowed, variable_type, are_variables, are_parameter_types, stmt_fits, routine_scope, routine_fits, routines_fit, start_fits, rule_fits, formula_fits, is_well_typed, top_scope, type_of}
use Rattle.murphi_typed.specs.Keeping.{AreKept, IsState, RootsFine, ResultsFit}
use Rattle.murphi_typed.proofs.LeafLemmas.{some_same, not_some}
use Rattle.murphi_typed.proofs.KeepLemmas.{IfGot, if_after}
use Rattle.murphi_typed.proofs.RoutineLemmas.{get_last, get_before, reversed}
use Rattle.murphi_typed.proofs.StepLemmas.{all_at, all_fine, listed_kept, top_types, top_has, top_fits}
use Rattle.murphi_typed.proofs.ExpressionLemmas.{value_typed, got_facts}

pub variable_fine : (kinds : List Kind) (vs : List Variable) (k : ℕ) (U : AnyType) → are_variables kinds vs ≡ true → variable_type (slice_get vs k) ≡ Some U → is_type kinds U ≡ true
variable_fine kinds vs k U fine e = go (slice_get vs k) refl e
  where
    go : (o : Option Variable) → slice_get vs k ≡ o → variable_type o ≡ Some U → is_type kinds U ≡ true
    go None was e = absurd (not_some e)
    go (Some v) was e = ap (is_type kinds) (sym (some_same e)) ∙ all_at (λ (w : Variable). is_type kinds w.of) vs k v fine was

pub roots_fine : (T : Typed) (locals : List Variable) (params : List Parameter) → are_variables T.kinds T.globals ≡ true → are_variables T.kinds locals ≡ true → RootsFine (top_scope T locals params)
roots_fine T locals params globals fine (root.Global k) U e = variable_fine T.kinds T.globals k U globals e
roots_fine T locals params globals fine (root.Local k) U e = variable_fine T.kinds locals k U fine e
roots_fine T locals params globals fine (root.Formal k) U e = absurd (not_some e)
roots_fine T locals params globals fine (root.Place k) U e = absurd (not_some e)

pub parameters_fit : (N : ℕ) (kinds : List Kind) (params : List Parameter) (p : List Value) → are_parameter_types kinds params ≡ true → are_parameters N params p ≡ true → (k : ℕ) (s : Simple) (v : Value) → slice_get (map (λ (q : Parameter). q.over) params) k ≡ Some s → slice_get p k ≡ Some v → (is_value N s v ≡ true) × (is_simple_type kinds s ≡ true)
parameters_fit N kinds [] p types values k s v here there = absurd (not_some here)
parameters_fit N kinds (q ∷ qs) [] types values k s v here there = absurd (not_some there)
parameters_fit N kinds (q ∷ qs) (w ∷ ws) types values zero s v here there =
    let (fine, rest) = and_parts (is_simple_type kinds q.over) (are_parameter_types kinds qs) types in
    let (is, others) = and_parts (is_value N q.over w) (are_parameters N qs ws) values in
    (ap (λ u. is_value N u v) (sym (some_same here)) ∙ ap (is_value N q.over) (sym (some_same there)) ∙ is, ap (is_simple_type kinds) (sym (some_same here)) ∙ fine)
parameters_fit N kinds (q ∷ qs) (w ∷ ws) types values (suc k) s v here there =
    let (fine, rest) = and_parts (is_simple_type kinds q.over) (are_parameter_types kinds qs) types in
    let (is, others) = and_parts (is_value N q.over w) (are_parameters N qs ws) values in
    parameters_fit N kinds qs ws rest others k s v here there

-- the result of a function
abbrev pub Resulting : ℕ → Simple → Left → Type 0
Resulting N s left = (v : Value) → left.result ≡ Some v → is_value N s v ≡ true

ended_valued : (s : Simple) (scene : Scene) (at : Span) (ending : Ending) → IfGot (Resulting scene.nodes s) (ended (Some s) scene at ending)
ended_valued s scene at (Next cells) = tt
ended_valued s scene at (Returned cells None) = tt
ended_valued s scene at (Returned cells (Some v)) = go (is_value scene.nodes s v) refl
  where
    go : (b : Bool) → is_value scene.nodes s v ≡ b → IfGot (Resulting scene.nodes s) (if b then Got (record { cells = cells; result = Some v }) else Fault at)
    go true was = λ w same. ap (is_value scene.nodes s) (sym (some_same same)) ∙ was
    go false was = tt

call_valued : (calls : Calls) (r : Routine) (s : Simple) → r.result ≡ Some s → (scene : Scene) (at : Span) (gs : List Given) (cells : Cells) → IfGot (Resulting scene.nodes s) (call_of calls r scene at gs cells)
call_valued calls r s is scene at gs cells = go (formals_fit scene.nodes r.formals gs)
  where
    go : (b : Bool) → IfGot (Resulting scene.nodes s) (if b then given (run calls (called_scene scene gs) (entered (suc scene.depth) gs cells) r.body) (ended r.result scene at) else Fault at)
    go true = if_after (Resulting scene.nodes s) (run calls (called_scene scene gs) (entered (suc scene.depth) gs cells) r.body) (ended r.result scene at) (λ ending. subst (λ o. IfGot (Resulting scene.nodes s) (ended o scene at ending)) (sym is) (ended_valued s scene at ending))
    go false = tt

pub latest_valued : (latest : List Routine) (k : ℕ) (r : Routine) (s : Simple) → slice_get (reverse latest) k ≡ Some r → r.result ≡ Some s → (scene : Scene) (at : Span) (gs : List Given) (cells : Cells) → IfGot (Resulting scene.nodes s) (calls_of latest k scene at gs cells)
latest_valued [] k r s found is scene at gs cells = tt
latest_valued (l ∷ earlier) k r s found is scene at gs cells =
    go (nat_eq k (length earlier)) refl (subst (λ rs. slice_get rs k ≡ Some r) (reversed l earlier) found) (λ there. latest_valued earlier k r s there is scene at gs cells)
  where
    go : (b : Bool) → nat_eq k (length earlier) ≡ b → slice_get (reverse earlier ++ l ∷ []) k ≡ Some r → (slice_get (reverse earlier) k ≡ Some r → IfGot (Resulting scene.nodes s) (calls_of earlier k scene at gs cells)) → IfGot (Resulting scene.nodes s) (if b then call_of (calls_of earlier) l scene at gs cells else calls_of earlier k scene at gs cells)
    go true was there more =
        let same : l ≡ r = get_last (reverse earlier) l r k there (eqb-true k (length earlier) was ∙ sym (length-reverse earlier)) in
        call_valued (calls_of earlier) l s (ap (λ (q : Routine). q.result) same ∙ is) scene at gs cells
    go false was there more = more (get_before (reverse earlier) l r k there (λ same. eqb-false k (length earlier) was (same ∙ length-reverse earlier)))

result_fine : (T : Typed) (before rs : List Routine) (k : ℕ) (r : Routine) (s : Simple) → routines_fit T before rs ≡ true → slice_get rs k ≡ Some r → r.result ≡ Some s → is_simple_type T.kinds s ≡ true
result_fine T before [] k r s fit found is = absurd (not_some found)
result_fine T before (l ∷ rs) zero r s fit found is =
    let (one, rest) = and_parts (routine_fits T before l) (routines_fit T (before ++ l ∷ []) rs) fit in
    let (formals, more) = and_parts (list_all (λ (f : DeclaredFormal). is_type T.kinds f.of && formal_allowed l.result f) l.formals) (option_map_or (is_simple_type T.kinds) l.result true && (are_variables T.kinds l.locals && stmt_fits (routine_scope T before l) l.body)) one in
    let (result, others) = and_parts (option_map_or (is_simple_type T.kinds) l.result true) (are_variables T.kinds l.locals && stmt_fits (routine_scope T before l) l.body) more in
    sym (ap (λ o. option_map_or (is_simple_type T.kinds) o true) (ap (λ (q : Routine). q.result) (some_same found) ∙ is)) ∙ result
result_fine T before (l ∷ rs) (suc k) r s fit found is =
    let (one, rest) = and_parts (routine_fits T before l) (routines_fit T (before ++ l ∷ []) rs) fit in
    result_fine T (before ++ l ∷ []) rs k r s rest found is

pub resulting_facts : (N : ℕ) (s : Simple) (o : Outcome Left) (left : Left) (v : Value) → IfGot (Resulting N s) o → o ≡ Got left → left.result ≡ Some v → is_value N s v ≡ true
resulting_facts N s o left v fact is has = subst (λ p. IfGot (Resulting N s) p) is fact v has

pub top_valued : (N : ℕ) (T : Typed) (state : State) (locals : List Variable) (params : List Parameter) (p : List Value) (at : Span) (e : Expr) (type : Simple) (v : Value) → IsTrue (is_well_typed T) → IsState N T state → are_variables T.kinds locals ≡ true → are_parameter_types T.kinds params ≡ true → are_parameters N params p ≡ true → type_of (top_scope T locals params) e ≡ Some type → value_of (calls_in T) (outermost N p) at (cells_of N T state) e ≡ Got v → is_value N type v ≡ true
top_valued N T state locals params p at e type v well is fine param_types param_values typed got =
    let (globals, a) = and_parts (are_variables T.kinds T.globals) (routines_fit T [] T.routines && (list_all (start_fits T) T.starts && (list_all (rule_fits T) T.rules && list_all (formula_fits T) T.invariants))) well in
    let (routines, b) = and_parts (routines_fit T [] T.routines) (list_all (start_fits T) T.starts && (list_all (rule_fits T) T.rules && list_all (formula_fits T) T.invariants)) a in
    let kept : AreKept N (top_types T locals) (cells_of N T state) = listed_kept N T.globals (top_types T locals) (top_has T locals) (cells N T) state (all_fine N T globals) is.values in
    let results : ResultsFit (top_scope T locals params) (calls_in T) = λ k r s found has. (result_fine T [] T.routines k r s routines found has, λ scene at gs cells left v calls_got result. resulting_facts scene.nodes s (calls_in T k scene at gs cells) left v (latest_valued (reverse T.routines) k r s (subst (λ rs. slice_get rs k ≡ Some r) (sym (reverse-reverse T.routines)) found) has scene at gs cells) calls_got result) in
    got_facts N type (value_of (calls_in T) (outermost N p) at (cells_of N T state) e) v (value_typed (top_types T locals) (calls_in T) (top_scope T locals params) (outermost N p) at (cells_of N T state) (top_fits N T locals params p) (roots_fine T locals params globals fine) (parameters_fit N T.kinds params p param_types param_values) results kept e type typed) got

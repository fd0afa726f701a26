-- Bodies that keep to their types, as one fact.
use Rattle.std.proofs.Common.{◌≡◌, ℕ, zero, suc, Bool, true, false, ◌&&◌, List, [], ◌∷◌, ◌++◌, map, reverse, length, Option, None, Some, refl, sym, ap, ◌∙◌, subst}
use Rattle.std.specs.Prelude.{slice_get, IsTrue, nat_eq, if◌then◌else◌}
use Rattle.std.specs.List.{list_all}
use Rattle.std.specs.Option.{option_map_or}
use Rattle.std.proofs.lemmas.Bool.{and_parts, eqb-true, eqb-false}
use Rattle.std.proofs.lemmas.List.{reverse-reverse, length-reverse}
use Rattle.term_core.specs.declared.value.Value.{Value}
use Rattle.murphi_ast.specs.declared.token.Span.{Span}
use Rattle.murphi_typed.specs.declared.types.Simple.{Simple}
use Rattle.murphi_typed.specs.declared.types.AnyType.{AnyType}
use Rattle.murphi_typed.specs.declared.types.Kind.{Kind}
use Rattle.murphi_typed.specs.declared.expr.Root.TheVariants as root
use Rattle.murphi_typed.specs.declared.expr.Arguments.{Arguments}
use Rattle.murphi_typed.specs.declared.stmt.Stmt.{Stmt}
use Rattle.murphi_typed.specs.declared.protocol.Formal.{Formal as DeclaredFormal}
use Rattle.murphi_typed.specs.declared.protocol.Parameter.{Parameter}
use Rattle.murphi_typed.specs.declared.protocol.Routine.{Routine}
use Rattle.murphi_typed.specs.declared.protocol.Variable.{Variable}
use Rattle.murphi_typed.specs.declared.protocol.Typed.{Typed}
use Rattle.murphi_typed.specs.Families.{cells}
use Rattle.murphi_typed.specs.Store.{Cells, blank}
use Rattle.murphi_typed.specs.Outcome.{Outcome, Got, Fault}
use Rattle.murphi_typed.specs.Expressions.{Given, Scene, Left, Calls, arguments_of}
use Rattle.murphi_typed.specs.Execution.{Ending, cells_after, run, formals_fit, entered, called_scene, calls_of}
use Rattle.murphi_typed.specs.Steps.{State, cells_of, are_parameters, outermost}
use Rattle.murphi_typed.specs.WellTyped.{Scope, is_type, is_simple_type, formal_allowed, formal_type, arguments_fit, are_variables, are_parameter_types, stmt_fits, routine_scope, routine_fits, routines_fit, start_fits, rule_fits, formula_fits, is_well_typed, top_scope}
use Rattle.murphi_typed.specs.Keeping.{Declared, AreKept, IsState, SceneFits, RootsFine, BoundFits, ResultsFit, HasGlobals, inner_types, LatestFit, top_types, IsTypedBody}
use Rattle.murphi_typed.proofs.LeafLemmas.{not_some, some_same}
use Rattle.murphi_typed.proofs.KeepLemmas.{IfGot}
use Rattle.murphi_typed.proofs.EntryLemmas.{GivenFit, arguments_given}
use Rattle.murphi_typed.proofs.InnerLemmas.{inner_shallow, entered_kept, inner_fits}
use Rattle.murphi_typed.proofs.BodyLemmas.{EndingKept, CallsKeep, run_kept}
use Rattle.murphi_typed.proofs.RoutineLemmas.{get_last, get_before, reversed, latest_kept, latest_fit}
use Rattle.murphi_typed.proofs.StepLemmas.{all_at, all_fine, listed_kept, blank_kept, top_has, top_shallow, top_fits}
use Rattle.murphi_typed.proofs.TopLemmas.{variable_fine, roots_fine, parameters_fit, latest_valued, resulting_facts}

got_fact : {A : Type 0} (P : A → Type 0) (o : Outcome A) (a : A) → IfGot P o → o ≡ Got a → P a
got_fact P o a fact is = subst (IfGot P) is fact

pub body_keeps : (T : Typed) (latest : List Routine) (types : Declared) (scope : Scope) (scene : Scene) (now : Cells) (body : Stmt) (ending : Ending) → IsTypedBody T latest types scope scene now → stmt_fits scope body ≡ true → run (calls_of latest) scene now body ≡ Got ending → AreKept scene.nodes types (cells_after ending)
body_keeps T latest types scope scene now body ending typed fits is =
    got_fact (EndingKept scene.nodes types) (run (calls_of latest) scene now body) ending
    (run_kept types (calls_of latest) scope scene now body typed.fits typed.shallow (subst (HasGlobals types) (sym typed.globals) typed.declared)
    (subst (λ gs. CallsKeep gs scope.routines (calls_of latest)) (sym typed.globals) (subst (λ rs. CallsKeep T.globals rs (calls_of latest)) (sym typed.routines) (latest_kept T latest typed.known))) typed.kept fits) is

-- the result type of a routine that fits
result_simple : (T : Typed) (earlier : List Routine) (r : Routine) (s : Simple) → routine_fits T earlier r ≡ true → r.result ≡ Some s → is_simple_type T.kinds s ≡ true
result_simple T earlier r s fit is =
    let (formals, more) = and_parts (list_all (λ (f : DeclaredFormal). is_type T.kinds f.of && formal_allowed r.result f) r.formals) (option_map_or (is_simple_type T.kinds) r.result true && (are_variables T.kinds r.locals && stmt_fits (routine_scope T earlier r) r.body)) fit in
    let (result, others) = and_parts (option_map_or (is_simple_type T.kinds) r.result true) (are_variables T.kinds r.locals && stmt_fits (routine_scope T earlier r) r.body) more in
    sym (ap (λ o. option_map_or (is_simple_type T.kinds) o true) is) ∙ result

latest_result : (T : Typed) (latest : List Routine) (k : ℕ) (r : Routine) (s : Simple) → LatestFit T latest → slice_get (reverse latest) k ≡ Some r → r.result ≡ Some s → is_simple_type T.kinds s ≡ true
latest_result T [] k r s fit found is = absurd (not_some found)
latest_result T (l ∷ earlier) k r s fit found is = go (nat_eq k (length earlier)) refl (subst (λ rs. slice_get rs k ≡ Some r) (reversed l earlier) found) (λ there. latest_result T earlier k r s fit.1 there is)
  where
    go : (b : Bool) → nat_eq k (length earlier) ≡ b → slice_get (reverse earlier ++ l ∷ []) k ≡ Some r → (slice_get (reverse earlier) k ≡ Some r → is_simple_type T.kinds s ≡ true) → is_simple_type T.kinds s ≡ true
    go true was there more =
        let same : l ≡ r = get_last (reverse earlier) l r k there (eqb-true k (length earlier) was ∙ sym (length-reverse earlier)) in
        result_simple T (reverse earlier) l s fit.0 (ap (λ (q : Routine). q.result) same ∙ is)
    go false was there more = more (get_before (reverse earlier) l r k there (λ same. eqb-false k (length earlier) was (same ∙ length-reverse earlier)))

pub results_given : (T : Typed) (latest : List Routine) (types : Declared) (scope : Scope) (scene : Scene) (now : Cells) → IsTypedBody T latest types scope scene now → ResultsFit scope (calls_of latest)
results_given T latest types scope scene now typed k r s found is =
    let there : slice_get (reverse latest) k ≡ Some r = ap (λ rs. slice_get rs k) (sym typed.routines) ∙ found in (
      ap (λ kinds. is_simple_type kinds s) typed.kinds ∙ latest_result T latest k r s typed.known there is,
      λ other at gs cells left v got result. resulting_facts other.nodes s (calls_of latest k other at gs cells) left v (latest_valued latest k r s there is other at gs cells) got result,
    )

formal_fine : (kinds : List Kind) (result : Option Simple) (fs : List DeclaredFormal) (k : ℕ) (f : DeclaredFormal) → list_all (λ (f : DeclaredFormal). is_type kinds f.of && formal_allowed result f) fs ≡ true → slice_get fs k ≡ Some f → is_type kinds f.of ≡ true
formal_fine kinds result fs k f fine found =
    let (is, allowed) = and_parts (is_type kinds f.of) (formal_allowed result f) (all_at (λ (f : DeclaredFormal). is_type kinds f.of && formal_allowed result f) fs k f fine found) in is

formal_found : (by_place : Bool) (o : Option DeclaredFormal) (U : AnyType) → formal_type by_place o ≡ Some U → (f : DeclaredFormal) × (o ≡ Some f) × (f.of ≡ U)
formal_found by_place None U e = absurd (not_some e)
formal_found true (Some f) U e = go f.by_place e
  where
    go : (b : Bool) → (if b then Some f.of else None) ≡ Some U → (g : DeclaredFormal) × (Some f ≡ Some g) × (g.of ≡ U)
    go true e = (f, refl, some_same e)
    go false e = absurd (not_some e)
formal_found false (Some f) U e = go f.by_place e
  where
    go : (b : Bool) → (if b then None else Some f.of) ≡ Some U → (g : DeclaredFormal) × (Some f ≡ Some g) × (g.of ≡ U)
    go true e = absurd (not_some e)
    go false e = (f, refl, some_same e)

routine_fine : (T : Typed) (earlier : List Routine) (r : Routine) → are_variables T.kinds T.globals ≡ true → are_variables T.kinds r.locals ≡ true → list_all (λ (f : DeclaredFormal). is_type T.kinds f.of && formal_allowed r.result f) r.formals ≡ true → RootsFine (routine_scope T earlier r)
routine_fine T earlier r globals locals formals (root.Global k) U e = variable_fine T.kinds T.globals k U globals e
routine_fine T earlier r globals locals formals (root.Local k) U e = variable_fine T.kinds r.locals k U locals e
routine_fine T earlier r globals locals formals (root.Formal k) U e = let (f, found, is) = formal_found false (slice_get r.formals k) U e in ap (is_type T.kinds) (sym is) ∙ formal_fine T.kinds r.result r.formals k f formals found
routine_fine T earlier r globals locals formals (root.Place k) U e = let (f, found, is) = formal_found true (slice_get r.formals k) U e in ap (is_type T.kinds) (sym is) ∙ formal_fine T.kinds r.result r.formals k f formals found

pub called_typed : (T : Typed) (latest earlier : List Routine) (r : Routine) (types : Declared) (scope : Scope) (scene : Scene) (now : Cells) (calls : Calls) (at : Span) (args : Arguments) (gs : List Given) → are_variables T.kinds T.globals ≡ true → IsTypedBody T latest types scope scene now → routine_fits T (reverse earlier) r ≡ true → LatestFit T earlier → arguments_fit scope r.formals args ≡ true → arguments_of calls scene at now args ≡ Got gs → formals_fit scene.nodes r.formals gs ≡ true → IsTypedBody T earlier (inner_types (suc scene.depth) r.formals r.locals types) (routine_scope T (reverse earlier) r) (called_scene scene gs) (entered (suc scene.depth) gs now)
called_typed T latest earlier r types scope scene now calls at args gs globals typed fine known fits is tested =
    let (formals, rest) = and_parts (list_all (λ (f : DeclaredFormal). is_type T.kinds f.of && formal_allowed r.result f) r.formals) (option_map_or (is_simple_type T.kinds) r.result true && (are_variables T.kinds r.locals && stmt_fits (routine_scope T (reverse earlier) r) r.body)) fine in
    let (result, more) = and_parts (option_map_or (is_simple_type T.kinds) r.result true) (are_variables T.kinds r.locals && stmt_fits (routine_scope T (reverse earlier) r) r.body) rest in
    let (locals, body) = and_parts (are_variables T.kinds r.locals) (stmt_fits (routine_scope T (reverse earlier) r) r.body) more in
    let given_fit : GivenFit scene.nodes types r.formals gs = got_fact (GivenFit scene.nodes types r.formals) (arguments_of calls scene at now args) gs (arguments_given types calls scope scene at now typed.fits typed.kept r.formals args fits) is in
    record {
      kinds = refl;
      globals = refl;
      routines = refl;
      known = known;
      fits = inner_fits types T.globals r.formals r.locals scene gs (routine_scope T (reverse earlier) r) typed.shallow typed.declared given_fit refl refl refl;
      fine = routine_fine T (reverse earlier) r globals locals formals;
      bound = λ k s v here there. absurd (not_some here);
      lengths = refl;
      shallow = inner_shallow scene.depth r.formals r.locals types typed.shallow;
      declared = λ k. typed.declared k;
      kept = entered_kept scene.nodes (suc scene.depth) r.formals r.locals types gs now given_fit tested typed.kept;
    }

parameter_lengths : (N : ℕ) (params : List Parameter) (p : List Value) → are_parameters N params p ≡ true → length (map (λ (q : Parameter). q.over) params) ≡ length p
parameter_lengths N [] [] e = refl
parameter_lengths N [] (v ∷ p) e = cc
parameter_lengths N (q ∷ params) [] e = cc
parameter_lengths N (q ∷ params) (v ∷ p) e = let (first, rest) = and_parts _ (are_parameters N params p) e in ap suc (parameter_lengths N params p rest)

top_typed : (N : ℕ) (T : Typed) (locals : List Variable) (params : List Parameter) (p : List Value) (now : Cells) → IsTrue (is_well_typed T) → are_variables T.kinds locals ≡ true → are_parameter_types T.kinds params ≡ true → are_parameters N params p ≡ true → AreKept N (top_types T locals) now → IsTypedBody T (reverse T.routines) (top_types T locals) (top_scope T locals params) (outermost N p) now
top_typed N T locals params p now well fine types values kept =
    let (globals, a) = and_parts (are_variables T.kinds T.globals) (routines_fit T [] T.routines && (list_all (start_fits T) T.starts && (list_all (rule_fits T) T.rules && list_all (formula_fits T) T.invariants))) well in
    let (routines, b) = and_parts (routines_fit T [] T.routines) (list_all (start_fits T) T.starts && (list_all (rule_fits T) T.rules && list_all (formula_fits T) T.invariants)) a in
    record {
      kinds = refl;
      globals = refl;
      routines = sym (reverse-reverse T.routines);
      known = latest_fit T [] T.routines tt routines;
      fits = top_fits N T locals params p;
      fine = roots_fine T locals params globals fine;
      bound = parameters_fit N T.kinds params p types values;
      lengths = parameter_lengths N params p values;
      shallow = top_shallow T locals;
      declared = top_has T locals;
      kept = kept;
    }

pub state_typed : (N : ℕ) (T : Typed) (locals : List Variable) (params : List Parameter) (p : List Value) (state : State) → IsTrue (is_well_typed T) → are_variables T.kinds locals ≡ true → are_parameter_types T.kinds params ≡ true → are_parameters N params p ≡ true → IsState N T state → IsTypedBody T (reverse T.routines) (top_types T locals) (top_scope T locals params) (outermost N p) (cells_of N T state)
state_typed N T locals params p state well fine types values is =
    let (globals, a) = and_parts (are_variables T.kinds T.globals) (routines_fit T [] T.routines && (list_all (start_fits T) T.starts && (list_all (rule_fits T) T.rules && list_all (formula_fits T) T.invariants))) well in
    top_typed N T locals params p (cells_of N T state) well fine types values (listed_kept N T.globals (top_types T locals) (top_has T locals) (cells N T) state (all_fine N T globals) is.values)

pub blank_typed : (N : ℕ) (T : Typed) (locals : List Variable) (params : List Parameter) (p : List Value) → IsTrue (is_well_typed T) → are_variables T.kinds locals ≡ true → are_parameter_types T.kinds params ≡ true → are_parameters N params p ≡ true → IsTypedBody T (reverse T.routines) (top_types T locals) (top_scope T locals params) (outermost N p) blank
blank_typed N T locals params p well fine types values = top_typed N T locals params p blank well fine types values (blank_kept N (top_types T locals))

-- Bodies keep every cell within its type.
use Rattle.std.proofs.Common.{◌≡◌, ℕ, Bool, true, false, not, ◌&&◌, List, [], ◌∷◌, Option, None, Some, refl, sym, ◌∙◌}
use Rattle.std.specs.Prelude.{if◌then◌else◌, slice_get, is_some}
use Rattle.std.specs.Option.{option_map_or}
use Rattle.std.proofs.lemmas.Bool.{and_parts}
use Rattle.term_core.specs.declared.value.Value.{Value}
use Rattle.term_core.specs.declared.value.Value.TheVariants as value
use Rattle.term_core.specs.Values.{truth}
use Rattle.murphi_ast.specs.declared.token.Span.{Span}
use Rattle.murphi_typed.specs.declared.types.Simple.{Simple}
use Rattle.murphi_typed.specs.declared.types.Simple.TheVariants as simple
use Rattle.murphi_typed.specs.declared.types.AnyType as t
use Rattle.murphi_typed.specs.declared.types.AnyType.{AnyType}
use Rattle.murphi_typed.specs.declared.expr.Root.TheVariants as root
use Rattle.murphi_typed.specs.declared.expr.Arguments.{Arguments}
use Rattle.murphi_typed.specs.declared.stmt.Stmt as s
use Rattle.murphi_typed.specs.declared.stmt.Stmt.{Stmt, Row_of-Stmt, end_of-Stmt, more_of-Stmt, Row_of-Arm, end_of-Arm, more_of-Arm, Row_of-Case, end_of-Case, more_of-Case}
use Rattle.murphi_typed.specs.declared.protocol.Routine.{Routine}
use Rattle.murphi_typed.specs.declared.protocol.Variable.{Variable}
use Rattle.murphi_typed.specs.Values.{may_hold, values}
use Rattle.murphi_typed.specs.Store.{Place, Cells, cell_at, contents_at, written, only}
use Rattle.murphi_typed.specs.Outcome.{Outcome, Got, Fault}
use Rattle.murphi_typed.specs.Expressions.{Given, Scene, Left, Calls, with_bound, fitting, value_of, place_of, arguments_of}
use Rattle.murphi_typed.specs.Execution.{Ending, Next, Returned, cells_after, then_on, turns, at_of, stored, with_value, cleared, is_among, run, run_all, run_arms, run_cases}
use Rattle.murphi_typed.specs.WellTyped.{Scope, binding, may_write, root_of, type_of, place_type, is_of, is_cell_of, holds_values_of, are_alike, is_compound, same_type, is_type, arguments_fit, labels_fit, is_function, is_simple_type, stmt_fits, body_fits, arms_fit, cases_fit}
use Rattle.murphi_typed.specs.Keeping.{Declared, AreKept, HasType, SceneFits}
use Rattle.murphi_typed.proofs.LeafLemmas.{same_leaf}
use Rattle.murphi_typed.proofs.KeepLemmas.{IfGot, if_given, if_after, place_has, written_kept, contents_hold, only_holds, undefined_holds, cell_type}
use Rattle.murphi_typed.proofs.ClearLemmas.{cleared_holds}
use Rattle.murphi_typed.proofs.EntryLemmas.{GivenFit, arguments_given}
use Rattle.murphi_typed.proofs.InnerLemmas.{IsShallow, HasGlobals}

abbrev pub LeftKept : ℕ → Declared → Left → Type 0
LeftKept N types left = AreKept N types left.cells

-- what the routines of a list, in text order, do with the cells
abbrev pub CallsKeep : List Variable → List Routine → Calls → Type 0
CallsKeep globals routines calls = (k : ℕ) (r : Routine) → slice_get routines k ≡ Some r → (types : Declared) (scene : Scene) (at : Span) (gs : List Given) (cells : Cells) → IsShallow types scene.depth → HasGlobals types globals → GivenFit scene.nodes types r.formals gs → AreKept scene.nodes types cells → IfGot (LeftKept scene.nodes types) (calls k scene at gs cells)

abbrev pub EndingKept : ℕ → Declared → Ending → Type 0
EndingKept N types ending = AreKept N types (cells_after ending)

then_kept : (N : ℕ) (types : Declared) (ending : Ending) (rest : Cells → Outcome Ending) → EndingKept N types ending → ((cells : Cells) → AreKept N types cells → IfGot (EndingKept N types) (rest cells)) → IfGot (EndingKept N types) (then_on ending rest)
then_kept N types (Next cells) rest kept next = next cells kept
then_kept N types (Returned cells v) rest kept next = kept

turns_kept : (N : ℕ) (types : Declared) (body : Value → Cells → Outcome Ending) → ((v : Value) (cells : Cells) → AreKept N types cells → IfGot (EndingKept N types) (body v cells)) → (vs : List Value) (cells : Cells) → AreKept N types cells → IfGot (EndingKept N types) (turns body vs cells)
turns_kept N types body keeps [] cells kept = kept
turns_kept N types body keeps (v ∷ vs) cells kept = if_given (EndingKept N types) (EndingKept N types) (body v cells) (λ ending. then_on ending (turns body vs)) (keeps v cells kept) (λ ending after. then_kept N types ending (turns body vs) after (turns_kept N types body keeps vs))

fits_bound : (types : Declared) (scope : Scope) (scene : Scene) (over : Simple) (v : Value) → SceneFits types scope scene → SceneFits types (binding scope over) (with_bound scene v)
fits_bound types scope scene over v fits (root.Global k) = fits (root.Global k)
fits_bound types scope scene over v fits (root.Local k) = fits (root.Local k)
fits_bound types scope scene over v fits (root.Formal k) = fits (root.Formal k)
fits_bound types scope scene over v fits (root.Place k) = fits (root.Place k)

if_same : {A : Type 0} (P : A → Type 0) (b : Bool) (o p : Outcome A) → IfGot P o → IfGot P p → IfGot P (if b then o else p)
if_same P true o p x y = x
if_same P false o p x y = y

stored_is : (N : ℕ) (at : Span) (into : Simple) (v : Value) → IfGot (λ w. may_hold N into w ≡ true) (stored N at into v)
stored_is N at into v = go (may_hold N into v) refl
  where
    go : (b : Bool) → may_hold N into v ≡ b → IfGot (λ w. may_hold N into w ≡ true) (fitting b at v)
    go true was = was
    go false was = tt

module _ (types : Declared) (calls : Calls) where
  -- a place of a simple type gets a value of the type
  value_kept : (scope : Scope) (scene : Scene) (cells : Cells) (p : Place) (into : Simple) (v : Value) → AreKept scene.nodes types cells → HasType types p (t.Simple into) → may_hold scene.nodes into v ≡ true → AreKept scene.nodes types (written cells p (only v))
  value_kept scope scene cells p into v kept has may = written_kept scene.nodes types cells p (t.Simple into) (only v) kept has (only_holds scene.nodes into v may)

  alike : (o p : Option AnyType) → are_alike o p ≡ true → (U : AnyType) × (V : AnyType) × ((o ≡ Some U) × (p ≡ Some V) × (same_type U V ≡ true))
  alike (Some U) (Some V) e = let (compound, same) = and_parts (is_compound U) (same_type U V) e in (U, V, (refl, refl, same))
  alike None p e = cc
  alike (Some U) None e = cc

  typed : (type : AnyType) (o : Option AnyType) → option_map_or (same_type type) o false ≡ true → (V : AnyType) × (o ≡ Some V) × (same_type type V ≡ true)
  typed type None e = cc
  typed type (Some V) e = (V, refl, e)

  some_one : {A : Type 0} (o : Option A) → is_some o ≡ true → (a : A) × (o ≡ Some a)
  some_one None e = cc
  some_one (Some a) e = (a, refl)

  found_routine : (scope : Scope) (args : Arguments) (o : Option Routine) → option_map_or (λ r. not (is_some r.result) && arguments_fit scope r.formals args) o false ≡ true → (r : Routine) × (o ≡ Some r) × (arguments_fit scope r.formals args ≡ true)
  found_routine scope args None e = cc
  found_routine scope args (Some r) e = let (procedure, fit) = and_parts (not (is_some r.result)) (arguments_fit scope r.formals args) e in (r, refl, fit)

  mutual
    unfolding run stmt_fits

    pub run_kept : (scope : Scope) (scene : Scene) (cells : Cells) (body : Stmt) → SceneFits types scope scene → IsShallow types scene.depth → HasGlobals types scope.globals → CallsKeep scope.globals scope.routines calls → AreKept scene.nodes types cells → stmt_fits scope body ≡ true → IfGot (EndingKept scene.nodes types) (run calls scene cells body)
    run_kept scope scene cells (s.Block' _ body) fits shallow has keeps kept e = all_kept scope scene cells body fits shallow has keeps kept e
    run_kept scope scene cells (s.Assign to into body) fits shallow has keeps kept e =
        let (writable, rest) = and_parts (may_write scope (root_of to)) (is_cell_of into (place_type scope to) && is_of into (type_of scope body)) e in
        let (is_cell, value) = and_parts (is_cell_of into (place_type scope to)) (is_of into (type_of scope body)) rest in
        if_given (λ p. HasType types p (t.Simple into)) (EndingKept scene.nodes types) (place_of calls scene (at_of to) cells to) _ (place_has types calls scope scene (at_of to) cells to (t.Simple into) fits (cell_type into (place_type scope to) is_cell))
        (λ p there. if_after (EndingKept scene.nodes types) (value_of calls scene (at_of to) cells body) _
        (λ v. if_given (λ w. may_hold scene.nodes into w ≡ true) (EndingKept scene.nodes types) (stored scene.nodes (at_of to) into v) (with_value cells p) (stored_is scene.nodes (at_of to) into v) (λ w may. value_kept scope scene cells p into w kept there may)))
    run_kept scope scene cells (s.Copy to into from) fits shallow has keeps kept e =
        let (writable, rest) = and_parts (may_write scope (root_of to)) (is_cell_of into (place_type scope to) && holds_values_of into (place_type scope from)) e in
        let (is_cell, value) = and_parts (is_cell_of into (place_type scope to)) (holds_values_of into (place_type scope from)) rest in
        if_given (λ p. HasType types p (t.Simple into)) (EndingKept scene.nodes types) (place_of calls scene (at_of to) cells to) _ (place_has types calls scope scene (at_of to) cells to (t.Simple into) fits (cell_type into (place_type scope to) is_cell))
        (λ p there. if_after (EndingKept scene.nodes types) (place_of calls scene (at_of to) cells from) _
        (λ q. if_given (λ w. may_hold scene.nodes into w ≡ true) (EndingKept scene.nodes types) (stored scene.nodes (at_of to) into (cell_at cells q)) (with_value cells p) (stored_is scene.nodes (at_of to) into (cell_at cells q)) (λ w may. value_kept scope scene cells p into w kept there may)))
    run_kept scope scene cells (s.CopyAll to from) fits shallow has keeps kept e =
        let (writable, rest) = and_parts (may_write scope (root_of to)) (are_alike (place_type scope to) (place_type scope from)) e in
        let (U, V, same) = alike (place_type scope to) (place_type scope from) rest in
        if_given (λ p. HasType types p U) (EndingKept scene.nodes types) (place_of calls scene (at_of to) cells to) _ (place_has types calls scope scene (at_of to) cells to U fits same.0)
        (λ p there. if_given (λ q. HasType types q V) (EndingKept scene.nodes types) (place_of calls scene (at_of to) cells from) _ (place_has types calls scope scene (at_of to) cells from V fits same.1)
        (λ q here. written_kept scene.nodes types cells p U (contents_at cells q) kept there (λ path leaf leads at. contents_hold scene.nodes types cells q V kept here path leaf (sym (same_leaf U V same.2 path) ∙ leads) at)))
    run_kept scope scene cells (s.Call k args at) fits shallow has keeps kept e =
        let (outside, rest) = and_parts (not (is_function scope.exit)) (option_map_or (λ r. not (is_some r.result) && arguments_fit scope r.formals args) (slice_get scope.routines k) false) e in
        let (r, found, fit) = found_routine scope args (slice_get scope.routines k) rest in
        if_given (GivenFit scene.nodes types r.formals) (EndingKept scene.nodes types) (arguments_of calls scene at cells args) _ (arguments_given types calls scope scene at cells fits kept r.formals args fit)
        (λ gs given_fit. if_given (LeftKept scene.nodes types) (EndingKept scene.nodes types) (calls k scene at gs cells) _ (keeps k r found types scene at gs cells shallow has given_fit kept) (λ left after. after))
    run_kept scope scene cells (s.If' _ arms _ otherwise at) fits shallow has keeps kept e =
        let (a, o) = and_parts (arms_fit scope arms) (body_fits scope otherwise) e in
        arms_kept scope scene at cells arms (run_all calls scene cells otherwise) fits shallow has keeps kept a (all_kept scope scene cells otherwise fits shallow has keeps kept o)
    run_kept scope scene cells (s.Switch' on _ cases _ otherwise at) fits shallow has keeps kept e =
        let (one, rest) = and_parts (is_some (type_of scope on)) (cases_fit scope (type_of scope on) cases && body_fits scope otherwise) e in
        let (c, o) = and_parts (cases_fit scope (type_of scope on) cases) (body_fits scope otherwise) rest in
        if_after (EndingKept scene.nodes types) (value_of calls scene at cells on) _ (λ v. cases_kept scope scene at cells v (type_of scope on) cases (run_all calls scene cells otherwise) fits shallow has keeps kept c (all_kept scope scene cells otherwise fits shallow has keeps kept o))
    run_kept scope scene cells (s.For' over _ body at) fits shallow has keeps kept e =
        let (fine, rest) = and_parts (is_simple_type scope.kinds over) (body_fits (binding scope over) body) e in
        turns_kept scene.nodes types (λ v cells. run_all calls (with_bound scene v) cells body) (λ v now after. all_kept (binding scope over) (with_bound scene v) now body (fits_bound types scope scene over v fits) shallow has keeps after rest) (values scene.nodes over) cells kept
    run_kept scope scene cells (s.Clear place type at) fits shallow has keeps kept e =
        let (writable, rest) = and_parts (may_write scope (root_of place)) (is_type scope.kinds type && option_map_or (same_type type) (place_type scope place) false) e in
        let (fine, one) = and_parts (is_type scope.kinds type) (option_map_or (same_type type) (place_type scope place) false) rest in
        let (V, there, same) = typed type (place_type scope place) one in
        if_given (λ p. HasType types p V) (EndingKept scene.nodes types) (place_of calls scene at cells place) _ (place_has types calls scope scene at cells place V fits there)
        (λ p is. written_kept scene.nodes types cells p V (cleared type) kept is (λ path leaf leads from. cleared_holds scene.nodes scope.kinds type fine path leaf (same_leaf type V same path ∙ leads) from))
    run_kept scope scene cells (s.Undefine place at) fits shallow has keeps kept e =
        let (writable, rest) = and_parts (may_write scope (root_of place)) (is_some (place_type scope place)) e in
        let (V, there) = some_one (place_type scope place) rest in
        if_given (λ p. HasType types p V) (EndingKept scene.nodes types) (place_of calls scene at cells place) _ (place_has types calls scope scene at cells place V fits there)
        (λ p is. written_kept scene.nodes types cells p V (only value.Undefined) kept is (undefined_holds scene.nodes V))
    run_kept scope scene cells (s.Error at) fits shallow has keeps kept e = tt
    run_kept scope scene cells (s.Assert test at) fits shallow has keeps kept e = if_after (EndingKept scene.nodes types) (value_of calls scene at cells test) _ (λ v. if_same (EndingKept scene.nodes types) (truth v) (Got (Next cells)) (Fault at) kept tt)
    run_kept scope scene cells (s.PutText at) fits shallow has keeps kept e = kept
    run_kept scope scene cells (s.Put shown at) fits shallow has keeps kept e = kept
    run_kept scope scene cells (s.Leave at) fits shallow has keeps kept e = kept
    run_kept scope scene cells (s.Return body at) fits shallow has keeps kept e = if_after (EndingKept scene.nodes types) (value_of calls scene at cells body) _ (λ v. kept)

    all_kept : {n : _} (scope : Scope) (scene : Scene) (cells : Cells) (body : Row_of-Stmt n) → SceneFits types scope scene → IsShallow types scene.depth → HasGlobals types scope.globals → CallsKeep scope.globals scope.routines calls → AreKept scene.nodes types cells → body_fits scope body ≡ true → IfGot (EndingKept scene.nodes types) (run_all calls scene cells body)
    all_kept scope scene cells end_of-Stmt fits shallow has keeps kept e = kept
    all_kept scope scene cells (more_of-Stmt first rest) fits shallow has keeps kept e =
        let (f, r) = and_parts (stmt_fits scope first) (body_fits scope rest) e in
        if_given (EndingKept scene.nodes types) (EndingKept scene.nodes types) (run calls scene cells first) _ (run_kept scope scene cells first fits shallow has keeps kept f)
        (λ ending after. then_kept scene.nodes types ending (λ next. run_all calls scene next rest) after (λ next now. all_kept scope scene next rest fits shallow has keeps now r))

    arms_kept : {n : _} (scope : Scope) (scene : Scene) (at : Span) (cells : Cells) (arms : Row_of-Arm n) (otherwise : Outcome Ending) → SceneFits types scope scene → IsShallow types scene.depth → HasGlobals types scope.globals → CallsKeep scope.globals scope.routines calls → AreKept scene.nodes types cells → arms_fit scope arms ≡ true → IfGot (EndingKept scene.nodes types) otherwise → IfGot (EndingKept scene.nodes types) (run_arms calls scene at cells arms otherwise)
    arms_kept scope scene at cells end_of-Arm otherwise fits shallow has keeps kept e last = last
    arms_kept scope scene at cells (more_of-Arm test _ body rest) otherwise fits shallow has keeps kept e last =
        let (truth_value, more) = and_parts (is_of simple.Truth (type_of scope test)) (body_fits scope body && arms_fit scope rest) e in
        let (b, r) = and_parts (body_fits scope body) (arms_fit scope rest) more in
        if_after (EndingKept scene.nodes types) (value_of calls scene at cells test) _ (λ v. if_same (EndingKept scene.nodes types) (truth v) (run_all calls scene cells body) (run_arms calls scene at cells rest otherwise) (all_kept scope scene cells body fits shallow has keeps kept b) (arms_kept scope scene at cells rest otherwise fits shallow has keeps kept r last))

    cases_kept : {n : _} (scope : Scope) (scene : Scene) (at : Span) (cells : Cells) (v : Value) (on : Option Simple) (cases : Row_of-Case n) (otherwise : Outcome Ending) → SceneFits types scope scene → IsShallow types scene.depth → HasGlobals types scope.globals → CallsKeep scope.globals scope.routines calls → AreKept scene.nodes types cells → cases_fit scope on cases ≡ true → IfGot (EndingKept scene.nodes types) otherwise → IfGot (EndingKept scene.nodes types) (run_cases calls scene at cells v cases otherwise)
    cases_kept scope scene at cells v on end_of-Case otherwise fits shallow has keeps kept e last = last
    cases_kept scope scene at cells v on (more_of-Case labels _ body rest) otherwise fits shallow has keeps kept e last =
        let (l, more) = and_parts (labels_fit scope on labels) (body_fits scope body && cases_fit scope on rest) e in
        let (b, r) = and_parts (body_fits scope body) (cases_fit scope on rest) more in
        if_after (EndingKept scene.nodes types) (is_among (value_of calls scene at cells) v labels) _ (λ found. if_same (EndingKept scene.nodes types) found (run_all calls scene cells body) (run_cases calls scene at cells v rest otherwise) (all_kept scope scene cells body fits shallow has keeps kept b) (cases_kept scope scene at cells v on rest otherwise fits shallow has keeps kept r last))

-- The routines of a text keep every cell within its type: a routine calls only those before it.
use Rattle.std.proofs.Common.{◌≡◌, ℕ, zero, suc, Bool, true, false, ◌&&◌, List, [], ◌∷◌, ◌++◌, reverse, length, Option, None, Some, refl, sym, ap, ◌∙◌, subst, arith, append_assoc, append-nil}
use Rattle.std.specs.Prelude.{nat_eq, if◌then◌else◌, slice_get}
use Rattle.std.specs.List.{list_all}
use Rattle.std.specs.Option.{option_map_or}
use Rattle.std.proofs.lemmas.Bool.{and_parts, eqb-true, eqb-false}
use Rattle.std.proofs.lemmas.List.{reverse-append, reverse-reverse, length-reverse}
use Rattle.murphi_ast.specs.declared.token.Span.{Span}
use Rattle.murphi_typed.specs.declared.types.Simple.{Simple}
use Rattle.murphi_typed.specs.declared.protocol.Formal.{Formal as DeclaredFormal}
use Rattle.murphi_typed.specs.declared.protocol.Routine.{Routine}
use Rattle.murphi_typed.specs.declared.protocol.Typed.{Typed}
use Rattle.murphi_typed.specs.Values.{is_value}
use Rattle.murphi_typed.specs.Store.{Cells}
use Rattle.murphi_typed.specs.Outcome.{Got, Fault, given}
use Rattle.murphi_typed.specs.Expressions.{Given, Scene, Calls}
use Rattle.murphi_typed.specs.Execution.{Ending, Next, Returned, run, formals_fit, entered, called_scene, ended, call_of, calls_of, routine_calls}
use Rattle.murphi_typed.specs.WellTyped.{is_type, is_simple_type, formal_allowed, are_variables, stmt_fits, routine_scope, routine_fits, routines_fit}
use Rattle.murphi_typed.specs.Keeping.{Declared, AreKept}
pub use Rattle.murphi_typed.specs.Keeping.{LatestFit}
use Rattle.murphi_typed.proofs.LeafLemmas.{some_same, not_some}
use Rattle.murphi_typed.proofs.KeepLemmas.{IfGot, if_given}
use Rattle.murphi_typed.proofs.EntryLemmas.{GivenFit}
use Rattle.murphi_typed.proofs.InnerLemmas.{IsShallow, HasGlobals, inner_types, widen, inner_shallow, entered_kept, inner_fits}
use Rattle.murphi_typed.proofs.BodyLemmas.{LeftKept, EndingKept, CallsKeep, run_kept}

ended_kept : (types : Declared) (result : Option Simple) (scene : Scene) (at : Span) (ending : Ending) → EndingKept scene.nodes types ending → IfGot (LeftKept scene.nodes types) (ended result scene at ending)
ended_kept types None scene at (Next cells) kept = kept
ended_kept types None scene at (Returned cells v) kept = kept
ended_kept types (Some type) scene at (Next cells) kept = tt
ended_kept types (Some type) scene at (Returned cells None) kept = tt
ended_kept types (Some type) scene at (Returned cells (Some v)) kept = go (is_value scene.nodes type v)
  where
    go : (b : Bool) → IfGot (LeftKept scene.nodes types) (if b then Got (record { cells = cells; result = Some v }) else Fault at)
    go true = kept
    go false = tt

call_kept : (T : Typed) (earlier : List Routine) (calls : Calls) → CallsKeep T.globals earlier calls → (r : Routine) → routine_fits T earlier r ≡ true → (types : Declared) (scene : Scene) (at : Span) (gs : List Given) (cells : Cells) → IsShallow types scene.depth → HasGlobals types T.globals → GivenFit scene.nodes types r.formals gs → AreKept scene.nodes types cells → IfGot (LeftKept scene.nodes types) (call_of calls r scene at gs cells)
call_kept T earlier calls keeps r fine types scene at gs cells shallow has fit kept = go (formals_fit scene.nodes r.formals gs) refl
  where
    inner : Declared
    inner = inner_types (suc scene.depth) r.formals r.locals types

    back : (ending : Ending) → EndingKept scene.nodes inner ending → EndingKept scene.nodes types ending
    back ending after owner T' declared = after owner T' (widen scene.depth r.formals r.locals types shallow owner T' declared)

    body : formals_fit scene.nodes r.formals gs ≡ true → IfGot (EndingKept scene.nodes inner) (run calls (called_scene scene gs) (entered (suc scene.depth) gs cells) r.body)
    body tested =
        let (formals, rest) = and_parts (list_all (λ (f : DeclaredFormal). is_type T.kinds f.of && formal_allowed r.result f) r.formals) (option_map_or (is_simple_type T.kinds) r.result true && (are_variables T.kinds r.locals && stmt_fits (routine_scope T earlier r) r.body)) fine in
        let (result, more) = and_parts (option_map_or (is_simple_type T.kinds) r.result true) (are_variables T.kinds r.locals && stmt_fits (routine_scope T earlier r) r.body) rest in
        let (locals, fits) = and_parts (are_variables T.kinds r.locals) (stmt_fits (routine_scope T earlier r) r.body) more in
        run_kept inner calls (routine_scope T earlier r) (called_scene scene gs) (entered (suc scene.depth) gs cells) r.body
        (inner_fits types T.globals r.formals r.locals scene gs (routine_scope T earlier r) shallow has fit refl refl refl)
        (inner_shallow scene.depth r.formals r.locals types shallow) has keeps
        (entered_kept scene.nodes (suc scene.depth) r.formals r.locals types gs cells fit tested kept) fits

    go : (b : Bool) → formals_fit scene.nodes r.formals gs ≡ b → IfGot (LeftKept scene.nodes types) (if b then given (run calls (called_scene scene gs) (entered (suc scene.depth) gs cells) r.body) (ended r.result scene at) else Fault at)
    go true tested = if_given (EndingKept scene.nodes inner) (LeftKept scene.nodes types) (run calls (called_scene scene gs) (entered (suc scene.depth) gs cells) r.body) (ended r.result scene at) (body tested) (λ ending after. ended_kept types r.result scene at ending (back ending after))
    go false tested = tt

-- the last of a list, and those before it
pub get_last : {A : Type 0} (xs : List A) (x r : A) (k : ℕ) → slice_get (xs ++ x ∷ []) k ≡ Some r → k ≡ length xs → x ≡ r
get_last [] x r zero e same = some_same e
get_last [] x r (suc k) e same = absurd (omega arith)
get_last (y ∷ xs) x r zero e same = absurd (omega arith)
get_last (y ∷ xs) x r (suc k) e same = get_last xs x r k e (omega arith)

pub get_before : {A : Type 0} (xs : List A) (x r : A) (k : ℕ) → slice_get (xs ++ x ∷ []) k ≡ Some r → (k ≡ length xs → ⊥) → slice_get xs k ≡ Some r
get_before [] x r zero e other = absurd (other refl)
get_before [] x r (suc k) e other = absurd (not_some e)
get_before (y ∷ xs) x r zero e other = e
get_before (y ∷ xs) x r (suc k) e other = get_before xs x r k e (λ same. other (ap suc same))

pub reversed : {A : Type 0} (x : A) (xs : List A) → reverse (x ∷ xs) ≡ reverse xs ++ x ∷ []
reversed x xs = reverse-append (x ∷ []) xs

pub latest_kept : (T : Typed) (latest : List Routine) → LatestFit T latest → CallsKeep T.globals (reverse latest) (calls_of latest)
latest_kept T [] fit k r found types scene at gs cells shallow has given_fit kept = tt
latest_kept T (l ∷ earlier) fit k r found types scene at gs cells shallow has given_fit kept =
    go (nat_eq k (length earlier)) refl (subst (λ rs. slice_get rs k ≡ Some r) (reversed l earlier) found) (latest_kept T earlier fit.1)
  where
    go : (b : Bool) → nat_eq k (length earlier) ≡ b → slice_get (reverse earlier ++ l ∷ []) k ≡ Some r → CallsKeep T.globals (reverse earlier) (calls_of earlier) → IfGot (LeftKept scene.nodes types) (if b then call_of (calls_of earlier) l scene at gs cells else calls_of earlier k scene at gs cells)
    go true was there keeps =
        let same : l ≡ r = get_last (reverse earlier) l r k there (eqb-true k (length earlier) was ∙ sym (length-reverse earlier)) in
        call_kept T (reverse earlier) (calls_of earlier) keeps l fit.0 types scene at gs cells shallow has (subst (λ q. GivenFit scene.nodes types q.formals gs) (sym same) given_fit) kept
    go false was there keeps = keeps k r (get_before (reverse earlier) l r k there (λ same. eqb-false k (length earlier) was (same ∙ length-reverse earlier))) types scene at gs cells shallow has given_fit kept

pub latest_fit : (T : Typed) (before rest : List Routine) → LatestFit T (reverse before) → routines_fit T before rest ≡ true → LatestFit T (reverse (before ++ rest))
latest_fit T before [] fit e = subst (λ rs. LatestFit T (reverse rs)) (sym (append-nil before)) fit
latest_fit T before (r ∷ rest) fit e =
    let (one, more) = and_parts (routine_fits T before r) (routines_fit T (before ++ r ∷ []) rest) e in
    let now : LatestFit T (reverse (before ++ r ∷ [])) = subst (λ rs. LatestFit T rs) (sym (reverse-append before (r ∷ []))) (subst (λ rs. routine_fits T rs r ≡ true) (sym (reverse-reverse before)) one, fit) in
    subst (λ rs. LatestFit T (reverse rs)) (append_assoc before (r ∷ []) rest) (latest_fit T (before ++ r ∷ []) rest now more)

-- what the routines of a text do keeps every cell within its type
pub routines_kept : (T : Typed) → routines_fit T [] T.routines ≡ true → CallsKeep T.globals T.routines (routine_calls T.routines)
routines_kept T e = subst (λ rs. CallsKeep T.globals rs (routine_calls T.routines)) (reverse-reverse T.routines) (latest_kept T (reverse T.routines) (latest_fit T [] T.routines tt e))

-- What is found of statements without faults fits.
use Rattle.std.proofs.Common.{◌≡◌, true, ◌&&◌, List, [], ◌∷◌, ◌++◌, Option, None, Some, refl, sym, ap, subst, ◌∙◌}
use Rattle.std.specs.List.{list_all, flat_map}
use Rattle.std.proofs.lemmas.Bool.{and_parts}
use Rattle.murphi_ast.specs.declared.token.Span.{Span}
use Rattle.murphi_ast.specs.declared.expr.Expr as e
use Rattle.murphi_ast.specs.declared.expr.Expr.{Expr}
use Rattle.murphi_ast.specs.declared.expr.Selector as part
use Rattle.murphi_ast.specs.declared.expr.Selector.{Selector}
use Rattle.murphi_ast.specs.declared.expr.Designator.{Designator}
use Rattle.murphi_ast.specs.declared.stmt.Stmt as w
use Rattle.murphi_ast.specs.declared.stmt.Stmt.{Stmt, Row_of-Stmt, end_of-Stmt, more_of-Stmt, Row_of-Arm, end_of-Arm, more_of-Arm, Row_of-Case, end_of-Case, more_of-Case}
use Rattle.murphi_typed.specs.declared.types.Simple.{Simple}
use Rattle.murphi_typed.specs.declared.types.AnyType as t
use Rattle.murphi_typed.specs.declared.types.AnyType.{AnyType}
use Rattle.murphi_typed.specs.declared.stmt.Stmt as made
use Rattle.murphi_typed.specs.declared.protocol.Formal.{Formal}
use Rattle.murphi_typed.specs.WellTyped.{widened, first_of, rest_of}
use Rattle.murphi_typed.specs.WellTyped as well
use Rattle.murphi_types.specs.declared.scope.Known.{Known}
use Rattle.murphi_types.specs.declared.scope.Scope.{Scope}
use Rattle.murphi_types.specs.Places.{place_of, type_place_of}
use Rattle.murphi_types.specs.Scopes.{looked, binding}
use Rattle.murphi_types.specs.Fitting.{is_simple, is_truth, is_comparable, simple_part}
use Rattle.murphi_types.specs.Found.{wanted}
use Rattle.murphi_types.specs.Designators.{FoundPlace, start_type, place_made, index_type, index_fits}
use Rattle.murphi_types.specs.Calls.{callee_of, formals_of}
use Rattle.murphi_types.specs.Types.{Unnamed, simple_wanted}
use Rattle.murphi_types.specs.Typing.{found, selectors_found, type_found}
use Rattle.murphi_types.specs.Repeats.{field_repeats, type_repeats}
use Rattle.murphi_types.specs.Lists.{list_selectors, place_found, argument_found, list_arguments}
use Rattle.murphi_types.specs.Written.{Written, AnExpr, index_of, in_place, exprs, an_option, in_stmt, in_row, in_arms, in_cases, in_body, repeats_of, record_repeats}
use Rattle.murphi_types.specs.Statements.{Leaving, AtEnd, ByReturn, WithValue, assigned, put, left, is_result, labels_found, stmt_found, stmts_found, arms_found, cases_found, body_found}
use Rattle.typing_sound.specs.Spelled.{is_spelled, type_spelled, selector_spelled, place_spelled, optional_spelled, stmt_spelled, stmts_spelled, arms_spelled, cases_spelled}
use Rattle.typing_sound.proofs.Grown.{Held, Grown, still, found-grown, type-grown, placed-known, valued-known}
use Rattle.typing_sound.proofs.GrownStatements.{list-selectors-grown, place-grown, argument-grown, list-arguments-grown, labels-grown, assigned-grown, stmt-grown, stmts-grown, arms-grown, cases-grown, body-grown}
use Rattle.typing_sound.proofs.Fits.{Fits, looked-fits, moved, bound-fits}
use Rattle.typing_sound.proofs.Tests.{nil-parts, OnlySimple, only-simple, only-values, only-comparable}
use Rattle.typing_sound.proofs.Parts.{wanted-value, AreSelected, field-step, item-step, IsPlace, place-step}
use Rattle.typing_sound.proofs.TypeSteps.{simple-step}
use Rattle.typing_sound.proofs.CallSteps.{IsArgument, AreArguments, Allowed, AllowedOne, allowed-first, allowed-rest, placed-step, valued-step, arguments-step, callee-step}
use Rattle.typing_sound.proofs.Expressions.{before, truth-only, found-fits, selectors-fit, type-fits}
use Rattle.typing_sound.proofs.StatementEquations.{fits-Error, fits-PutText, fits-Leave}
use Rattle.typing_sound.proofs.StatementSteps.{AreStmts, one-is, stmts-step, stored-step, copied-step, cleared-step, undefined-step, called-step, AreArms, arm-step, if-step, AreLabels, label-step, AreCases, case-step, switch-step, for-step, asserted-step, shown-step, LeavingFits, returned-step}

pub nil-both : {A : Type 0} (xs ys : List A) → xs ≡ [] → ys ≡ [] → xs ++ ys ≡ []
nil-both xs ys e f = ap (λ l. l ++ ys) e ∙ f

-- no name stands twice in a whole, so none does in its parts
pub repeat-parts : (xs ys : List Written) → record_repeats (xs ++ ys) ≡ [] → (record_repeats xs ≡ []) × (record_repeats ys ≡ [])
repeat-parts [] ys e = (refl, e)
repeat-parts (x ∷ xs) ys e =
    let (first, more) = nil-parts (repeats_of x) (record_repeats (xs ++ ys)) e in
    let (front, rest) = repeat-parts xs ys more in
    (nil-both (repeats_of x) (record_repeats xs) first front, rest)

-- Designators

pub list-selectors-fit : (W : well.Scope) (s : Scope) (k : Known) (at : Span) (type : AnyType) (sels : List Selector) → Fits W s k → list_all selector_spelled sels ≡ true → record_repeats (flat_map index_of sels) ≡ [] → Held (list_selectors s k at (Some type) sels).known.kinds W.kinds → (list_selectors s k at (Some type) sels).faults ≡ [] → AreSelected W type (list_selectors s k at (Some type) sels)
list-selectors-fit W s k at type [] h spelled once held none = record { of = type; is = refl; selects = refl; fine = λ f. f; names = h.names }
list-selectors-fit W s k at type (part.Field name ∷ rest) h spelled once held none =
    field-step W at name type (λ o. list_selectors s k at o rest) (λ of held none. list-selectors-fit W s k at of rest h spelled once held none) held none
list-selectors-fit W s k at type (part.Index index ∷ rest) h spelled once held none =
    let (one, two) = and_parts (is_spelled index) (list_all selector_spelled rest) spelled in
    let (index_once, rest_once) = nil-parts (field_repeats index) (record_repeats (flat_map index_of rest)) once in
    let F = found s k index in
    let own = before W (list-selectors-grown s F.known at _ rest) held in
    let clear = nil-parts (wanted (index_fits (index_type (Some type))) (place_of index) F).faults _ none in
    let r = found-fits W s k index h one index_once own ((nil-parts F.faults _ clear.0).0) in
    item-step W at (place_of index) type F (λ o. list_selectors s F.known at o rest)
    (λ test only none. wanted-value W index test (place_of index) F only (λ clear. r) none)
    (λ of held none. list-selectors-fit W s F.known at of rest (moved h (found-grown s k index) r.names) two rest_once held none) held none

pub place-fits : (W : well.Scope) (s : Scope) (k : Known) (d : Designator) → Fits W s k → place_spelled d ≡ true → record_repeats (in_place d) ≡ [] → Held (place_found s k d).known.kinds W.kinds → (place_found s k d).faults ≡ [] → IsPlace W (place_found s k d)
place-fits W s k d h spelled once held none =
    place-step W d.root.at (looked s k d.root.name) (λ o. list_selectors s k d.root.at o d.selectors) (looked-fits W s k d.root.name h)
    (λ type held none. list-selectors-fit W s k d.root.at type d.selectors h spelled once held none) held none

-- Arguments

argument-fits : (W : well.Scope) (s : Scope) (k : Known) (at : Span) (o : Option Formal) (first : Expr) → Fits W s k → AllowedOne W o → is_spelled first ≡ true → field_repeats first ≡ [] → Held (argument_found s k at o first).known.kinds W.kinds → (argument_found s k at o first).faults ≡ [] → IsArgument W o (argument_found s k at o first)
unfolding is_spelled field_repeats
argument-fits W s k at o (e.Place' root u row) h allowed spelled once held none =
    let what = looked s k root.name in
    let P = place_made root.at what (start_type root.at what) (selectors_found s k root.at (start_type root.at what).type row) in
    let p_held = subst (λ l. Held l.kinds W.kinds) (placed-known o P) held in
    placed-step W o P allowed
    (λ clear. place-step W root.at what (λ o. selectors_found s k root.at o row) (looked-fits W s k root.name h)
    (λ type held none. selectors-fit W s k root.at type row h spelled once held none) p_held clear) none
argument-fits W s k at o (e.Number n p) h allowed spelled once held none =
    valued-step W (e.Number n p) at (place_of (e.Number n p)) o (found s k (e.Number n p)) refl
    (λ clear. found-fits W s k (e.Number n p) h spelled once (subst (λ l. Held l.kinds W.kinds) (valued-known at (place_of (e.Number n p)) o (found s k (e.Number n p))) held) clear) none
argument-fits W s k at o (e.Truth b p) h allowed spelled once held none =
    valued-step W (e.Truth b p) at (place_of (e.Truth b p)) o (found s k (e.Truth b p)) refl
    (λ clear. found-fits W s k (e.Truth b p) h spelled once (subst (λ l. Held l.kinds W.kinds) (valued-known at (place_of (e.Truth b p)) o (found s k (e.Truth b p))) held) clear) none
argument-fits W s k at o (e.Call' name u args) h allowed spelled once held none =
    valued-step W (e.Call' name u args) at (place_of (e.Call' name u args)) o (found s k (e.Call' name u args)) refl
    (λ clear. found-fits W s k (e.Call' name u args) h spelled once (subst (λ l. Held l.kinds W.kinds) (valued-known at (place_of (e.Call' name u args)) o (found s k (e.Call' name u args))) held) clear) none
argument-fits W s k at o (e.Not' u inner p) h allowed spelled once held none =
    valued-step W (e.Not' u inner p) at (place_of (e.Not' u inner p)) o (found s k (e.Not' u inner p)) refl
    (λ clear. found-fits W s k (e.Not' u inner p) h spelled once (subst (λ l. Held l.kinds W.kinds) (valued-known at (place_of (e.Not' u inner p)) o (found s k (e.Not' u inner p))) held) clear) none
argument-fits W s k at o (e.Minus' u inner p) h allowed spelled once held none =
    valued-step W (e.Minus' u inner p) at (place_of (e.Minus' u inner p)) o (found s k (e.Minus' u inner p)) refl
    (λ clear. found-fits W s k (e.Minus' u inner p) h spelled once (subst (λ l. Held l.kinds W.kinds) (valued-known at (place_of (e.Minus' u inner p)) o (found s k (e.Minus' u inner p))) held) clear) none
argument-fits W s k at o (e.Chain' u inner v links) h allowed spelled once held none =
    valued-step W (e.Chain' u inner v links) at (place_of (e.Chain' u inner v links)) o (found s k (e.Chain' u inner v links)) refl
    (λ clear. found-fits W s k (e.Chain' u inner v links) h spelled once (subst (λ l. Held l.kinds W.kinds) (valued-known at (place_of (e.Chain' u inner v links)) o (found s k (e.Chain' u inner v links))) held) clear) none
argument-fits W s k at o (e.Compare' op u inner v right) h allowed spelled once held none =
    valued-step W (e.Compare' op u inner v right) at (place_of (e.Compare' op u inner v right)) o (found s k (e.Compare' op u inner v right)) refl
    (λ clear. found-fits W s k (e.Compare' op u inner v right) h spelled once (subst (λ l. Held l.kinds W.kinds) (valued-known at (place_of (e.Compare' op u inner v right)) o (found s k (e.Compare' op u inner v right))) held) clear) none
argument-fits W s k at o (e.Implies' u inner v right) h allowed spelled once held none =
    valued-step W (e.Implies' u inner v right) at (place_of (e.Implies' u inner v right)) o (found s k (e.Implies' u inner v right)) refl
    (λ clear. found-fits W s k (e.Implies' u inner v right) h spelled once (subst (λ l. Held l.kinds W.kinds) (valued-known at (place_of (e.Implies' u inner v right)) o (found s k (e.Implies' u inner v right))) held) clear) none
argument-fits W s k at o (e.Choice' a b c d f g) h allowed spelled once held none =
    valued-step W (e.Choice' a b c d f g) at (place_of (e.Choice' a b c d f g)) o (found s k (e.Choice' a b c d f g)) refl
    (λ clear. found-fits W s k (e.Choice' a b c d f g) h spelled once (subst (λ l. Held l.kinds W.kinds) (valued-known at (place_of (e.Choice' a b c d f g)) o (found s k (e.Choice' a b c d f g))) held) clear) none
argument-fits W s k at o (e.Quantified' all a b c d p) h allowed spelled once held none =
    valued-step W (e.Quantified' all a b c d p) at (place_of (e.Quantified' all a b c d p)) o (found s k (e.Quantified' all a b c d p)) refl
    (λ clear. found-fits W s k (e.Quantified' all a b c d p) h spelled once (subst (λ l. Held l.kinds W.kinds) (valued-known at (place_of (e.Quantified' all a b c d p)) o (found s k (e.Quantified' all a b c d p))) held) clear) none
argument-fits W s k at o (e.IsUndefined' root u inner p) h allowed spelled once held none =
    valued-step W (e.IsUndefined' root u inner p) at (place_of (e.IsUndefined' root u inner p)) o (found s k (e.IsUndefined' root u inner p)) refl
    (λ clear. found-fits W s k (e.IsUndefined' root u inner p) h spelled once (subst (λ l. Held l.kinds W.kinds) (valued-known at (place_of (e.IsUndefined' root u inner p)) o (found s k (e.IsUndefined' root u inner p))) held) clear) none

pub list-arguments-fit : (W : well.Scope) (s : Scope) (k : Known) (at : Span) (formals : List Formal) (args : List Expr) → Fits W s k → Allowed W formals → list_all is_spelled args ≡ true → record_repeats (exprs args) ≡ [] → Held (list_arguments s k at formals args).known.kinds W.kinds → (list_arguments s k at formals args).faults ≡ [] → AreArguments W formals (list_arguments s k at formals args)
list-arguments-fit W s k at [] [] h allowed spelled once held none = record { typed = refl; fit = λ e. refl; names = h.names }
list-arguments-fit W s k at (f ∷ fs) [] h allowed spelled once held none = record { typed = refl; fit = λ e. cc; names = h.names }
list-arguments-fit W s k at formals (first ∷ rest) h allowed spelled once held none =
    let A = argument_found s k at (first_of formals) first in
    let (one, two) = and_parts (is_spelled first) (list_all is_spelled rest) spelled in
    let (first_once, rest_once) = nil-parts (field_repeats first) (record_repeats (exprs rest)) once in
    let (clear, more) = nil-parts A.faults (list_arguments s A.known at (rest_of formals) rest).faults none in
    let r = argument-fits W s k at (first_of formals) first h (allowed-first W formals allowed) one first_once (before W (list-arguments-grown s A.known at (rest_of formals) rest) held) clear in
    arguments-step W formals A (list_arguments s A.known at (rest_of formals) rest) r
    (list-arguments-fit W s A.known at (rest_of formals) rest (moved h (argument-grown s k at (first_of formals) first) r.names) (allowed-rest W formals allowed) two rest_once held more)

-- Assignments

assigned-fits : (W : well.Scope) (s : Scope) (k : Known) (p : FoundPlace) (body : Expr) → Fits W s k → Grown k p.known → (p.faults ≡ [] → IsPlace W p) → is_spelled body ≡ true → field_repeats body ≡ [] → Held (assigned s p body).known.kinds W.kinds → (assigned s p body).faults ≡ [] → AreStmts W (assigned s p body)
unfolding is_spelled field_repeats
assigned-fits W s k p (e.Place' root u row) h grown place spelled once held none =
    let what = looked s p.known root.name in
    let Q = place_made root.at what (start_type root.at what) (selectors_found s p.known root.at (start_type root.at what).type row) in
    copied-step W s.in_function p Q h.function place
    (λ r clear. place-step W root.at what (λ o. selectors_found s p.known root.at o row) (looked-fits W s p.known root.name (moved h grown r.names))
    (λ type held none. selectors-fit W s p.known root.at type row (moved h grown r.names) spelled once held none) held clear) none
assigned-fits W s k p (e.Number n q) h grown place spelled once held none =
    stored-step W (e.Number n q) s.in_function (place_of (e.Number n q)) p (found s p.known (e.Number n q)) h.function refl place
    (λ r clear. found-fits W s p.known (e.Number n q) (moved h grown r.names) spelled once held clear) none
assigned-fits W s k p (e.Truth b q) h grown place spelled once held none =
    stored-step W (e.Truth b q) s.in_function (place_of (e.Truth b q)) p (found s p.known (e.Truth b q)) h.function refl place
    (λ r clear. found-fits W s p.known (e.Truth b q) (moved h grown r.names) spelled once held clear) none
assigned-fits W s k p (e.Call' name u args) h grown place spelled once held none =
    stored-step W (e.Call' name u args) s.in_function (place_of (e.Call' name u args)) p (found s p.known (e.Call' name u args)) h.function refl place
    (λ r clear. found-fits W s p.known (e.Call' name u args) (moved h grown r.names) spelled once held clear) none
assigned-fits W s k p (e.Not' u inner q) h grown place spelled once held none =
    stored-step W (e.Not' u inner q) s.in_function (place_of (e.Not' u inner q)) p (found s p.known (e.Not' u inner q)) h.function refl place
    (λ r clear. found-fits W s p.known (e.Not' u inner q) (moved h grown r.names) spelled once held clear) none
assigned-fits W s k p (e.Minus' u inner q) h grown place spelled once held none =
    stored-step W (e.Minus' u inner q) s.in_function (place_of (e.Minus' u inner q)) p (found s p.known (e.Minus' u inner q)) h.function refl place
    (λ r clear. found-fits W s p.known (e.Minus' u inner q) (moved h grown r.names) spelled once held clear) none
assigned-fits W s k p (e.Chain' u inner v links) h grown place spelled once held none =
    stored-step W (e.Chain' u inner v links) s.in_function (place_of (e.Chain' u inner v links)) p (found s p.known (e.Chain' u inner v links)) h.function refl place
    (λ r clear. found-fits W s p.known (e.Chain' u inner v links) (moved h grown r.names) spelled once held clear) none
assigned-fits W s k p (e.Compare' op u inner v right) h grown place spelled once held none =
    stored-step W (e.Compare' op u inner v right) s.in_function (place_of (e.Compare' op u inner v right)) p (found s p.known (e.Compare' op u inner v right)) h.function refl place
    (λ r clear. found-fits W s p.known (e.Compare' op u inner v right) (moved h grown r.names) spelled once held clear) none
assigned-fits W s k p (e.Implies' u inner v right) h grown place spelled once held none =
    stored-step W (e.Implies' u inner v right) s.in_function (place_of (e.Implies' u inner v right)) p (found s p.known (e.Implies' u inner v right)) h.function refl place
    (λ r clear. found-fits W s p.known (e.Implies' u inner v right) (moved h grown r.names) spelled once held clear) none
assigned-fits W s k p (e.Choice' a b c d f g) h grown place spelled once held none =
    stored-step W (e.Choice' a b c d f g) s.in_function (place_of (e.Choice' a b c d f g)) p (found s p.known (e.Choice' a b c d f g)) h.function refl place
    (λ r clear. found-fits W s p.known (e.Choice' a b c d f g) (moved h grown r.names) spelled once held clear) none
assigned-fits W s k p (e.Quantified' all a b c d q) h grown place spelled once held none =
    stored-step W (e.Quantified' all a b c d q) s.in_function (place_of (e.Quantified' all a b c d q)) p (found s p.known (e.Quantified' all a b c d q)) h.function refl place
    (λ r clear. found-fits W s p.known (e.Quantified' all a b c d q) (moved h grown r.names) spelled once held clear) none
assigned-fits W s k p (e.IsUndefined' root u inner q) h grown place spelled once held none =
    stored-step W (e.IsUndefined' root u inner q) s.in_function (place_of (e.IsUndefined' root u inner q)) p (found s p.known (e.IsUndefined' root u inner q)) h.function refl place
    (λ r clear. found-fits W s p.known (e.IsUndefined' root u inner q) (moved h grown r.names) spelled once held clear) none

-- Labels

labels-fits : (W : well.Scope) (s : Scope) (k : Known) (on : Simple) (o : Option AnyType) (labels : List Expr) → o ≡ Some (t.Simple on) → widened on ≡ on → Fits W s k → list_all is_spelled labels ≡ true → record_repeats (exprs labels) ≡ [] → Held (labels_found s k o labels).known.kinds W.kinds → (labels_found s k o labels).faults ≡ [] → AreLabels W on (labels_found s k o labels)
labels-fits W s k on o [] is wide h spelled once held none = record { fit = refl; names = h.names }
labels-fits W s k on o (first ∷ rest) is wide h spelled once held none =
    let F = wanted (is_comparable o) (place_of first) (found s k first) in
    let (one, two) = and_parts (is_spelled first) (list_all is_spelled rest) spelled in
    let (first_once, rest_once) = nil-parts (field_repeats first) (record_repeats (exprs rest)) once in
    let (clear, more) = nil-parts F.faults (labels_found s F.known o rest).faults none in
    let u = wanted-value W first (is_comparable o) (place_of first) (found s k first) (only-comparable o) (λ clear. found-fits W s k first h one first_once (before W (labels-grown s F.known o rest) held) clear) clear in
    label-step W on o F (labels_found s F.known o rest) is wide u
    (labels-fits W s F.known on o rest is wide (moved h (found-grown s k first) u.names) two rest_once held more)

put-fits : (W : well.Scope) (s : Scope) (k : Known) (at : Span) (given : Option Expr) → Fits W s k → optional_spelled given ≡ true → record_repeats (an_option given) ≡ [] → Held (put s k at given).known.kinds W.kinds → (put s k at given).faults ≡ [] → AreStmts W (put s k at given)
put-fits W s k at None h spelled once held none = one-is W (made.PutText at) 0 k [] (fits-PutText W at) h.names
put-fits W s k at (Some body) h spelled once held none =
    let once = (nil-parts (field_repeats body) [] once).0 in
    shown-step W at (wanted is_simple (place_of body) (found s k body)) (wanted-value W body is_simple (place_of body) (found s k body) only-simple (λ clear. found-fits W s k body h spelled once held clear) none)

result-only : (type : Simple) → OnlySimple (is_result (Some type))
result-only type = only-values type

left-fits : (W : well.Scope) (s : Scope) (k : Known) (leaving : Leaving) (at : Span) (given : Option Expr) → Fits W s k → LeavingFits leaving W.exit → optional_spelled given ≡ true → record_repeats (an_option given) ≡ [] → Held (left s k leaving at given).known.kinds W.kinds → (left s k leaving at given).faults ≡ [] → AreStmts W (left s k leaving at given)
left-fits W s k AtEnd at None h way spelled once held none = cc
left-fits W s k AtEnd at (Some body) h way spelled once held none = cc
left-fits W s k ByReturn at (Some body) h way spelled once held none = cc
left-fits W s k (WithValue type) at None h way spelled once held none = cc
left-fits W s k ByReturn at None h way spelled once held none = one-is W (made.Leave at) 0 k [] (fits-Leave W at ∙ go W.exit way) h.names
  where
    go : (exit : well.Exit) → LeavingFits ByReturn exit → well.is_procedure exit ≡ true
    go well.AtEnd way = absurd way
    go well.ByReturn way = refl
    go (well.WithValue type) way = absurd way
left-fits W s k (WithValue None) at (Some body) h way spelled once held none = absurd (go W.exit way)
  where
    go : (exit : well.Exit) → LeavingFits (WithValue None) exit → ⊥
    go well.AtEnd way = way
    go well.ByReturn way = way
    go (well.WithValue type) way = way
left-fits W s k (WithValue (Some type)) at (Some body) h way spelled once held none =
    let once = (nil-parts (field_repeats body) [] once).0 in
    returned-step W type at (wanted (is_result (Some type)) (place_of body) (found s k body)) (go W.exit refl way)
    (wanted-value W body (is_result (Some type)) (place_of body) (found s k body) (result-only type) (λ clear. found-fits W s k body h spelled once held clear) none)
  where
    go : (exit : well.Exit) → W.exit ≡ exit → LeavingFits (WithValue (Some type)) exit → W.exit ≡ well.WithValue type
    go well.AtEnd is way = absurd way
    go well.ByReturn is way = absurd way
    go (well.WithValue other) is way = is ∙ ap well.WithValue (sym way)

mutual
  unfolding stmt_found stmt_spelled in_stmt

  pub stmt-fits : (W : well.Scope) (l : Leaving) (s : Scope) (k : Known) (one : Stmt) → Fits W s k → LeavingFits l W.exit → stmt_spelled one ≡ true → record_repeats (in_stmt one) ≡ [] → Held (stmt_found l s k one).known.kinds W.kinds → (stmt_found l s k one).faults ≡ [] → AreStmts W (stmt_found l s k one)
  stmt-fits W l s k (w.Assign to body) h way spelled once held none =
      let (one, two) = and_parts (place_spelled to) (is_spelled body) spelled in
      let (to_once, more_once) = repeat-parts (in_place to) (AnExpr body ∷ []) once in
      let body_once = (nil-parts (field_repeats body) [] more_once).0 in
      assigned-fits W s k (place_found s k to) body h (place-grown s k to) (λ clear. place-fits W s k to h one to_once (before W (assigned-grown s (place_found s k to).known (place_found s k to) body (still (place_found s k to).known)) held) clear) two body_once held none
  stmt-fits W l s k (w.Call name args) h way spelled once held none =
      let c = callee_of s k name (looked s k name.name) in
      called-step W s.in_function name.at c (list_arguments s k name.at (formals_of c) args) h.function
      (λ clear. callee-step W s k name (looked s k name.name) (looked-fits W s k name.name h) h.routines clear)
      (λ allowed clear. list-arguments-fit W s k name.at (formals_of c) args h allowed spelled once held clear) none
  stmt-fits W l s k (w.If' u arms v otherwise at) h way spelled once held none =
      let F = arms_found l s k arms in
      let (one, two) = and_parts (arms_spelled arms) (stmts_spelled otherwise) spelled in
      let (arms_once, rest_once) = repeat-parts (in_arms arms) (in_row otherwise) once in
      let (clear, more) = nil-parts F.faults (stmts_found l s F.known otherwise).faults none in
      let r = arms-fit W l s k arms h way one arms_once (before W (stmts-grown l s F.known otherwise) held) clear in
      if-step W at F (stmts_found l s F.known otherwise) r (stmts-fit W l s F.known otherwise (moved h (arms-grown l s k arms) r.names) way two rest_once held more)
  stmt-fits W l s k (w.Switch' on u cases v otherwise at) h way spelled once held none =
      let F = wanted is_simple (place_of on) (found s k on) in
      let G = cases_found l s F.known F.type cases in
      let H = stmts_found l s G.known otherwise in
      let (one, more_spelled) = and_parts (is_spelled on) (cases_spelled cases && stmts_spelled otherwise) spelled in
      let (two, three) = and_parts (cases_spelled cases) (stmts_spelled otherwise) more_spelled in
      let (on_once, more_once) = nil-parts (field_repeats on) (record_repeats (in_cases cases ++ in_row otherwise)) once in
      let (cases_once, rest_once) = repeat-parts (in_cases cases) (in_row otherwise) more_once in
      let (on_clear, more_clear) = nil-parts F.faults (G.faults ++ H.faults) none in
      let (cases_clear, rest_clear) = nil-parts G.faults H.faults more_clear in
      let cases_held = before W (stmts-grown l s G.known otherwise) held in
      let u = wanted-value W on is_simple (place_of on) (found s k on) only-simple (λ clear. found-fits W s k on h one on_once (before W (cases-grown l s F.known F.type cases) cases_held) clear) on_clear in
      let inner = moved h (found-grown s k on) u.names in
      let r = cases-fit W l s F.known u.of F.type cases u.type u.wide inner way two cases_once cases_held cases_clear in
      switch-step W at F G H u r (stmts-fit W l s G.known otherwise (moved inner (cases-grown l s F.known F.type cases) r.names) way three rest_once held rest_clear)
  stmt-fits W l s k (w.For' bind u body at) h way spelled once held none =
      let F = simple_wanted (type_place_of bind.over) (type_found s k Unnamed bind.over) in
      let inner = binding s bind.name.name (simple_part F.type) in
      let G = stmts_found l inner F.known body in
      let (one, two) = and_parts (type_spelled bind.over) (stmts_spelled body) spelled in
      let (over_once, body_once) = nil-parts (type_repeats bind.over) (record_repeats (in_row body)) once in
      let (over_clear, body_clear) = nil-parts F.faults G.faults none in
      let u = simple-step W (type_place_of bind.over) (type_found s k Unnamed bind.over) (λ clear. type-fits W s k Unnamed bind.over h one over_once (before W (stmts-grown l inner F.known body) held) clear) over_clear in
      let there : Fits (well.binding W u.of) inner F.known =
      subst (λ o. Fits (well.binding W u.of) (binding s bind.name.name (simple_part o)) F.known) (sym u.is) (bound-fits bind.name.name u.of (moved h (type-grown s k Unnamed bind.over) u.names) u.fine) in
      for-step W at F G u (stmts-fit (well.binding W u.of) l inner F.known body there way two body_once held body_clear)
  stmt-fits W l s k (w.Clear place at) h way spelled once held none =
      cleared-step W s.in_function at (place_found s k place) h.function (λ clear. place-fits W s k place h spelled once held clear) none
  stmt-fits W l s k (w.Undefine place at) h way spelled once held none =
      undefined-step W s.in_function at (place_found s k place) h.function (λ clear. place-fits W s k place h spelled once held clear) none
  stmt-fits W l s k (w.Error at) h way spelled once held none = one-is W (made.Error at) 0 k [] (fits-Error W at) h.names
  stmt-fits W l s k (w.Assert test at) h way spelled once held none =
      let once = (nil-parts (field_repeats test) [] once).0 in
      asserted-step W at (wanted is_truth (place_of test) (found s k test)) (wanted-value W test is_truth (place_of test) (found s k test) truth-only (λ clear. found-fits W s k test h spelled once held clear) none)
  stmt-fits W l s k (w.Put given at) h way spelled once held none = put-fits W s k at given h spelled once held none
  stmt-fits W l s k (w.Return given at) h way spelled once held none = left-fits W s k l at given h way spelled once held none

  pub stmts-fit : {n : _} (W : well.Scope) (l : Leaving) (s : Scope) (k : Known) (row : Row_of-Stmt n) → Fits W s k → LeavingFits l W.exit → stmts_spelled row ≡ true → record_repeats (in_row row) ≡ [] → Held (stmts_found l s k row).known.kinds W.kinds → (stmts_found l s k row).faults ≡ [] → AreStmts W (stmts_found l s k row)
  stmts-fit W l s k end_of-Stmt h way spelled once held none = record { fit = refl; names = h.names }
  stmts-fit W l s k (more_of-Stmt first rest) h way spelled once held none =
      let F = stmt_found l s k first in
      let (one, two) = and_parts (stmt_spelled first) (stmts_spelled rest) spelled in
      let (first_once, rest_once) = repeat-parts (in_stmt first) (in_row rest) once in
      let (clear, more) = nil-parts F.faults (stmts_found l s F.known rest).faults none in
      let r = stmt-fits W l s k first h way one first_once (before W (stmts-grown l s F.known rest) held) clear in
      stmts-step W F (stmts_found l s F.known rest) r (stmts-fit W l s F.known rest (moved h (stmt-grown l s k first) r.names) way two rest_once held more)

  pub arms-fit : {n : _} (W : well.Scope) (l : Leaving) (s : Scope) (k : Known) (row : Row_of-Arm n) → Fits W s k → LeavingFits l W.exit → arms_spelled row ≡ true → record_repeats (in_arms row) ≡ [] → Held (arms_found l s k row).known.kinds W.kinds → (arms_found l s k row).faults ≡ [] → AreArms W (arms_found l s k row)
  arms-fit W l s k end_of-Arm h way spelled once held none = record { fit = refl; names = h.names }
  arms-fit W l s k (more_of-Arm test u body rest) h way spelled once held none =
      let F = wanted is_truth (place_of test) (found s k test) in
      let B = stmts_found l s F.known body in
      let G = arms_found l s B.known rest in
      let (one, more_spelled) = and_parts (is_spelled test) (stmts_spelled body && arms_spelled rest) spelled in
      let (two, three) = and_parts (stmts_spelled body) (arms_spelled rest) more_spelled in
      let (test_once, more_once) = nil-parts (field_repeats test) (record_repeats (in_row body ++ in_arms rest)) once in
      let (body_once, rest_once) = repeat-parts (in_row body) (in_arms rest) more_once in
      let (test_clear, more_clear) = nil-parts F.faults (B.faults ++ G.faults) none in
      let (body_clear, rest_clear) = nil-parts B.faults G.faults more_clear in
      let body_held = before W (arms-grown l s B.known rest) held in
      let u = wanted-value W test is_truth (place_of test) (found s k test) truth-only (λ clear. found-fits W s k test h one test_once (before W (stmts-grown l s F.known body) body_held) clear) test_clear in
      let inner = moved h (found-grown s k test) u.names in
      let r = stmts-fit W l s F.known body inner way two body_once body_held body_clear in
      arm-step W F B G u r (arms-fit W l s B.known rest (moved inner (stmts-grown l s F.known body) r.names) way three rest_once held rest_clear)

  pub cases-fit : {n : _} (W : well.Scope) (l : Leaving) (s : Scope) (k : Known) (on : Simple) (o : Option AnyType) (row : Row_of-Case n) → o ≡ Some (t.Simple on) → widened on ≡ on → Fits W s k → LeavingFits l W.exit → cases_spelled row ≡ true → record_repeats (in_cases row) ≡ [] → Held (cases_found l s k o row).known.kinds W.kinds → (cases_found l s k o row).faults ≡ [] → AreCases W on (cases_found l s k o row)
  cases-fit W l s k on o end_of-Case is wide h way spelled once held none = record { fit = refl; names = h.names }
  cases-fit W l s k on o (more_of-Case labels u body rest) is wide h way spelled once held none =
      let F = labels_found s k o labels in
      let B = stmts_found l s F.known body in
      let G = cases_found l s B.known o rest in
      let (one, more_spelled) = and_parts (list_all is_spelled labels) (stmts_spelled body && cases_spelled rest) spelled in
      let (two, three) = and_parts (stmts_spelled body) (cases_spelled rest) more_spelled in
      let (labels_once, more_once) = repeat-parts (exprs labels) (in_row body ++ in_cases rest) once in
      let (body_once, rest_once) = repeat-parts (in_row body) (in_cases rest) more_once in
      let (labels_clear, more_clear) = nil-parts F.faults (B.faults ++ G.faults) none in
      let (body_clear, rest_clear) = nil-parts B.faults G.faults more_clear in
      let body_held = before W (cases-grown l s B.known o rest) held in
      let u = labels-fits W s k on o labels is wide h one labels_once (before W (stmts-grown l s F.known body) body_held) labels_clear in
      let inner = moved h (labels-grown s k o labels) u.names in
      let r = stmts-fit W l s F.known body inner way two body_once body_held body_clear in
      case-step W on F B G u r (cases-fit W l s B.known on o rest is wide (moved inner (stmts-grown l s F.known body) r.names) way three rest_once held rest_clear)

pub body-fits : (W : well.Scope) (l : Leaving) (s : Scope) (k : Known) (body : List Stmt) → Fits W s k → LeavingFits l W.exit → list_all stmt_spelled body ≡ true → record_repeats (in_body body) ≡ [] → Held (body_found l s k body).known.kinds W.kinds → (body_found l s k body).faults ≡ [] → AreStmts W (body_found l s k body)
body-fits W l s k [] h way spelled once held none = record { fit = refl; names = h.names }
body-fits W l s k (first ∷ rest) h way spelled once held none =
    let F = stmt_found l s k first in
    let (one, two) = and_parts (stmt_spelled first) (list_all stmt_spelled rest) spelled in
    let (first_once, rest_once) = repeat-parts (in_stmt first) (in_body rest) once in
    let (clear, more) = nil-parts F.faults (body_found l s F.known rest).faults none in
    let r = stmt-fits W l s k first h way one first_once (before W (body-grown l s F.known rest) held) clear in
    stmts-step W F (body_found l s F.known rest) r (body-fits W l s F.known rest (moved h (stmt-grown l s k first) r.names) way two rest_once held more)

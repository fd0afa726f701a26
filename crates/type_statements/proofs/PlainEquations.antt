-- What code gives of the statements that have no others in them, from what it gives of the parts; and what is
-- declared after them.
use Rattle.std.proofs.Common.{◌≡◌, List, [], ◌∷◌, Option, None, Some, refl, ap, sym, ◌∙◌}
use Rattle.murphi_ast.specs.declared.token.Span.{Span}
use Rattle.murphi_ast.specs.declared.expr.Named.{Named}
use Rattle.murphi_ast.specs.declared.expr.Selector.{Selector}
use Rattle.murphi_ast.specs.declared.expr.Designator.{Designator}
use Rattle.murphi_ast.specs.declared.expr.Expr as e
use Rattle.murphi_ast.specs.declared.expr.Expr.{Expr, Row_of-Selector, end_of-Selector, more_of-Selector, items-the_row-Selector}
use Rattle.murphi_ast.specs.declared.expr.Expr.TheBlock.{shape-the_row-Selector-0, hidden-the_row-Selector-0}
use denote.Hole.Carrier.{hidden}
use Rattle.murphi_typed.specs.declared.types.Simple.{Simple}
use Rattle.murphi_typed.specs.declared.stmt.Stmt as typed
use Rattle.murphi_types.specs.declared.scope.Known.{Known}
use Rattle.murphi_types.specs.declared.scope.Scope.{Scope}
use Rattle.murphi_types.specs.Places.{place_of}
use Rattle.murphi_types.specs.Scopes.{looked}
use Rattle.murphi_types.specs.Fitting.{fits, is_simple, is_truth}
use Rattle.murphi_types.specs.Found.{wanted}
use Rattle.murphi_types.specs.Designators.{FoundPlace, start_type, place_made}
use Rattle.murphi_types.specs.Calls.{callee_of, formals_of}
use Rattle.murphi_types.specs.Typing.{found}
use Rattle.murphi_types.specs.Lists.{place_found, list_arguments}
use Rattle.murphi_types.specs.Statements.{AtEnd, ByReturn, WithValue, FoundStmts, assigned, is_result}
use Rattle.murphi_types.specs.Statements as stmt
use Rattle.type_parts.specs.declared.context.Context.{Context}
use Rattle.type_parts.specs.declared.judged.Judged.{Judged}
use Rattle.type_parts.specs.declared.judged.JudgedPlace.{JudgedPlace}
use Rattle.type_parts.specs.Contexts.{moved}
use Rattle.type_parts.specs.Judging.{kept}
use Rattle.type_forms.specs.Calling.{formals_in, judged_callee}
use Rattle.type_expressions.specs.PartsGiven.{part_of, place_part, arguments_of, designated}
use Rattle.type_expressions.proofs.PartLemmas.{kept-is}
use Rattle.type_expressions.proofs.ListEquations.{selectors-are}
use Rattle.type_statements.specs.declared.judged.JudgedStmt.{JudgedStmt}
use Rattle.type_statements.specs.Stating.{judged_stmt, one_judged, copied_judged, stored_judged, cleared_judged, undefined_judged, called_judged, asserted_judged, shown_judged, returned_judged, left_judged, misplaced_judged}
use Rattle.type_statements.specs.StatementsGiven.{stmt_part, assign_given, call_given, clear_given, undefine_given, assert_given, put_given, give_given, leave_given}
use Rattle.type_statements.proofs.StepLemmas.{copied-is, stored-is, cleared-is, undefined-is, called-is, asserted-is, shown-is, returned-is}

-- Assignments

assign-Place : (s : Scope) (k : Known) (to from : Designator) → assign_given s k to (e.Place from) ≡ stmt.copied s.in_function (place_found s k to) (place_found s (place_found s k to).known from)
unfolding assign_given
assign-Place s k to from =
    let P = place_found s k to in
    let c = start_type from.root.at (looked s P.known from.root.name) in
    ap (λ g. stmt.copied s.in_function P (place_made from.root.at (looked s P.known from.root.name) c g)) (selectors-are s P.known from.root.at c.type from.selectors)

pub arm-Copied : (s : Scope) (k : Known) (to from : Designator) → stmt_part (assign_given s k to (e.Place from)) ≡ copied_judged s.in_function (place_part (designated s k to)) (place_part (designated s (designated s k to).known from))
unfolding stmt_part place_part designated
arm-Copied s k to from =
    let P = place_found s k to in
    ap judged_stmt (assign-Place s k to from) ∙ copied-is s.in_function P (place_found s P.known from)

pub known-Copied : (s : Scope) (k : Known) (to from : Designator) → (assign_given s k to (e.Place from)).known ≡ (designated s (designated s k to).known from).known
unfolding designated
known-Copied s k to from = ap (λ (f : FoundStmts). f.known) (assign-Place s k to from)

-- An expression is a designator, or it is none

abbrev with-first : Selector → Expr → Expr
with-first x (e.Place' root m r) = e.Place' root (tt ∷ m) (more_of-Selector x r)
with-first x other = other

place-same : (root : Named) (m : _) (row : _) → e.Place' root m row ≡ e.Place (record { root = root; selectors = items-the_row-Selector _ row })
unfolding shape-the_row-Selector-0 hidden-the_row-Selector-0 hidden
place-same root [] end_of-Selector = refl
place-same root (u ∷ us) (more_of-Selector x rest) = ap (with-first x) (place-same root us rest)

other-assign : (s : Scope) (p : FoundPlace) (v : Expr) → ((x : Designator) → v ≡ e.Place x → ⊥) → assigned s p v ≡ stmt.stored s.in_function (place_of v) p (found s p.known v)
other-assign s p (e.Place' root m row) h =
    absurd (h (record { root = root; selectors = items-the_row-Selector _ row }) (place-same root m row))
other-assign s p (e.Number n at) h = refl
other-assign s p (e.Truth b at) h = refl
other-assign s p (e.Call' name u row) h = refl
other-assign s p (e.Not' u row at) h = refl
other-assign s p (e.Minus' u row at) h = refl
other-assign s p (e.Chain' u row v links) h = refl
other-assign s p (e.Compare' op u row v right) h = refl
other-assign s p (e.Implies' u row v right) h = refl
other-assign s p (e.Choice' a b c d f g) h = refl
other-assign s p (e.Quantified' all a b c d at) h = refl
other-assign s p (e.IsUndefined' root u row at) h = refl

arm-Stored : (s : Scope) (k : Known) (to : Designator) (v : Expr) → ((x : Designator) → v ≡ e.Place x → ⊥) → stmt_part (assign_given s k to v) ≡ stored_judged s.in_function (place_of v) (place_part (designated s k to)) (part_of (found s (designated s k to).known v))
unfolding stmt_part assign_given place_part part_of designated
arm-Stored s k to v h =
    let P = place_found s k to in
    ap judged_stmt (other-assign s P v h) ∙ stored-is s.in_function (place_of v) P (found s P.known v)

known-Stored : (s : Scope) (k : Known) (to : Designator) (v : Expr) → ((x : Designator) → v ≡ e.Place x → ⊥) → (assign_given s k to v).known ≡ (found s (designated s k to).known v).known
unfolding assign_given designated
known-Stored s k to v h = ap (λ (f : FoundStmts). f.known) (other-assign s (place_found s k to) v h)

-- what the calls say, put together
pub stored-part : (x x' x'' : Context) (to : Designator) (v : Expr) (p : JudgedPlace) (j : Judged) (at : Span) (r : JudgedStmt) → ((d : Designator) → v ≡ e.Place d → ⊥) →
    p ≡ place_part (designated x.scope x.known to) → x' ≡ moved x (designated x.scope x.known to).known →
    j ≡ part_of (found x'.scope x'.known v) → x'' ≡ moved x' (found x'.scope x'.known v).known → at ≡ place_of v → r ≡ stored_judged x''.scope.in_function at p j →
    r ≡ stmt_part (assign_given x.scope x.known to v)
stored-part x x' x'' to v p j at r h pp xx jj yy aa rr =
    rr
    ∙ ap (λ (z : Context). stored_judged z.scope.in_function at p j) yy
    ∙ ap (λ z. stored_judged x'.scope.in_function z p j) aa
    ∙ ap (λ z. stored_judged x'.scope.in_function (place_of v) p z) jj
    ∙ ap (λ (z : Context). stored_judged z.scope.in_function (place_of v) p (part_of (found z.scope z.known v))) xx
    ∙ ap (λ z. stored_judged x.scope.in_function (place_of v) z (part_of (found x.scope (designated x.scope x.known to).known v))) pp
    ∙ sym (arm-Stored x.scope x.known to v h)

pub stored-context : (x x' x'' : Context) (to : Designator) (v : Expr) → ((d : Designator) → v ≡ e.Place d → ⊥) →
    x' ≡ moved x (designated x.scope x.known to).known → x'' ≡ moved x' (found x'.scope x'.known v).known →
    x'' ≡ moved x (assign_given x.scope x.known to v).known
stored-context x x' x'' to v h xx yy =
    yy
    ∙ ap (λ (z : Context). moved z (found z.scope z.known v).known) xx
    ∙ ap (moved x) (sym (known-Stored x.scope x.known to v h))

-- Calls

pub arm-Call : (s : Scope) (k : Known) (name : Named) (args : List Expr) → stmt_part (call_given s k name args) ≡ called_judged s.in_function name.at (judged_callee (callee_of s k name (looked s k name.name))) (arguments_of (list_arguments s k name.at (formals_in (judged_callee (callee_of s k name (looked s k name.name))).routine) args))
unfolding stmt_part call_given arguments_of
arm-Call s k name args =
    let c = callee_of s k name (looked s k name.name) in
    called-is s.in_function name.at c (list_arguments s k name.at (formals_of c) args)

pub known-Call : (s : Scope) (k : Known) (name : Named) (args : List Expr) → (call_given s k name args).known ≡ (list_arguments s k name.at (formals_in (judged_callee (callee_of s k name (looked s k name.name))).routine) args).known
unfolding call_given
known-Call s k name args = refl

-- Single words

pub arm-Clear : (s : Scope) (k : Known) (d : Designator) (at : Span) → stmt_part (clear_given s k d at) ≡ cleared_judged s.in_function at (place_part (designated s k d))
unfolding stmt_part clear_given place_part designated
arm-Clear s k d at = cleared-is s.in_function at (place_found s k d)

pub known-Clear : (s : Scope) (k : Known) (d : Designator) (at : Span) → (clear_given s k d at).known ≡ (designated s k d).known
unfolding clear_given designated
known-Clear s k d at = refl

pub arm-Undefine : (s : Scope) (k : Known) (d : Designator) (at : Span) → stmt_part (undefine_given s k d at) ≡ undefined_judged s.in_function at (place_part (designated s k d))
unfolding stmt_part undefine_given place_part designated
arm-Undefine s k d at = undefined-is s.in_function at (place_found s k d)

pub known-Undefine : (s : Scope) (k : Known) (d : Designator) (at : Span) → (undefine_given s k d at).known ≡ (designated s k d).known
unfolding undefine_given designated
known-Undefine s k d at = refl

pub arm-Assert : (s : Scope) (k : Known) (b : Expr) (at : Span) → stmt_part (assert_given s k b at) ≡ asserted_judged at (kept (fits is_truth (part_of (found s k b)).of) (place_of b) (part_of (found s k b)))
unfolding stmt_part assert_given part_of
arm-Assert s k b at =
    asserted-is at (wanted is_truth (place_of b) (found s k b))
    ∙ ap (λ j. asserted_judged at j) (kept-is is_truth (place_of b) (found s k b))

pub known-Assert : (s : Scope) (k : Known) (b : Expr) (at : Span) → (assert_given s k b at).known ≡ (found s k b).known
unfolding assert_given
known-Assert s k b at = refl

pub arm-PutText : (s : Scope) (k : Known) (at : Span) → stmt_part (put_given s k None at) ≡ one_judged (typed.PutText at) 0 None
unfolding stmt_part put_given
arm-PutText s k at = refl

pub known-PutText : (s : Scope) (k : Known) (at : Span) → (put_given s k None at).known ≡ k
unfolding put_given
known-PutText s k at = refl

pub arm-Put : (s : Scope) (k : Known) (b : Expr) (at : Span) → stmt_part (put_given s k (Some b) at) ≡ shown_judged at (kept (fits is_simple (part_of (found s k b)).of) (place_of b) (part_of (found s k b)))
unfolding stmt_part put_given part_of
arm-Put s k b at =
    shown-is at (wanted is_simple (place_of b) (found s k b))
    ∙ ap (λ j. shown_judged at j) (kept-is is_simple (place_of b) (found s k b))

pub known-Put : (s : Scope) (k : Known) (b : Expr) (at : Span) → (put_given s k (Some b) at).known ≡ (found s k b).known
unfolding put_given
known-Put s k b at = refl

pub arm-Give : (s : Scope) (k : Known) (of : Option Simple) (b : Expr) (at : Span) → stmt_part (give_given s k of b at) ≡ returned_judged at (kept (fits (is_result of) (part_of (found s k b)).of) (place_of b) (part_of (found s k b)))
unfolding stmt_part give_given part_of
arm-Give s k of b at =
    returned-is at (wanted (is_result of) (place_of b) (found s k b))
    ∙ ap (λ j. returned_judged at j) (kept-is (is_result of) (place_of b) (found s k b))

pub known-Give : (s : Scope) (k : Known) (of : Option Simple) (b : Expr) (at : Span) → (give_given s k of b at).known ≡ (found s k b).known
unfolding give_given
known-Give s k of b at = refl

-- `return`

pub arm-GiveValue : (s : Scope) (k : Known) (of : Option Simple) (b : Expr) (at : Span) → stmt_part (leave_given (WithValue of) s k (Some b) at) ≡ stmt_part (give_given s k of b at)
unfolding leave_given give_given
arm-GiveValue s k of b at = refl

pub known-GiveValue : (s : Scope) (k : Known) (of : Option Simple) (b : Expr) (at : Span) → (leave_given (WithValue of) s k (Some b) at).known ≡ (give_given s k of b at).known
unfolding leave_given give_given
known-GiveValue s k of b at = refl

pub arm-NoValue : (s : Scope) (k : Known) (of : Option Simple) (at : Span) → stmt_part (leave_given (WithValue of) s k None at) ≡ misplaced_judged at
unfolding stmt_part leave_given
arm-NoValue s k of at = refl

pub known-NoValue : (s : Scope) (k : Known) (of : Option Simple) (at : Span) → (leave_given (WithValue of) s k None at).known ≡ k
unfolding leave_given
known-NoValue s k of at = refl

pub arm-Leave : (s : Scope) (k : Known) (at : Span) → stmt_part (leave_given ByReturn s k None at) ≡ left_judged at None
unfolding stmt_part leave_given
arm-Leave s k at = refl

pub known-Leave : (s : Scope) (k : Known) (at : Span) → (leave_given ByReturn s k None at).known ≡ k
unfolding leave_given
known-Leave s k at = refl

pub arm-ValueLeft : (s : Scope) (k : Known) (b : Expr) (at : Span) → stmt_part (leave_given ByReturn s k (Some b) at) ≡ misplaced_judged at
unfolding stmt_part leave_given
arm-ValueLeft s k b at = refl

pub known-ValueLeft : (s : Scope) (k : Known) (b : Expr) (at : Span) → (leave_given ByReturn s k (Some b) at).known ≡ k
unfolding leave_given
known-ValueLeft s k b at = refl

pub arm-NoReturn : (s : Scope) (k : Known) (b : Option Expr) (at : Span) → stmt_part (leave_given AtEnd s k b at) ≡ misplaced_judged at
unfolding stmt_part leave_given
arm-NoReturn s k None at = refl
arm-NoReturn s k (Some b) at = refl

pub known-NoReturn : (s : Scope) (k : Known) (b : Option Expr) (at : Span) → (leave_given AtEnd s k b at).known ≡ k
unfolding leave_given
known-NoReturn s k None at = refl
known-NoReturn s k (Some b) at = refl

pub ruleset plains = (arm-Copied, known-Copied, arm-Call, known-Call, arm-Clear, known-Clear, arm-Undefine, known-Undefine, arm-Assert, known-Assert, arm-PutText, known-PutText, arm-Put, known-Put, arm-Give, known-Give, arm-GiveValue, known-GiveValue, arm-NoValue, known-NoValue, arm-Leave, known-Leave, arm-ValueLeft, known-ValueLeft, arm-NoReturn, known-NoReturn)

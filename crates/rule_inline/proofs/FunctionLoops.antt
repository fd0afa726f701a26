-- The body of a function has no loop over nodes, by a symmetry rule, and calls no procedure, as it is well typed. So
-- nothing is asked of the loops of functions.
use Rattle.std.proofs.Common.{◌≡◌, ℕ, suc, Bool, true, false, not, ◌&&◌, List, [], ◌∷◌, ◌++◌, reverse, Option, Some, inl, inr, refl, sym, ap, subst}
use Rattle.std.specs.Prelude.{slice_get, is_some, if◌then◌else◌}
use Rattle.std.specs.List.{flat_map, list_all}
use Rattle.std.specs.Option.{option_map_or}
use Rattle.std.proofs.lemmas.Bool.{and_parts}
use Rattle.std.proofs.lemmas.List.{reverse-append}
use Rattle.term_core.specs.Laws.{PlacingBinds}
use Rattle.murphi_ast.specs.declared.token.Span.{Span}
use Rattle.murphi_typed.specs.declared.types.Simple.{Simple}
use Rattle.murphi_typed.specs.declared.types.Simple.TheVariants as simple
use Rattle.murphi_typed.specs.declared.stmt.Stmt as st
use Rattle.murphi_typed.specs.declared.stmt.Stmt.{Stmt, Row_of-Stmt, end_of-Stmt, more_of-Stmt, Row_of-Arm, end_of-Arm, more_of-Arm, Row_of-Case, end_of-Case, more_of-Case}
use Rattle.murphi_typed.specs.declared.protocol.Formal.{Formal as DeclaredFormal}
use Rattle.murphi_typed.specs.declared.protocol.Routine.{Routine}
use Rattle.murphi_typed.specs.declared.protocol.Typed.{Typed}
use Rattle.murphi_typed.specs.Prefix.{is_over_nodes}
use Rattle.murphi_typed.specs.WellTyped.{Scope, is_function, exit_of, is_of, type_of, labels_fit, cases_fit, arms_fit, body_fits, stmt_fits, routine_scope, routine_fits, is_type, formal_allowed, is_simple_type, are_variables, binding, with_kinds}
use Rattle.murphi_typed.specs.Keeping.{LatestFit}
use Rattle.murphi_typed.specs.Laws.{ValuesFitInBodies, BodiesKeepTypes, FunctionsGiveResults, CalledBodiesAreTyped, TopBodiesAreTyped}
use Rattle.scalarset_rules.specs.Rules.{breaks_at, Standing, inner_statements, row_statements, arm_statements, case_statements, bad_for, for_breaks}
use Rattle.scalarset_rules.specs.Apart.{FunctionsHaveNoLoops}
use Rattle.rule_inline.specs.Parts.{Given as Gift, Site, with_value, Calls as TermCalls}
use Rattle.rule_inline.specs.Bodies.{calls_in, called_site}
use Rattle.rule_inline.specs.Loops.{is_loopless, are_loopless, loopless_arms, loopless_cases, KeepsRules}
use Rattle.rule_inline.specs.Laws.{PiecesSayFormula}
use Rattle.rule_inline.proofs.ValueLemmas.{absurd_false}
use Rattle.rule_inline.proofs.TermLemmas.{and_of}
use Rattle.rule_inline.proofs.StatementLemmas.{stmt_loops, row_loops, arm_loops, case_loops}
use Rattle.rule_inline.proofs.CallLaw.{fine_in, FunctionsFine}
use Rattle.rule_inline.proofs.FirstTerms.{FilledValues}
use Rattle.rule_inline.proofs.KindLemmas.{well_typed_more}
use Rattle.rule_inline.proofs.FormulaLaw.{pieces_say}
use Rattle.rule_inline.proofs.LooplessLaw.{reverse_loopless, functions_fine}

-- None of these statements is a loop over nodes

abbrev pub NoFor : List Standing → Type 0
NoFor [] = Unit {0}
NoFor (p ∷ ps) = (bad_for p.statement ≡ []) × NoFor ps

no_for_front : (ps qs : List Standing) → NoFor (ps ++ qs) → NoFor ps
no_for_front [] qs all = tt
no_for_front (p ∷ ps) qs (one, all) = (one, no_for_front ps qs all)

no_for_back : (ps qs : List Standing) → NoFor (ps ++ qs) → NoFor qs
no_for_back [] qs all = all
no_for_back (p ∷ ps) qs (one, all) = no_for_back ps qs all

none_left : {A : Type 0} (xs ys : List A) → (xs ++ ys) ≡ [] → (xs ≡ []) × (ys ≡ [])
none_left [] ys e = (refl, e)
none_left (x ∷ xs) ys e = cc

no_for_from : (ps : List Standing) → flat_map (λ (p : Standing). bad_for p.statement) ps ≡ [] → NoFor ps
no_for_from [] e = tt
no_for_from (p ∷ ps) e = let (one, more) = none_left (bad_for p.statement) _ e in (one, no_for_from ps more)

not_nodes : (b : Bool) (at : Span) → (if b then breaks_at 8 (at ∷ []) else []) ≡ [] → not b ≡ true
not_nodes true at e = cc
not_nodes false at e = refl

mutual
  unfolding inner_statements is_loopless

  loopless : (inside : Bool) (stmt : Stmt) → bad_for stmt ≡ [] → NoFor (inner_statements inside stmt) → is_loopless stmt ≡ true
  loopless inside (st.Block' _ body) e all = row_loopless inside body all
  loopless inside (st.Assign to into body) e all = refl
  loopless inside (st.Copy to into from) e all = refl
  loopless inside (st.CopyAll to from) e all = refl
  loopless inside (st.Call k args at) e all = refl
  loopless inside (st.If' _ arms _ otherwise at) e all =
      and_of (arms_loopless inside arms (no_for_front (arm_statements inside arms) (row_statements inside otherwise) all))
      (row_loopless inside otherwise (no_for_back (arm_statements inside arms) (row_statements inside otherwise) all))
  loopless inside (st.Switch' on _ cases _ otherwise at) e all =
      and_of (cases_loopless inside cases (no_for_front (case_statements inside cases) (row_statements inside otherwise) all))
      (row_loopless inside otherwise (no_for_back (case_statements inside cases) (row_statements inside otherwise) all))
  loopless inside (st.For' over _ body at) e all = and_of (not_nodes (is_over_nodes over) at e) (row_loopless _ body all)
  loopless inside (st.Clear place of at) e all = refl
  loopless inside (st.Undefine place at) e all = refl
  loopless inside (st.Error at) e all = refl
  loopless inside (st.Assert test at) e all = refl
  loopless inside (st.PutText at) e all = refl
  loopless inside (st.Put shown at) e all = refl
  loopless inside (st.Leave at) e all = refl
  loopless inside (st.Return body at) e all = refl

  row_loopless : {n : _} (inside : Bool) (body : Row_of-Stmt n) → NoFor (row_statements inside body) → are_loopless body ≡ true
  row_loopless inside end_of-Stmt all = refl
  row_loopless inside (more_of-Stmt first rest) (one, all) =
      and_of (loopless inside first one (no_for_front (inner_statements inside first) (row_statements inside rest) all))
      (row_loopless inside rest (no_for_back (inner_statements inside first) (row_statements inside rest) all))

  arms_loopless : {n : _} (inside : Bool) (arms : Row_of-Arm n) → NoFor (arm_statements inside arms) → loopless_arms arms ≡ true
  arms_loopless inside end_of-Arm all = refl
  arms_loopless inside (more_of-Arm test _ body rest) all =
      and_of (row_loopless inside body (no_for_front (row_statements inside body) (arm_statements inside rest) all))
      (arms_loopless inside rest (no_for_back (row_statements inside body) (arm_statements inside rest) all))

  cases_loopless : {n : _} (inside : Bool) (cases : Row_of-Case n) → NoFor (case_statements inside cases) → loopless_cases cases ≡ true
  cases_loopless inside end_of-Case all = refl
  cases_loopless inside (more_of-Case labels _ body rest) all =
      and_of (row_loopless inside body (no_for_front (row_statements inside body) (case_statements inside rest) all))
      (cases_loopless inside rest (no_for_back (row_statements inside body) (case_statements inside rest) all))

body_loopless : (body : Stmt) → for_breaks body ≡ [] → is_loopless body ≡ true
body_loopless body e = let (one, all) = no_for_from (record { inside = false; statement = body } ∷ inner_statements false body) e in loopless false body one all

-- The body of a function

not_true : (b : Bool) → b ≡ true → not b ≡ true → false ≡ true
not_true true e f = f
not_true false e f = e

module _ (Q : (n : _) → Site → Row_of-Stmt n → Type 0) (tcalls : TermCalls) (allowed : ℕ → Site → List Gift → Type 0) where
  mutual
    unfolding is_loopless stmt_loops stmt_fits

    free_fine : (site : Site) (scope : Scope) (stmt : Stmt) → is_function scope.exit ≡ true → stmt_fits scope stmt ≡ true → is_loopless stmt ≡ true → stmt_loops tcalls allowed Q site stmt
    free_fine site scope (st.Block' _ body) f fits e = row_free site scope body f fits e
    free_fine site scope (st.Assign to into body) f fits e = tt
    free_fine site scope (st.Copy to into from) f fits e = tt
    free_fine site scope (st.CopyAll to from) f fits e = tt
    free_fine site scope (st.Call k args at) f fits e = λ T. absurd_false (not_true (is_function scope.exit) f (and_parts (not (is_function scope.exit)) _ fits).0)
    free_fine site scope (st.If' _ arms _ otherwise at) f fits e =
        let (one, two) = and_parts (loopless_arms arms) (are_loopless otherwise) e in
        let (a, o) = and_parts (arms_fit scope arms) (body_fits scope otherwise) fits in
        (arms_free site scope arms f a one, row_free site scope otherwise f o two)
    free_fine site scope (st.Switch' on _ cases _ otherwise at) f fits e =
        let (one, two) = and_parts (loopless_cases cases) (are_loopless otherwise) e in
        let (typed, rest) = and_parts (is_some (type_of scope on)) (cases_fit scope (type_of scope on) cases && body_fits scope otherwise) fits in
        let (c, o) = and_parts (cases_fit scope (type_of scope on) cases) (body_fits scope otherwise) rest in
        (cases_free site scope (type_of scope on) cases f c one, row_free site scope otherwise f o two)
    free_fine site scope (st.For' simple.Node _ body at) f fits e = absurd_false e
    free_fine site scope (st.For' simple.Truth _ body at) f fits e = λ w. row_free (with_value site w) (binding scope simple.Truth) body f fits e
    free_fine site scope (st.For' (simple.Range low high) _ body at) f fits e =
        let (fine, rest) = and_parts (is_simple_type scope.kinds (simple.Range low high)) (body_fits (binding scope (simple.Range low high)) body) fits in
        λ w. row_free (with_value site w) (binding scope (simple.Range low high)) body f rest e
    free_fine site scope (st.For' (simple.Listed kind count) _ body at) f fits e =
        let (fine, rest) = and_parts (is_simple_type scope.kinds (simple.Listed kind count)) (body_fits (binding scope (simple.Listed kind count)) body) fits in
        λ w. row_free (with_value site w) (binding scope (simple.Listed kind count)) body f rest e
    free_fine site scope (st.For' (simple.Scalarset kind count) _ body at) f fits e =
        let (fine, rest) = and_parts (is_simple_type scope.kinds (simple.Scalarset kind count)) (body_fits (binding scope (simple.Scalarset kind count)) body) fits in
        λ w. row_free (with_value site w) (binding scope (simple.Scalarset kind count)) body f rest e
    free_fine site scope (st.Clear place of at) f fits e = tt
    free_fine site scope (st.Undefine place at) f fits e = tt
    free_fine site scope (st.Error at) f fits e = tt
    free_fine site scope (st.Assert test at) f fits e = tt
    free_fine site scope (st.PutText at) f fits e = tt
    free_fine site scope (st.Put shown at) f fits e = tt
    free_fine site scope (st.Leave at) f fits e = tt
    free_fine site scope (st.Return body at) f fits e = tt

    row_free : {n : _} (site : Site) (scope : Scope) (body : Row_of-Stmt n) → is_function scope.exit ≡ true → body_fits scope body ≡ true → are_loopless body ≡ true → row_loops tcalls allowed Q site body
    row_free site scope end_of-Stmt f fits e = tt
    row_free site scope (more_of-Stmt first rest) f fits e =
        let (one, two) = and_parts (is_loopless first) (are_loopless rest) e in
        let (a, b) = and_parts (stmt_fits scope first) (body_fits scope rest) fits in
        (free_fine site scope first f a one, row_free site scope rest f b two)

    arms_free : {n : _} (site : Site) (scope : Scope) (arms : Row_of-Arm n) → is_function scope.exit ≡ true → arms_fit scope arms ≡ true → loopless_arms arms ≡ true → arm_loops tcalls allowed Q site arms
    arms_free site scope end_of-Arm f fits e = tt
    arms_free site scope (more_of-Arm test _ body rest) f fits e =
        let (one, two) = and_parts (are_loopless body) (loopless_arms rest) e in
        let (t, more) = and_parts (is_of simple.Truth (type_of scope test)) (body_fits scope body && arms_fit scope rest) fits in
        let (a, b) = and_parts (body_fits scope body) (arms_fit scope rest) more in
        (row_free site scope body f a one, arms_free site scope rest f b two)

    cases_free : {n : _} (site : Site) (scope : Scope) (u : Option Simple) (cases : Row_of-Case n) → is_function scope.exit ≡ true → cases_fit scope u cases ≡ true → loopless_cases cases ≡ true → case_loops tcalls allowed Q site cases
    cases_free site scope u end_of-Case f fits e = tt
    cases_free site scope u (more_of-Case labels _ body rest) f fits e =
        let (one, two) = and_parts (are_loopless body) (loopless_cases rest) e in
        let (l, more) = and_parts (labels_fit scope u labels) (body_fits scope body && cases_fit scope u rest) fits in
        let (a, b) = and_parts (body_fits scope body) (cases_fit scope u rest) more in
        (row_free site scope body f a one, cases_free site scope u rest f b two)

-- Lists of routines

abbrev pub FunctionsFree : List Routine → Type 0
FunctionsFree [] = Unit {0}
FunctionsFree (r ∷ earlier) = (is_some r.result ≡ true → is_loopless r.body ≡ true) × FunctionsFree earlier

free_joined : (xs ys : List Routine) → FunctionsFree xs → FunctionsFree ys → FunctionsFree (xs ++ ys)
free_joined [] ys a b = b
free_joined (r ∷ xs) ys (one, a) b = (one, free_joined xs ys a b)

reverse_free : (rs : List Routine) → ((k : ℕ) (r : Routine) → slice_get rs k ≡ Some r → is_some r.result ≡ true → is_loopless r.body ≡ true) → FunctionsFree (reverse rs)
reverse_free [] each = tt
reverse_free (r ∷ rs) each = subst FunctionsFree (sym (reverse-append (r ∷ []) rs)) (free_joined (reverse rs) (r ∷ []) (reverse_free rs (λ k q there. each (suc k) q there)) (each 0 r refl, tt))

pub body_fits_in : (P : Typed) (earlier : List Routine) (r : Routine) → routine_fits P earlier r ≡ true → stmt_fits (routine_scope P earlier r) r.body ≡ true
body_fits_in P earlier r e =
    (and_parts (are_variables P.kinds r.locals) (stmt_fits (routine_scope P earlier r) r.body)
    (and_parts (option_map_or (is_simple_type P.kinds) r.result true) (are_variables P.kinds r.locals && stmt_fits (routine_scope P earlier r) r.body)
    (and_parts (list_all (λ (f : DeclaredFormal). is_type P.kinds f.of && formal_allowed r.result f) r.formals) (option_map_or (is_simple_type P.kinds) r.result true && (are_variables P.kinds r.locals && stmt_fits (routine_scope P earlier r) r.body)) e).1).1).1

functions_free : (P : Typed) (Q : List Routine → (n : _) → Site → Row_of-Stmt n → Type 0) (tail : List Routine) → LatestFit P tail → FunctionsFree tail → FunctionsFine Q tail
functions_free P Q [] known all = tt
functions_free P Q (r ∷ earlier) (fits, known) (one, all) =
    ((λ u site gifts is. free_fine (Q earlier) (calls_in earlier) (fine_in Q earlier) (called_site site r.result gifts) (routine_scope P (reverse earlier) r) r.body (ap (λ o. is_function (exit_of o)) is) (body_fits_in P (reverse earlier) r fits) (one (ap is_some is))), functions_free P Q earlier known all)

-- in a protocol that keeps the rules functions have their loops as asked, whatever is asked
pub kept_functions : FunctionsHaveNoLoops → (P : Typed) (T : Typed) → LatestFit P (reverse T.routines) → KeepsRules T → (Q : List Routine → (n : _) → Site → Row_of-Stmt n → Type 0) → FunctionsFine Q (reverse T.routines)
kept_functions none P T known (inl (node, (is_node, unbroken))) Q = functions_free P Q (reverse T.routines) known (reverse_free T.routines (λ k r there is. body_loopless r.body (none T node k r is_node unbroken there is)))
kept_functions none P T known (inr free) Q = functions_fine Q (reverse T.routines) (reverse_loopless T.routines free.routines)

-- Formulas: what they call are functions, so no loop over nodes is met

abbrev NoLoop : List Routine → (n : _) → Site → Row_of-Stmt n → Type 0
NoLoop latest n site body = ⊥

pub formulas_said : PlacingBinds → ValuesFitInBodies → BodiesKeepTypes → FunctionsGiveResults → CalledBodiesAreTyped → TopBodiesAreTyped → FilledValues → FunctionsHaveNoLoops → PiecesSayFormula KeepsRules
formulas_said binds fit keep results enter top tables none T more f N s well rules fits one state =
    let typed = top N (with_kinds T more) [] [] [] s (well_typed_more more T well) refl refl refl (record { count = state.count; values = state.values }) in
    pieces_say binds fit keep results enter top tables N T more s (well_typed_more more T well) state NoLoop
    (λ latest types b at n body fits q each. absurd q)
    (kept_functions none (with_kinds T more) T typed.known rules NoLoop) f fits

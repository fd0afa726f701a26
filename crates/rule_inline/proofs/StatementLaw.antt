-- Statements, one case for each form, where what calls do is given, and what is asked of loops over nodes.
use Rattle.std.proofs.Common.{◌≡◌, ℕ, true, false, not, ◌&&◌, List, [], ◌∷◌, ◌++◌, length, Option, None, Some, refl, sym, ap, ◌∙◌, subst}
use Rattle.std.specs.Prelude.{slice_get, is_some}
use Rattle.std.specs.Option.{option_map_or}
use Rattle.std.proofs.lemmas.Bool.{and_parts}
use Rattle.term_core.specs.declared.value.Value.{Value}
use Rattle.term_core.specs.declared.value.Value.TheVariants as v
use Rattle.term_core.specs.declared.term.Term.{Term}
use Rattle.term_core.specs.Nodes.{is_node}
use Rattle.term_core.specs.Values.{truth}
use Rattle.term_core.specs.Meaning.{Cells, value_of}
use Rattle.term_core.specs.Laws.{PlacingBinds}
use Rattle.murphi_ast.specs.declared.token.Span.{Span}
use Rattle.murphi_typed.specs.declared.types.Simple.{Simple}
use Rattle.murphi_typed.specs.declared.types.Simple.TheVariants as simple
use Rattle.murphi_typed.specs.declared.expr.Expr.{Expr}
use Rattle.murphi_typed.specs.declared.expr.Arguments.{Arguments}
use Rattle.murphi_typed.specs.declared.protocol.Routine.{Routine}
use Rattle.murphi_typed.specs.Values.{is_value, values}
use Rattle.murphi_typed.specs.declared.stmt.Stmt as st
use Rattle.murphi_typed.specs.declared.stmt.Stmt.{Stmt, Row_of-Stmt, end_of-Stmt, more_of-Stmt, Row_of-Arm, end_of-Arm, more_of-Arm, Row_of-Case, end_of-Case, more_of-Case}
use Rattle.murphi_typed.specs.declared.protocol.Typed.{Typed}
use Rattle.murphi_typed.specs.Store.{Cells as Store, only}
use Rattle.murphi_typed.specs.Outcome.{Outcome, Got, given}
use Rattle.murphi_typed.specs.Expressions.{Calls, with_bound, value_of as worked}
use Rattle.murphi_typed.specs.Prefix.{is_over_nodes}
use Rattle.murphi_typed.specs.WellTyped.{binding as scope_binding, is_simple_type, is_of, same_type, is_cell_of, holds_values_of, are_alike, labels_fit, is_function, is_procedure, returns, is_type, Exit, AtEnd, ByReturn, WithValue, stmt_fits, body_fits, arms_fit, cases_fit, may_write, root_of, type_of, place_type, arguments_fit}
use Rattle.murphi_typed.specs.Keeping.{Declared, AreKept}
use Rattle.murphi_typed.specs.Laws.{ValuesFitInBodies, BodiesKeepTypes, FunctionsGiveResults}
use Rattle.rule_inline.specs.Tables.{Leaving, Terms, under_variable, chosen}
use Rattle.rule_inline.specs.Bodies.{followed, reached, cleared, all_undefined, Branching, branched, labels_of, among, turns as term_turns, for_nodes, taken, done_by, all_done, arms_done, cases_done}
use Rattle.rule_inline.specs.Parts.{Given as Gift, Site, with_value, with_variable, Valued, Calls as TermCalls, Done, fixed_values, valued_of}
use Rattle.rule_inline.proofs.ValueLemmas.{absurd_false}
use Rattle.rule_inline.proofs.TermLemmas.{value-Known, is_true, length-one_more}
use Rattle.rule_inline.proofs.Outcome.{AllHold, Tells, tells_given, tells_map, tells_unless}
use Rattle.rule_inline.proofs.PlaceLemmas.{Rep}
use Rattle.rule_inline.proofs.TypeLemmas.{of_type, are_values, values_fixed}
use Rattle.rule_inline.proofs.SceneLemmas.{typed_binding, at_frame, inner}
use Rattle.rule_inline.proofs.QuantifierLemmas.{given_twice}
use Rattle.rule_inline.proofs.PartLemmas.{Here, FunctionTells}
use Rattle.murphi_typed.specs.Execution.{Ending, Next, then_on, turns, cleared as store_cleared, is_among, run, run_all, run_arms, run_cases, calls_of}
use Rattle.rule_inline.proofs.ChangeLemmas.{Unwritten, CallsUnwritten, row_unwritten}
use Rattle.rule_inline.proofs.LeftLemmas.{SameTerms, row_left}
use Rattle.rule_inline.proofs.EndLemmas.{result_of, Body, typed_after, further, body_value, body_node, EndsWith, ends_same, checked, taken_same, BranchEnds, chosen_ends}
use Rattle.rule_inline.proofs.StatementLemmas.{stmt_loops, row_loops, arm_loops, case_loops, then_told, Follows, ProcedureTells, value_told, assign_told, copy_told, copy_all_told, set_told, cleared_shows, typed_place, some_place, failed_told, assert_told, leave_told, return_told}
use Rattle.rule_inline.proofs.BranchLemmas.{call_told, last_told, one_told, one_of_is, labels_told, turns_told}

-- what is asked of a loop over nodes, given what its body does once
abbrev pub LoopsTell : (binds : PlacingBinds) (fit : ValuesFitInBodies) (keep : BodiesKeepTypes) (results : FunctionsGiveResults) (s : Cells) (P : Typed) (latest : List Routine) (types : Declared) (tcalls : TermCalls) (allowed : ℕ → Site → List Gift → Type 0) → ((n : _) → Site → Row_of-Stmt n → Type 0) → Type 0
LoopsTell binds fit keep results s P latest types tcalls allowed Q =
    (b : Body s P latest types) (at : Span) (n : _) (body : Row_of-Stmt n)
    → body_fits (scope_binding b.scope simple.Node) body ≡ true → Q n (at_frame b.fr b.site) body
    → ((k : ℕ) (is : is_node b.scene.nodes k ≡ true) → Follows binds fit keep results s P latest types tcalls allowed (body_node results s P latest types b k is) at (run_all (calls_of latest) (with_bound b.scene (v.Node k)) b.cells body) (all_done tcalls (at_frame (b.fr ++ k ∷ []) (inner b.fr b.site)) (under_variable (length b.fr) b.T) body))
    → Follows binds fit keep results s P latest types tcalls allowed b at (turns (λ x c. run_all (calls_of latest) (with_bound b.scene x) c body) (values b.scene.nodes simple.Node) b.cells) (for_nodes (at_frame b.fr b.site) b.T (all_done tcalls (with_variable (at_frame b.fr b.site)) (under_variable (length b.fr) b.T) body))

module _ (binds : PlacingBinds) (fit : ValuesFitInBodies) (keep : BodiesKeepTypes) (results : FunctionsGiveResults) (s : Cells) (P : Typed) (latest : List Routine) (types : Declared) (tcalls : TermCalls) (allowed : ℕ → Site → List Gift → Type 0) (functions : (h : Here s P latest types) → FunctionTells s P latest types tcalls h) (procedures : (b : Body s P latest types) → ProcedureTells binds fit keep results s P latest types tcalls allowed b) (unwritten : CallsUnwritten tcalls) (Q : (n : _) → Site → Row_of-Stmt n → Type 0) (loop_tells : LoopsTell binds fit keep results s P latest types tcalls allowed Q) where
  abbrev BB : Type 0
  BB = Body s P latest types

  abbrev calls : Calls
  calls = calls_of latest

  abbrev site_at : BB → Site
  site_at b = at_frame b.fr b.site

  abbrev pub Follow : BB → Span → Outcome Ending → Done → Type 0
  Follow b at o body = Follows binds fit keep results s P latest types tcalls allowed b at o body

  kept_after : (b : BB) (stmt : Stmt) (next : Store) → stmt_fits b.scope stmt ≡ true → run calls b.scene b.cells stmt ≡ Got (Next next) → AreKept b.scene.nodes types next
  kept_after b stmt next fits was = keep P latest types b.scope b.scene b.cells stmt (Next next) b.typed fits was

  -- a statement among others
  taken_told : (b : BB) (at : Span) (o : Outcome Ending) (body : Done) → Follow b at o body → Follow b at o (taken (site_at b) b.T body)
  taken_told b at o body told =
      tells_map b.scene.nodes s b.fr body.demands (given o (checked b.scene.nodes s at b.site.result)) _ _ told
      (λ e ends. ends_same b.scene.nodes s b.scene.depth b.fr b.site.result body.change ((taken (site_at b) b.T body).change) e (taken_same b.scene.nodes s b.scene.depth b.fr b.site b.T body b.staying) ends)

  -- statements in turn, given the first and those that follow
  row_told : {n : _} (b : BB) (at : Span) (first : Stmt) (rest : Row_of-Stmt n) → stmt_fits b.scope first ≡ true → Follow b at (run calls b.scene b.cells first) (done_by tcalls (site_at b) b.T first)
      → ((T : Terms) (c : Store) (kept : AreKept b.scene.nodes types c) (rep : Rep b.scene.nodes s b.scene.depth b.fr T c) (staying : is_true b.scene.nodes s b.fr (T Leaving) ≡ false) → Follow (further b T c kept rep staying) at (run_all calls b.scene c rest) (all_done tcalls (site_at b) T rest))
      → Follow b at (given (run calls b.scene b.cells first) (λ e. then_on e (λ next. run_all calls b.scene next rest))) (followed (taken (site_at b) b.T (done_by tcalls (site_at b) b.T first)) (λ next. all_done tcalls (site_at b) next rest))
  row_told b at first rest fits told more =
      then_told b.scene.nodes s b.scene.depth b.fr at b.site.result (run calls b.scene b.cells first) (λ next. run_all calls b.scene next rest) (taken (site_at b) b.T (done_by tcalls (site_at b) b.T first)) (λ next. all_done tcalls (site_at b) next rest)
      (taken_told b at (run calls b.scene b.cells first) (done_by tcalls (site_at b) b.T first) told)
      (λ c was rep staying. more ((taken (site_at b) b.T (done_by tcalls (site_at b) b.T first)).change.now) c (kept_after b first c fits was) rep staying)
      (λ left. subst (λ d. AllHold b.scene.nodes s b.fr ((all_done tcalls (site_at b) ((taken (site_at b) b.T (done_by tcalls (site_at b) b.T first)).change.now) rest).demands) × SameTerms b.scene.nodes s d b.fr ((taken (site_at b) b.T (done_by tcalls (site_at b) b.T first)).change.now) ((all_done tcalls (site_at b) ((taken (site_at b) b.T (done_by tcalls (site_at b) b.T first)).change.now) rest).change.now)) b.sited.depth
      (row_left b.scene.nodes s tcalls unwritten rest b.fr b.site ((taken (site_at b) b.T (done_by tcalls (site_at b) b.T first)).change.now) left))

  -- branches taken together
  branched_told : (b : BB) (at : Span) (o : Outcome Ending) (br : Branching) → Tells b.scene.nodes s b.fr (given o (checked b.scene.nodes s at b.site.result)) br.demands (BranchEnds b.scene.nodes s b.scene.depth b.fr b.site.result b.T br) → Follow b at o (branched (site_at b) b.T [] br)
  branched_told b at o br told = tells_map b.scene.nodes s b.fr br.demands (given o (checked b.scene.nodes s at b.site.result)) _ _ told (λ e facts. chosen_ends b.scene.nodes s b.scene.depth b.fr b.site.result b.T br e facts)

  switch_told : {X : Type 0} (b : BB) (at : Span) (asked : Outcome X) (on : Valued) (P' : X → Type 0) (R : X → Outcome Ending) (br : Branching) → Tells b.scene.nodes s b.fr asked on.demands P' → ((x : X) → P' x → Tells b.scene.nodes s b.fr (given (R x) (checked b.scene.nodes s at b.site.result)) br.demands (BranchEnds b.scene.nodes s b.scene.depth b.fr b.site.result b.T br)) → Follow b at (given asked R) (branched (site_at b) b.T (reached (site_at b) b.T on.demands) br)
  switch_told b at asked on P' R br first rest =
      subst (λ q. Tells b.scene.nodes s b.fr q (reached (site_at b) b.T on.demands ++ br.demands) (EndsWith b.scene.nodes s b.scene.depth b.fr b.site.result (chosen (length b.fr) b.T br.branches br.otherwise))) (sym (given_twice asked R (checked b.scene.nodes s at b.site.result)))
      (tells_given b.scene.nodes s b.fr (reached (site_at b) b.T on.demands) br.demands asked _ _ _ (tells_unless b.scene.nodes s b.fr (b.T Leaving) on.demands asked _ b.staying first)
      (λ x was is. tells_map b.scene.nodes s b.fr br.demands (given (R x) (checked b.scene.nodes s at b.site.result)) _ _ (rest x is) (λ e facts. chosen_ends b.scene.nodes s b.scene.depth b.fr b.site.result b.T br e facts)))

  procedure_found : (b : BB) (k : ℕ) (args : Arguments) → option_map_or (λ r. not (is_some r.result) && arguments_fit b.scope r.formals args) (slice_get b.scope.routines k) false ≡ true → (r : Routine) × (slice_get b.scope.routines k ≡ Some r) × (r.result ≡ None) × (arguments_fit b.scope r.formals args ≡ true)
  procedure_found b k args e = go (slice_get b.scope.routines k) refl e
    where
      none_is : (o : Option Simple) → not (is_some o) ≡ true → o ≡ None
      none_is None e = refl
      none_is (Some u) e = absurd_false e

      go : (o : Option Routine) → slice_get b.scope.routines k ≡ o → option_map_or (λ r. not (is_some r.result) && arguments_fit b.scope r.formals args) o false ≡ true → (r : Routine) × (slice_get b.scope.routines k ≡ Some r) × (r.result ≡ None) × (arguments_fit b.scope r.formals args ≡ true)
      go None was e = absurd_false e
      go (Some r) was e = let (none, fits) = and_parts (not (is_some r.result)) (arguments_fit b.scope r.formals args) e in (r, was, none_is r.result none, fits)

  found_type : (o : Option Simple) → is_some o ≡ true → (u : Simple) × (o ≡ Some u)
  found_type None e = absurd_false e
  found_type (Some u) e = (u, refl)

  leaves : (b : BB) → is_procedure b.scope.exit ≡ true → b.site.result ≡ None
  leaves b e = b.exits ∙ go b.scope.exit e
    where
      go : (x : Exit) → is_procedure x ≡ true → result_of x ≡ None
      go AtEnd e = absurd_false e
      go ByReturn e = refl
      go (WithValue u) e = absurd_false e

  returns_of : (b : BB) (o : Option Simple) → returns b.scope.exit o ≡ true → (u : Simple) × (b.site.result ≡ Some u) × (is_of u o ≡ true)
  returns_of b o e = let (u, is, fits) = go b.scope.exit e in (u, b.exits ∙ is, fits)
    where
      go : (x : Exit) → returns x o ≡ true → (u : Simple) × (result_of x ≡ Some u) × (is_of u o ≡ true)
      go AtEnd e = absurd_false e
      go ByReturn e = absurd_false e
      go (WithValue u) e = (u, refl, e)

  truth_told : (b : BB) (from : Span) (test : Expr) → is_of simple.Truth (type_of b.scope test) ≡ true → Tells b.scene.nodes s b.fr (worked calls b.scene from b.cells test) ((valued_of tcalls (site_at b) b.T test).demands) (λ w. is_true b.scene.nodes s b.fr (valued_of tcalls (site_at b) b.T test).term ≡ truth w)
  truth_told b from test fits =
      tells_map b.scene.nodes s b.fr ((valued_of tcalls (site_at b) b.T test).demands) (worked calls b.scene from b.cells test) _ _
      (value_told binds fit keep results s P latest types tcalls allowed functions procedures unwritten b from test simple.Truth (of_type simple.Truth (type_of b.scope test) fits)) (λ w is. ap truth is)

  among_told : (b : BB) (from : Span) (on : Term) (w : Value) (labels : List Expr) → value_of b.scene.nodes s b.fr on ≡ w → (u : Option Simple) → labels_fit b.scope u labels ≡ true → Tells b.scene.nodes s b.fr (is_among (worked calls b.scene from b.cells) w labels) ((among (labels_of (valued_of tcalls (site_at b) b.T) (site_at b) on labels)).demands) (λ found. is_true b.scene.nodes s b.fr (among (labels_of (valued_of tcalls (site_at b) b.T) (site_at b) on labels)).term ≡ found)
  among_told b from on w labels is u fits =
      tells_map b.scene.nodes s b.fr _ (is_among (worked calls b.scene from b.cells) w labels) _ _
      (labels_told binds fit keep results s P latest types tcalls allowed functions procedures unwritten b from on w labels is u fits)
      (λ found e. one_of_is binds fit keep results s P latest types tcalls allowed functions procedures unwritten b.scene.nodes b.fr ((labels_of (valued_of tcalls (site_at b) b.T) (site_at b) on labels).tests) ∙ e)

  node_loops : {n : _} (b : BB) (k : ℕ) (body : Row_of-Stmt n) → row_loops tcalls allowed Q (with_variable (site_at b)) body → row_loops tcalls allowed Q (at_frame (b.fr ++ k ∷ []) (inner b.fr b.site)) body
  node_loops b k body loops = subst (λ m. row_loops tcalls allowed Q (record (inner b.fr b.site) { frame = m }) body) (sym (length-one_more b.fr k)) loops

  -- a loop over a type that is not of nodes
  finite_loop : {n : _} (b : BB) (at : Span) (over : Simple) (body : Row_of-Stmt n) (block : Stmt) → is_over_nodes over ≡ false → is_simple_type b.scope.kinds over ≡ true → stmt_fits (scope_binding b.scope over) block ≡ true
      → ((x : Value) (c : Store) → run calls (with_bound b.scene x) c block ≡ run_all calls (with_bound b.scene x) c body)
      → ((c : BB) → Follow c at (run_all calls c.scene c.cells body) (all_done tcalls (site_at c) c.T body) → Unit {0})
      → ((T : Terms) (c : Store) (kept : AreKept b.scene.nodes types c) (rep : Rep b.scene.nodes s b.scene.depth b.fr T c) (staying : is_true b.scene.nodes s b.fr (T Leaving) ≡ false) (x : Value) (is : is_value b.scene.nodes over x ≡ true) (fine : is_simple_type b.scope.kinds over ≡ true) → Follow (body_value results s P latest types (further b T c kept rep staying) over x is fine) at (run_all calls (with_bound b.scene x) c body) (all_done tcalls (with_value (site_at b) x) T body))
      → Follow b at (turns (λ x c. run_all calls (with_bound b.scene x) c body) (values b.scene.nodes over) b.cells) (term_turns (λ x T. all_done tcalls (with_value (site_at b) x) T body) (fixed_values over) b.T)
  finite_loop b at over body block nn fine fits same ignored each =
      subst (λ xs. Follow b at (turns (λ x c. run_all calls (with_bound b.scene x) c body) xs b.cells) (term_turns (λ x T. all_done tcalls (with_value (site_at b) x) T body) (fixed_values over) b.T)) (sym (values_fixed b.scene.nodes over nn))
      (turns_told binds fit keep results s P latest types tcalls allowed functions procedures unwritten at over body b fine (λ T c kept rep staying x is. each T c kept rep staying x is fine)
      (λ T c kept x is next was. keep P latest types (scope_binding b.scope over) (with_bound b.scene x) c block (Next next)
      (typed_binding P latest types calls b.scope b.scene c over x (record {
        fits = b.typed.fits;
        fine = b.typed.fine;
        bound = b.typed.bound;
        lengths = b.typed.lengths;
        results = results P latest types b.scope b.scene b.cells b.typed;
        kept = kept;
        known = b.typed.routines;
      }) (typed_after P latest types b.scope b.scene b.cells c b.typed kept) is fine) fits (same x c ∙ was))
      (fixed_values over) (are_values b.scene.nodes over nn) b.T b.cells b.typed.kept b.rep b.staying)

  mutual
    unfolding run stmt_fits done_by stmt_loops

    pub tells_stmt : (stmt : Stmt) (b : BB) (at : Span) → stmt_fits b.scope stmt ≡ true → stmt_loops tcalls allowed Q (site_at b) stmt → Follow b at (run calls b.scene b.cells stmt) (done_by tcalls (site_at b) b.T stmt)
    tells_stmt (st.Block' _ body) b at fits loops = tells_row body b at fits loops
    tells_stmt (st.Assign to into body) b at fits loops =
        let (writable, rest) = and_parts (may_write b.scope (root_of to)) (is_cell_of into (place_type b.scope to) && is_of into (type_of b.scope body)) fits in
        let (cell, value) = and_parts (is_cell_of into (place_type b.scope to)) (is_of into (type_of b.scope body)) rest in
        assign_told binds fit keep results s P latest types tcalls allowed functions procedures unwritten b at to into body cell value
    tells_stmt (st.Copy to into from) b at fits loops =
        let (writable, rest) = and_parts (may_write b.scope (root_of to)) (is_cell_of into (place_type b.scope to) && holds_values_of into (place_type b.scope from)) fits in
        let (cell, value) = and_parts (is_cell_of into (place_type b.scope to)) (holds_values_of into (place_type b.scope from)) rest in
        copy_told binds fit keep results s P latest types tcalls allowed functions procedures unwritten b at to into from cell value
    tells_stmt (st.CopyAll to from) b at fits loops =
        let (writable, alike) = and_parts (may_write b.scope (root_of to)) (are_alike (place_type b.scope to) (place_type b.scope from)) fits in
        copy_all_told binds fit keep results s P latest types tcalls allowed functions procedures unwritten b at to from alike
    tells_stmt (st.Call k args from) b at fits loops =
        let (outside, rest) = and_parts (not (is_function b.scope.exit)) (option_map_or (λ r. not (is_some r.result) && arguments_fit b.scope r.formals args) (slice_get b.scope.routines k) false) fits in
        let (r, found, none, fit_args) = procedure_found b k args rest in
        call_told binds fit keep results s P latest types tcalls allowed functions procedures unwritten b at from k args r found none fit_args (loops b.T)
    tells_stmt (st.If' _ arms _ otherwise from) b at fits loops =
        let (a, o) = and_parts (arms_fit b.scope arms) (body_fits b.scope otherwise) fits in
        let (arm, other) = loops in
        branched_told b at (run_arms calls b.scene from b.cells arms (run_all calls b.scene b.cells otherwise)) (arms_done tcalls (site_at b) b.T arms (all_done tcalls (site_at b) b.T otherwise))
        (tells_arms arms b at from (run_all calls b.scene b.cells otherwise) (all_done tcalls (site_at b) b.T otherwise) a arm (row_unwritten tcalls unwritten (site_at b) b.T otherwise) (tells_row otherwise b at o other))
    tells_stmt (st.Switch' on _ cases _ otherwise from) b at fits loops =
        let (one, rest) = and_parts (is_some (type_of b.scope on)) (cases_fit b.scope (type_of b.scope on) cases && body_fits b.scope otherwise) fits in
        let (c, o) = and_parts (cases_fit b.scope (type_of b.scope on) cases) (body_fits b.scope otherwise) rest in
        let (case, other) = loops in
        let (u, found) = found_type (type_of b.scope on) one in
        switch_told b at (worked calls b.scene from b.cells on) (valued_of tcalls (site_at b) b.T on) (λ w. value_of b.scene.nodes s b.fr (valued_of tcalls (site_at b) b.T on).term ≡ w) (λ w. run_cases calls b.scene from b.cells w cases (run_all calls b.scene b.cells otherwise)) (cases_done tcalls (site_at b) b.T (valued_of tcalls (site_at b) b.T on).term cases (all_done tcalls (site_at b) b.T otherwise))
        (value_told binds fit keep results s P latest types tcalls allowed functions procedures unwritten b from on u found)
        (λ w is. tells_cases cases b at from w (valued_of tcalls (site_at b) b.T on).term is (type_of b.scope on) (run_all calls b.scene b.cells otherwise) (all_done tcalls (site_at b) b.T otherwise) c case (row_unwritten tcalls unwritten (site_at b) b.T otherwise) (tells_row otherwise b at o other))
    tells_stmt (st.For' simple.Node shape body from) b at fits loops =
        let (here_loop, inner_loops) = loops in
        loop_tells b at _ body fits here_loop (λ k is. tells_row body (body_node results s P latest types b k is) at fits (node_loops b k body inner_loops))
    tells_stmt (st.For' simple.Truth shape body from) b at fits loops =
        finite_loop b at simple.Truth body (st.Block' shape body) refl refl fits (λ x c. refl) (λ c told. tt)
        (λ T c kept rep staying x is fine. tells_row body (body_value results s P latest types (further b T c kept rep staying) simple.Truth x is fine) at fits (loops x))
    tells_stmt (st.For' (simple.Range low high) shape body from) b at fits loops =
        let (fine, rest) = and_parts (is_simple_type b.scope.kinds (simple.Range low high)) (body_fits (scope_binding b.scope (simple.Range low high)) body) fits in
        finite_loop b at (simple.Range low high) body (st.Block' shape body) refl fine rest (λ x c. refl) (λ c told. tt)
        (λ T c kept rep staying x is fine. tells_row body (body_value results s P latest types (further b T c kept rep staying) (simple.Range low high) x is fine) at rest (loops x))
    tells_stmt (st.For' (simple.Listed kind count) shape body from) b at fits loops =
        let (fine, rest) = and_parts (is_simple_type b.scope.kinds (simple.Listed kind count)) (body_fits (scope_binding b.scope (simple.Listed kind count)) body) fits in
        finite_loop b at (simple.Listed kind count) body (st.Block' shape body) refl fine rest (λ x c. refl) (λ c told. tt)
        (λ T c kept rep staying x is fine. tells_row body (body_value results s P latest types (further b T c kept rep staying) (simple.Listed kind count) x is fine) at rest (loops x))
    tells_stmt (st.For' (simple.Scalarset kind count) shape body from) b at fits loops =
        let (fine, rest) = and_parts (is_simple_type b.scope.kinds (simple.Scalarset kind count)) (body_fits (scope_binding b.scope (simple.Scalarset kind count)) body) fits in
        finite_loop b at (simple.Scalarset kind count) body (st.Block' shape body) refl fine rest (λ x c. refl) (λ c told. tt)
        (λ T c kept rep staying x is fine. tells_row body (body_value results s P latest types (further b T c kept rep staying) (simple.Scalarset kind count) x is fine) at rest (loops x))
    tells_stmt (st.Clear place of from) b at fits loops =
        let (writable, rest) = and_parts (may_write b.scope (root_of place)) (is_type b.scope.kinds of && option_map_or (same_type of) (place_type b.scope place) false) fits in
        let (fine, same) = and_parts (is_type b.scope.kinds of) (option_map_or (same_type of) (place_type b.scope place) false) rest in
        let (U, is) = typed_place binds fit keep results s P latest types tcalls allowed functions procedures unwritten of (place_type b.scope place) same in
        set_told binds fit keep results s P latest types tcalls allowed functions procedures unwritten b at from place U (cleared of) (store_cleared of) is (cleared_shows binds fit keep results s P latest types tcalls allowed functions procedures unwritten b of)
    tells_stmt (st.Undefine place from) b at fits loops =
        let (writable, rest) = and_parts (may_write b.scope (root_of place)) (is_some (place_type b.scope place)) fits in
        let (U, is) = some_place binds fit keep results s P latest types tcalls allowed functions procedures unwritten (place_type b.scope place) rest in
        set_told binds fit keep results s P latest types tcalls allowed functions procedures unwritten b at from place U all_undefined (only v.Undefined) is (λ path key more none long nodes. value-Known b.scene.nodes s (b.fr ++ more) v.Undefined)
    tells_stmt (st.Error from) b at fits loops = failed_told binds fit keep results s P latest types tcalls allowed functions procedures unwritten b at from
    tells_stmt (st.Assert test from) b at fits loops = assert_told binds fit keep results s P latest types tcalls allowed functions procedures unwritten b at from test fits
    tells_stmt (st.PutText from) b at fits loops = (tt, (b.rep, b.staying))
    tells_stmt (st.Put shown from) b at fits loops = (tt, (b.rep, b.staying))
    tells_stmt (st.Leave from) b at fits loops = leave_told binds fit keep results s P latest types tcalls allowed functions procedures unwritten b at (leaves b fits)
    tells_stmt (st.Return body from) b at fits loops =
        let (u, is, typed_is) = returns_of b (type_of b.scope body) fits in
        return_told binds fit keep results s P latest types tcalls allowed functions procedures unwritten b at from body u is typed_is

    pub tells_row : {n : _} (body : Row_of-Stmt n) (b : BB) (at : Span) → body_fits b.scope body ≡ true → row_loops tcalls allowed Q (site_at b) body → Follow b at (run_all calls b.scene b.cells body) (all_done tcalls (site_at b) b.T body)
    tells_row end_of-Stmt b at fits loops = (tt, (b.rep, b.staying))
    tells_row (more_of-Stmt first rest) b at fits loops =
        let (f, r) = and_parts (stmt_fits b.scope first) (body_fits b.scope rest) fits in
        let (one, others) = loops in
        row_told b at first rest f (tells_stmt first b at f one) (λ T c kept rep staying. tells_row rest (further b T c kept rep staying) at r others)

    tells_arms : {n : _} (arms : Row_of-Arm n) (b : BB) (at from : Span) (o : Outcome Ending) (otherwise : Done) → arms_fit b.scope arms ≡ true → arm_loops tcalls allowed Q (site_at b) arms → Unwritten b.site.depth b.T otherwise.change → Follow b at o otherwise → Tells b.scene.nodes s b.fr (given (run_arms calls b.scene from b.cells arms o) (checked b.scene.nodes s at b.site.result)) ((arms_done tcalls (site_at b) b.T arms otherwise).demands) (BranchEnds b.scene.nodes s b.scene.depth b.fr b.site.result b.T (arms_done tcalls (site_at b) b.T arms otherwise))
    tells_arms end_of-Arm b at from o otherwise fits loops same last = last_told binds fit keep results s P latest types tcalls allowed functions procedures unwritten b at o otherwise same last
    tells_arms (more_of-Arm test _ body rest) b at from o otherwise fits loops same last =
        let (truths, more) = and_parts (is_of simple.Truth (type_of b.scope test)) (body_fits b.scope body && arms_fit b.scope rest) fits in
        let (f, r) = and_parts (body_fits b.scope body) (arms_fit b.scope rest) more in
        let (one, others) = loops in
        one_told binds fit keep results s P latest types tcalls allowed functions procedures unwritten b at (worked calls b.scene from b.cells test) truth (valued_of tcalls (site_at b) b.T test) (run_all calls b.scene b.cells body) (all_done tcalls (site_at b) b.T body) (run_arms calls b.scene from b.cells rest o) (arms_done tcalls (site_at b) b.T rest otherwise)
        (truth_told b from test truths) (row_unwritten tcalls unwritten (site_at b) b.T body) (tells_row body b at f one) (tells_arms rest b at from o otherwise r others same last)

    tells_cases : {n : _} (cases : Row_of-Case n) (b : BB) (at from : Span) (w : Value) (on : Term) → value_of b.scene.nodes s b.fr on ≡ w → (u : Option Simple) (o : Outcome Ending) (otherwise : Done) → cases_fit b.scope u cases ≡ true → case_loops tcalls allowed Q (site_at b) cases → Unwritten b.site.depth b.T otherwise.change → Follow b at o otherwise → Tells b.scene.nodes s b.fr (given (run_cases calls b.scene from b.cells w cases o) (checked b.scene.nodes s at b.site.result)) ((cases_done tcalls (site_at b) b.T on cases otherwise).demands) (BranchEnds b.scene.nodes s b.scene.depth b.fr b.site.result b.T (cases_done tcalls (site_at b) b.T on cases otherwise))
    tells_cases end_of-Case b at from w on is u o otherwise fits loops same last = last_told binds fit keep results s P latest types tcalls allowed functions procedures unwritten b at o otherwise same last
    tells_cases (more_of-Case labels _ body rest) b at from w on is u o otherwise fits loops same last =
        let (l, more) = and_parts (labels_fit b.scope u labels) (body_fits b.scope body && cases_fit b.scope u rest) fits in
        let (f, r) = and_parts (body_fits b.scope body) (cases_fit b.scope u rest) more in
        let (one, others) = loops in
        one_told binds fit keep results s P latest types tcalls allowed functions procedures unwritten b at (is_among (worked calls b.scene from b.cells) w labels) (λ found. found) (among (labels_of (valued_of tcalls (site_at b) b.T) (site_at b) on labels)) (run_all calls b.scene b.cells body) (all_done tcalls (site_at b) b.T body) (run_cases calls b.scene from b.cells w rest o) (cases_done tcalls (site_at b) b.T on rest otherwise)
        (among_told b from on w labels is u l) (row_unwritten tcalls unwritten (site_at b) b.T body) (tells_row body b at f one) (tells_cases rest b at from w on is u o otherwise r others same last)

-- A rule fires as its term rule says, where loops over nodes are given.
use Rattle.std.proofs.Common.{◌≡◌, ℕ, true, ◌&&◌, List, [], ◌++◌, length, reverse, Option, None, Some, refl, sym, ap, ◌∙◌, subst}
use Rattle.std.specs.Prelude.{slice_get}
use Rattle.std.specs.List.{list_all}
use Rattle.std.proofs.lemmas.Bool.{and_parts}
use Rattle.term_core.specs.declared.value.Value.{Value}
use Rattle.term_core.specs.Meaning.{Cells}
use Rattle.term_core.specs.Cells.{cell_value}
use Rattle.term_core.specs.Firing.{new_value}
use Rattle.term_core.specs.Laws.{PlacingBinds}
use Rattle.murphi_typed.specs.declared.protocol.Guard.{Guard}
use Rattle.murphi_typed.specs.declared.protocol.Routine.{Routine}
use Rattle.murphi_typed.specs.declared.protocol.Rule.{Rule}
use Rattle.murphi_typed.specs.declared.protocol.Typed.{Typed}
use Rattle.murphi_typed.specs.declared.stmt.Stmt.{Row_of-Stmt}
use Rattle.murphi_typed.specs.Outcome.{Outcome, Got, Fault}
use Rattle.murphi_typed.specs.Execution.{cells_after}
use Rattle.murphi_typed.specs.Steps.{State, cells_of, are_parameters, outermost, fired}
use Rattle.murphi_typed.specs.WellTyped.{is_well_typed, are_variables, are_parameter_types, top_scope, guard_fits, stmt_fits, rule_fits, routines_fit, start_fits, formula_fits}
use Rattle.murphi_typed.specs.Keeping.{Declared, IsState, IsTypedBody, top_types}
use Rattle.murphi_typed.specs.Laws.{ValuesFitInBodies, BodiesKeepTypes, FunctionsGiveResults, CalledBodiesAreTyped, TopBodiesAreTyped, StepsLeadToStates, StatesHaveValues}
use Rattle.rule_inline.specs.Demands.{Demand, under_test}
use Rattle.rule_inline.specs.Tables.{Key, holes}
use Rattle.rule_inline.specs.Parts.{Site}
use Rattle.rule_inline.specs.Bodies.{calls_in}
use Rattle.rule_inline.specs.Presents.{at_nodes, cell_in, state_over, FiresAs}
use Rattle.rule_inline.specs.Machine.{trans, top_site, top_terms, first_terms, families_of, guard_of, body_done, rule_at}
use Rattle.rule_inline.proofs.Outcome.{Tells}
use Rattle.rule_inline.proofs.PlaceLemmas.{Rep}
use Rattle.rule_inline.proofs.TypeLemmas.{some_one}
use Rattle.rule_inline.proofs.StatementLemmas.{stmt_loops}
use Rattle.rule_inline.proofs.ChangeLemmas.{stmt_unwritten, calls_unwritten}
use Rattle.rule_inline.proofs.StatementLaw.{LoopsTell}
use Rattle.rule_inline.proofs.CallLaw.{fine_in, FunctionsFine}
use Rattle.rule_inline.proofs.FirstTerms.{FilledValues, machine_value, state_rep}
use Rattle.rule_inline.proofs.RuleLemmas.{demands_hold, demand_fails, FireEnds, top_fired, fired_told}
use Rattle.rule_inline.proofs.StepLemmas.{new_is}
use Rattle.rule_inline.proofs.StepLaw.{StatesAreOne, cell_there, next_is, may_have_value}

module _ (binds : PlacingBinds) (fit : ValuesFitInBodies) (keep : BodiesKeepTypes) (results : FunctionsGiveResults) (enter : CalledBodiesAreTyped) (top : TopBodiesAreTyped) (fill : FilledValues) (one : StatesAreOne) (have : StatesHaveValues) (steps : StepsLeadToStates)
    (N : ℕ) (T : Typed) (s : State) (well : is_well_typed T ≡ true) (state : IsState N T s)
    (Q : List Routine → (n : _) → Site → Row_of-Stmt n → Type 0)
    (loop_tells : (latest : List Routine) (types : Declared) → LoopsTell binds fit keep results (cell_value N (trans T).families (state_over N T (trans T).families s)) T latest types (calls_in latest) (fine_in Q latest) (Q latest))
    (fine : FunctionsFine Q (reverse T.routines))
    (k : ℕ) (r : Rule) (is_rule : slice_get T.rules k ≡ Some r) (fits : rule_fits T r ≡ true)
    (key : Key) (ns : List ℕ) (long : length ns ≡ holes key) (are : are_parameters N r.params (at_nodes key ns) ≡ true)
    (loops : stmt_loops (calls_in (reverse T.routines)) (fine_in Q (reverse T.routines)) (Q (reverse T.routines)) (top_site key) r.body) where
  abbrev c : Cells
  c = cell_value N (trans T).families (state_over N T (trans T).families s)

  abbrev p : List Value
  p = at_nodes key ns

  globals : are_variables T.kinds T.globals ≡ true
  globals = (and_parts (are_variables T.kinds T.globals) (routines_fit T [] T.routines && (list_all (start_fits T) T.starts && (list_all (rule_fits T) T.rules && list_all (formula_fits T) T.invariants))) well).0

  abbrev Parts : Type 0
  Parts = (are_parameter_types T.kinds r.params ≡ true) × (are_variables T.kinds r.locals ≡ true) × (guard_fits (top_scope T r.locals r.params) r.guard ≡ true) × (stmt_fits (top_scope T r.locals r.params) r.body ≡ true)

  parts : Parts
  parts =
      let (a, x) = and_parts (are_parameter_types T.kinds r.params) (are_variables T.kinds r.locals && (guard_fits (top_scope T r.locals r.params) r.guard && stmt_fits (top_scope T r.locals r.params) r.body)) fits in
      let (b, y) = and_parts (are_variables T.kinds r.locals) (guard_fits (top_scope T r.locals r.params) r.guard && stmt_fits (top_scope T r.locals r.params) r.body) x in
      let (g, z) = and_parts (guard_fits (top_scope T r.locals r.params) r.guard) (stmt_fits (top_scope T r.locals r.params) r.body) y in
      (a, b, g, z)

  typed : IsTypedBody T (reverse T.routines) (top_types T r.locals) (top_scope T r.locals r.params) (outermost N p) (cells_of N T s)
  typed = let (a, b, g, z) = parts in top N T r.locals r.params p s well b a are state

  rep : Rep N c 0 ns (top_terms T key) (cells_of N T s)
  rep = subst (λ n. Rep N c 0 ns (first_terms (families_of T) n) (cells_of N T s)) long (state_rep fill N T s 0 ns)

  abbrev demands : List Demand
  demands = (guard_of T key r.guard).demands ++ under_test (holes key) (guard_of T key r.guard).term (body_done T key r.body).demands

  abbrev outcome : Outcome (Option State)
  outcome = top_fired binds fit keep results enter c T globals Q loop_tells fine N r.locals r.params key ns long (cells_of N T s) typed rep r.guard r.body

  abbrev Ends : Option State → Type 0
  Ends = FireEnds binds fit keep results enter c T globals Q loop_tells fine N r.locals r.params key ns long (cells_of N T s) typed rep (guard_of T key r.guard) r.body (body_done T key r.body).change

  told : Tells N c ns outcome demands Ends
  told = let (a, b, g, z) = parts in fired_told binds fit keep results enter c T globals Q loop_tells fine N r.locals r.params key ns long (cells_of N T s) typed rep r.guard r.body g z loops

  outcome_is : outcome ≡ fired N T r p s
  outcome_is = go r.guard
    where
      go : (g : Option Guard) → top_fired binds fit keep results enter c T globals Q loop_tells fine N r.locals r.params key ns long (cells_of N T s) typed rep g r.body ≡ fired N T (record r { guard = g }) p s
      go None = refl
      go (Some g) = refl

  fires_by : (o : Outcome (Option State)) → fired N T r p s ≡ o → Tells N c ns o demands Ends → FiresAs N T (trans T) s (rule_at T r key) ns o
  fires_by (Fault at) was bad = demand_fails N c ns demands bad
  fires_by (Got None) was (good, is) = (demands_hold N c ns demands good, is)
  fires_by (Got (Some next)) was (good, ends) =
      let (is, rest) = ends in
      let (final, ran, next_eq, after) = rest in
      let next_state' : IsState N T next = steps N T s k p next well state (record { rule = r; found = is_rule; parameters = are; leaves = was }) in
      let unwritten = stmt_unwritten (calls_in (reverse T.routines)) (calls_unwritten (reverse T.routines)) (top_site key) (top_terms T key) r.body in (
        demands_hold N c ns demands good,
        record {
          enabled = is;
          next = ap (state_over N T (trans T).families) next_eq ∙ next_is one fill have N T s (rule_at T r key) ns (top_terms T key) (body_done T key r.body).change (cells_after final) refl rep after unwritten;
          allowed = λ f at cell written.
              let (d, found, many, nodes) = cell_there N T (families_of T) f at cell in
              may_have_value N T (cells_after final) (subst (IsState N T) next_eq next_state') f at cell (d, found, many, nodes) (new_value N c (rule_at T r key) ns f at)
              (λ e there. subst (λ g. new_value N c (rule_at T r key) ns f at ≡ cell_in (cells_after final) g at) (some_one (sym found ∙ there))
              (new_is N T c ns (top_terms T key) (body_done T key r.body).change (cells_of N T s) (cells_after final) rep after unwritten f d at found many nodes (machine_value fill N T s f d at found many nodes)));
        },
      )

  pub rule_fires : FiresAs N T (trans T) s (rule_at T r key) ns (fired N T r p s)
  rule_fires = fires_by (fired N T r p s) refl (subst (λ o. Tells N c ns o demands Ends) outcome_is told)

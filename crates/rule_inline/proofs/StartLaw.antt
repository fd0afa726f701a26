-- A start state begins as its term rule says, where loops over nodes are given.
use Rattle.std.proofs.Common.{◌≡◌, ℕ, true, false, ◌&&◌, List, [], ◌++◌, length, reverse, Option, None, Some, refl, sym, ap, ◌∙◌, subst}
use Rattle.std.specs.Prelude.{slice_get, nat_eq, if◌then◌else◌, IsTrue}
use Rattle.std.specs.List.{list_all}
use Rattle.std.specs.Option.{option_map_or}
use Rattle.std.proofs.lemmas.Bool.{and_parts}
use Rattle.term_core.specs.declared.value.Value.{Value}
use Rattle.term_core.specs.declared.value.Value.TheVariants as v
use Rattle.term_core.specs.declared.machine.CellFamily.{CellFamily}
use Rattle.term_core.specs.declared.machine.TermRule.{TermRule}
use Rattle.term_core.specs.Nodes.{is_node}
use Rattle.term_core.specs.Meaning.{Cells}
use Rattle.term_core.specs.Cells.{cells, is_cell, cell_value, may_have, blank_value, blank_state}
use Rattle.term_core.specs.Firing.{new_value, start_value, start_state}
use Rattle.term_core.specs.Laws.{PlacingBinds}
use Rattle.murphi_typed.specs.declared.protocol.Routine.{Routine}
use Rattle.murphi_typed.specs.declared.protocol.Start.{Start}
use Rattle.murphi_typed.specs.declared.protocol.Typed.{Typed}
use Rattle.murphi_typed.specs.declared.stmt.Stmt.{Row_of-Stmt}
use Rattle.murphi_typed.specs.Store.{blank, Cells as Store}
use Rattle.murphi_typed.specs.Outcome.{Outcome, Got, Fault, given}
use Rattle.murphi_typed.specs.Execution.{cells_after}
use Rattle.murphi_typed.specs.Steps.{State, state_of, are_parameters, outermost, started}
use Rattle.murphi_typed.specs.WellTyped.{is_well_typed, are_variables, are_parameter_types, top_scope, stmt_fits, rule_fits, routines_fit, start_fits, formula_fits}
use Rattle.murphi_typed.specs.Keeping.{Declared, IsState, IsTypedBody, top_types}
use Rattle.murphi_typed.specs.Laws.{ValuesFitInBodies, BodiesKeepTypes, FunctionsGiveResults, CalledBodiesAreTyped, BlankBodiesAreTyped, StartsLeaveStates, StatesHaveValues}
use Rattle.rule_inline.specs.Demands.{Demand, under_test}
use Rattle.rule_inline.specs.Tables.{Key, holes}
use Rattle.rule_inline.specs.Parts.{Site}
use Rattle.rule_inline.specs.Bodies.{calls_in}
use Rattle.rule_inline.specs.Presents.{at_nodes, cell_in, state_over, StartsAs}
use Rattle.rule_inline.specs.Machine.{CellsOf, cell_family, trans, top_site, top_terms, first_terms, families_of, guard_of, body_done, start_at}
use Rattle.rule_inline.proofs.ValueLemmas.{nat_itself}
use Rattle.rule_inline.proofs.Outcome.{Tells}
use Rattle.rule_inline.proofs.PlaceLemmas.{Rep}
use Rattle.rule_inline.proofs.TypeLemmas.{some_one}
use Rattle.rule_inline.proofs.StatementLemmas.{stmt_loops}
use Rattle.rule_inline.proofs.ChangeLemmas.{Unwritten, stmt_unwritten, calls_unwritten}
use Rattle.rule_inline.proofs.StatementLaw.{LoopsTell}
use Rattle.rule_inline.proofs.CallLaw.{fine_in, FunctionsFine}
use Rattle.rule_inline.proofs.FirstTerms.{FilledValues, get_map, machine_value, first_rep}
use Rattle.rule_inline.proofs.RuleLemmas.{demands_hold, demand_fails, FireEnds, fired_told}
use Rattle.rule_inline.proofs.StepLemmas.{new_is, state_value}
use Rattle.rule_inline.proofs.StepLaw.{StatesAreOne, long_map, cell_there, may_have_value}

-- where nothing is written each cell has the value of its family
abbrev pub BlankValues : Type 0
BlankValues =
    (N : ℕ) (families : List CellFamily) (family : CellFamily) (f : ℕ) (at : List ℕ) → slice_get families f ≡ Some family → IsTrue (is_cell N families f at)
    → cell_value N families (blank_state N families) f at ≡ blank_value family

module _ (binds : PlacingBinds) (fit : ValuesFitInBodies) (keep : BodiesKeepTypes) (results : FunctionsGiveResults) (enter : CalledBodiesAreTyped) (blanks : BlankBodiesAreTyped) (fill : FilledValues) (blank_is : BlankValues) (one : StatesAreOne) (have : StatesHaveValues) (starts : StartsLeaveStates)
    (N : ℕ) (T : Typed) (well : is_well_typed T ≡ true)
    (Q : List Routine → (n : _) → Site → Row_of-Stmt n → Type 0)
    (loop_tells : (latest : List Routine) (types : Declared) → LoopsTell binds fit keep results (cell_value N (trans T).families (blank_state N (trans T).families)) T latest types (calls_in latest) (fine_in Q latest) (Q latest))
    (fine : FunctionsFine Q (reverse T.routines))
    (k : ℕ) (a : Start) (is_start : slice_get T.starts k ≡ Some a) (fits : start_fits T a ≡ true)
    (key : Key) (ns : List ℕ) (long : length ns ≡ holes key) (are : are_parameters N a.params (at_nodes key ns) ≡ true)
    (loops : stmt_loops (calls_in (reverse T.routines)) (fine_in Q (reverse T.routines)) (Q (reverse T.routines)) (top_site key) a.body) where
  abbrev c : Cells
  c = cell_value N (trans T).families (blank_state N (trans T).families)

  abbrev p : List Value
  p = at_nodes key ns

  abbrev r : TermRule
  r = start_at T a key

  globals : are_variables T.kinds T.globals ≡ true
  globals = (and_parts (are_variables T.kinds T.globals) (routines_fit T [] T.routines && (list_all (start_fits T) T.starts && (list_all (rule_fits T) T.rules && list_all (formula_fits T) T.invariants))) well).0

  abbrev Parts : Type 0
  Parts = (are_parameter_types T.kinds a.params ≡ true) × ((are_variables T.kinds a.locals ≡ true) × (stmt_fits (top_scope T a.locals a.params) a.body ≡ true))

  parts : Parts
  parts =
      let (x, rest) = and_parts (are_parameter_types T.kinds a.params) (are_variables T.kinds a.locals && stmt_fits (top_scope T a.locals a.params) a.body) fits in
      let (y, z) = and_parts (are_variables T.kinds a.locals) (stmt_fits (top_scope T a.locals a.params) a.body) rest in
      (x, (y, z))

  typed : IsTypedBody T (reverse T.routines) (top_types T a.locals) (top_scope T a.locals a.params) (outermost N p) blank
  typed = blanks N T a.locals a.params p well parts.1.0 parts.0 are

  -- the families' cells are undefined
  blank_cell : (f : ℕ) (d : CellsOf) (at : List ℕ) → slice_get (families_of T) f ≡ Some d → length at ≡ holes d.key → list_all (is_node N) at ≡ true → c f at ≡ cell_in blank d at
  blank_cell f d at found many nodes =
      blank_is N (trans T).families (cell_family T d) f at (get_map (cell_family T) (families_of T) f d found)
      (ap (λ o. option_map_or (λ (family : CellFamily). nat_eq (length at) family.axes && list_all (is_node N) at) o false) (get_map (cell_family T) (families_of T) f d found)
      ∙ ap (λ n. nat_eq n (holes d.key) && list_all (is_node N) at) many
      ∙ ap (λ b. b && list_all (is_node N) at) (nat_itself (holes d.key)) ∙ nodes)

  rep : Rep N c 0 ns (top_terms T key) blank
  rep = subst (λ n. Rep N c 0 ns (first_terms (families_of T) n) blank) long (first_rep N c T blank (λ f d at found many nodes. blank_cell f d at found many nodes) (λ owner path key at none many e. refl) 0 ns)

  abbrev demands : List Demand
  demands = (guard_of T key None).demands ++ under_test (holes key) (guard_of T key None).term (body_done T key a.body).demands

  abbrev Ends : Option State → Type 0
  Ends = FireEnds binds fit keep results enter c T globals Q loop_tells fine N a.locals a.params key ns long blank typed rep (guard_of T key None) a.body (body_done T key a.body).change

  told : Tells N c ns (given (started N T a p) (λ next. Got (Some next))) demands Ends
  told = fired_told binds fit keep results enter c T globals Q loop_tells fine N a.locals a.params key ns long blank typed rep None a.body refl parts.1.1 loops

  unwritten : Unwritten 0 (top_terms T key) (body_done T key a.body).change
  unwritten = stmt_unwritten (calls_in (reverse T.routines)) (calls_unwritten (reverse T.routines)) (top_site key) (top_terms T key) a.body

  module _ (final : Store) (after : Rep N c 0 ns (body_done T key a.body).change.now final) (state : IsState N T (state_of N T final)) where
    value_there : (f : ℕ) (at : List ℕ) (d : CellsOf) → slice_get (families_of T) f ≡ Some d → length at ≡ holes d.key → list_all (is_node N) at ≡ true → new_value N c r ns f at ≡ cell_in final d at
    value_there f at d found many nodes = new_is N T c ns (top_terms T key) (body_done T key a.body).change blank final rep after unwritten f d at found many nodes (blank_cell f d at found many nodes)

    settled_is : (f : ℕ) (at : List ℕ) (w : Value) → new_value N c r ns f at ≡ w → may_have N (trans T).families f w ≡ true → start_value N (trans T).families r ns f at ≡ w
    settled_is f at w is may =
        ap (λ x. if may_have N (trans T).families f x then x else v.Undefined) is ∙ ap (λ b. if b then w else v.Undefined) may

    same : (f : ℕ) (at : List ℕ) → IsTrue (is_cell N (trans T).families f at) → cell_value N (trans T).families (state_over N T (trans T).families (state_of N T final)) f at ≡ cell_value N (trans T).families (start_state N (trans T).families r ns) f at
    same f at cell =
        let (d, found, many, nodes) = cell_there N T (families_of T) f at cell in
        machine_value fill N T (state_of N T final) f d at found many nodes
        ∙ state_value N have T final f d at found many nodes
        ∙ sym (settled_is f at (cell_in final d at) (value_there f at d found many nodes)
        (may_have_value N T final state f at cell (d, found, many, nodes) (cell_in final d at) (λ e there. ap (λ g. cell_in final g at) (some_one (sym found ∙ there)))))
        ∙ sym (fill N (trans T).families (start_value N (trans T).families r ns) f at cell)

    start_is : state_over N T (trans T).families (state_of N T final) ≡ start_state N (trans T).families r ns
    start_is =
        one N (trans T).families (state_over N T (trans T).families (state_of N T final)) (start_state N (trans T).families r ns)
        (long_map _ (cells N (trans T).families)) (long_map _ (cells N (trans T).families)) same

  starts_by : (o : Outcome State) → started N T a p ≡ o → Tells N c ns (given o (λ next. Got (Some next))) demands Ends → StartsAs N T (trans T) r ns o
  starts_by (Fault at) was bad = demand_fails N c ns demands bad
  starts_by (Got next) was (good, ends) =
      let (is, rest) = ends in
      let (final, ran, next_eq, after) = rest in
      let state : IsState N T next = starts N T k p next well (record { start = a; found = is_start; parameters = are; leaves = was }) in (
        demands_hold N c ns demands good,
        ap (state_over N T (trans T).families) next_eq ∙ start_is (cells_after final) after (subst (IsState N T) next_eq state),
      )

  pub start_begins : StartsAs N T (trans T) r ns (started N T a p)
  start_begins = starts_by (started N T a p) refl told

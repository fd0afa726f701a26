-- A rule where loops over nodes are given: its guard, its body and its pieces.
use Rattle.std.proofs.Common.{◌≡◌, ℕ, suc, Bool, true, false, List, [], ◌∷◌, ◌++◌, length, map, reverse, Option, None, Some, inl, inr, refl, sym, ap, subst}
use Rattle.std.specs.Prelude.{if◌then◌else◌, slice_get}
use Rattle.std.proofs.lemmas.List.Elements.{All-nil, All-cons}
use Rattle.term_core.specs.declared.value.Value.TheVariants as v
use Rattle.term_core.specs.declared.machine.Piece.{Piece}
use Rattle.term_core.specs.Values.{truth}
use Rattle.term_core.specs.Meaning.{Cells, value_of}
use Rattle.term_core.specs.Firing.{IsTrueForAll, HasFalsePiece, AllPiecesHold}
use Rattle.term_core.specs.Laws.{PlacingBinds}
use Rattle.murphi_typed.specs.declared.types.Simple.TheVariants as simple
use Rattle.murphi_typed.specs.declared.protocol.Guard.{Guard}
use Rattle.murphi_typed.specs.declared.protocol.Parameter.{Parameter}
use Rattle.murphi_typed.specs.declared.protocol.Routine.{Routine}
use Rattle.murphi_typed.specs.declared.protocol.Typed.{Typed}
use Rattle.murphi_typed.specs.declared.protocol.Variable.{Variable}
use Rattle.murphi_typed.specs.declared.stmt.Stmt.{Stmt, Row_of-Stmt}
use Rattle.murphi_typed.specs.Store.{Cells as Store}
use Rattle.murphi_typed.specs.Outcome.{Outcome, Got, Fault, given}
use Rattle.murphi_typed.specs.Expressions.{value_of as worked}
use Rattle.murphi_typed.specs.Execution.{Ending, Next, Returned, cells_after, run}
use Rattle.murphi_typed.specs.Steps.{State, state_of, outermost, calls_in as store_calls, no_place}
use Rattle.murphi_typed.specs.WellTyped.{are_variables, top_scope, type_of, guard_fits, stmt_fits}
use Rattle.murphi_typed.specs.Keeping.{Declared, IsTypedBody, top_types}
use Rattle.murphi_typed.specs.Laws.{ValuesFitInBodies, BodiesKeepTypes, FunctionsGiveResults, CalledBodiesAreTyped}
use Rattle.rule_inline.specs.Bodies.{calls_in, done_by}
use Rattle.rule_inline.specs.Tables.{Change}
use Rattle.rule_inline.specs.Parts.{Site, valued_of}
use Rattle.rule_inline.specs.Presents.{at_nodes}
use Rattle.rule_inline.specs.Machine.{top_site, top_terms, calls_of, guard_of, body_done}
use Rattle.rule_inline.proofs.Outcome.{Tells, tells_then, tells_given, tells_under, all_beside}
use Rattle.rule_inline.proofs.PlaceLemmas.{Rep}
use Rattle.rule_inline.proofs.TypeLemmas.{of_type}
use Rattle.rule_inline.proofs.PartLemmas.{Here, FunctionTells, IsTold}
use Rattle.rule_inline.proofs.SceneLemmas.{at_frame}
use Rattle.rule_inline.proofs.ExpressionLaw.{tells_value}
use Rattle.rule_inline.proofs.ChangeLemmas.{calls_unwritten}
use Rattle.rule_inline.proofs.EndLemmas.{Body, here_of, EndsWith, checked}
use Rattle.rule_inline.proofs.StatementLemmas.{stmt_loops, ProcedureTells}
use Rattle.rule_inline.proofs.StatementLaw.{LoopsTell, tells_stmt}
use Rattle.rule_inline.proofs.CallLaw.{fine_in, FunctionsFine, function_fine, calls_told}
use Rattle.rule_inline.proofs.ParameterLemmas.{parameters_bound}
use Rattle.rule_inline.specs.Demands.{Demand, piece_of, truth_term, under_test}
use Rattle.rule_inline.specs.Tables.{Key, holes}
use Rattle.rule_inline.specs.Parts.{Valued}
use Rattle.rule_inline.specs.Machine.{or_true}
use Rattle.rule_inline.proofs.TermLemmas.{value-Known}
use Rattle.rule_inline.proofs.Outcome.{AllHold, SomeFails}
use Rattle.rule_inline.proofs.FirstTerms.{Each, each_map}
use Rattle.rule_inline.proofs.FormulaLaw.{each_all}

module _ (N : ℕ) (c : Cells) (ns : List ℕ) where
  holding : (qs : List Demand) → AllHold N c ns qs → Each (λ q. IsTrueForAll N c ns (piece_of q)) qs
  holding [] a = tt
  holding (q ∷ qs) (h, a) = ((λ bound count nodes. h bound count nodes), holding qs a)

  all_true : (qs : List Demand) → AllHold N c ns qs → AllPiecesHold N c (map piece_of qs) ns
  all_true qs a = each_all (IsTrueForAll N c ns) (map piece_of qs) (each_map (IsTrueForAll N c ns) piece_of qs (holding qs a))

  or_true_holds : (ps : List Piece) → AllPiecesHold N c ps ns → AllPiecesHold N c (or_true ps) ns
  or_true_holds [] a =
      All-cons (IsTrueForAll N c ns) (record { binders = 0; body = truth_term true }) [] (λ bound count nodes. ap truth (value-Known N c (ns ++ bound) (v.Truth true))) (All-nil (IsTrueForAll N c ns))
  or_true_holds (p ∷ ps) a = a

  -- where all demands hold all pieces are true
  pub demands_hold : (qs : List Demand) → AllHold N c ns qs → AllPiecesHold N c (or_true (map piece_of qs)) ns
  demands_hold qs a = or_true_holds (map piece_of qs) (all_true qs a)

  one_false : (qs : List Demand) → SomeFails N c ns qs → HasFalsePiece N c (map piece_of qs) ns
  one_false [] bad = absurd bad
  one_false (q ∷ qs) (inl (bound, count, nodes, fails)) = (0, piece_of q, refl, (bound, record { count = count; nodes = nodes; false_there = fails }))
  one_false (q ∷ qs) (inr bad) = let (k, piece, found, rest) = one_false qs bad in (suc k, piece, found, rest)

  or_true_fails : (ps : List Piece) → HasFalsePiece N c ps ns → HasFalsePiece N c (or_true ps) ns
  or_true_fails [] (k, piece, found, rest) = absurd (no_piece found)
    where
      no_piece : slice_get [] k ≡ Some piece → ⊥
      no_piece e = cc
  or_true_fails (p ∷ ps) f = f

  -- where a demand fails a piece is false
  pub demand_fails : (qs : List Demand) → SomeFails N c ns qs → HasFalsePiece N c (or_true (map piece_of qs)) ns
  demand_fails qs bad = or_true_fails (map piece_of qs) (one_false qs bad)

-- The body of a rule at some choice of its parameters

module _ (binds : PlacingBinds) (fit : ValuesFitInBodies) (keep : BodiesKeepTypes) (results : FunctionsGiveResults) (enter : CalledBodiesAreTyped) (c : Cells) (T : Typed) (globals : are_variables T.kinds T.globals ≡ true)
    (Q : List Routine → (n : _) → Site → Row_of-Stmt n → Type 0)
    (loop_tells : (latest : List Routine) (types : Declared) → LoopsTell binds fit keep results c T latest types (calls_in latest) (fine_in Q latest) (Q latest))
    (fine : FunctionsFine Q (reverse T.routines))
    (N : ℕ) (locals : List Variable) (params : List Parameter) (key : Key) (ns : List ℕ) (long : length ns ≡ holes key) (store : Store)
    (typed : IsTypedBody T (reverse T.routines) (top_types T locals) (top_scope T locals params) (outermost N (at_nodes key ns)) store)
    (rep : Rep N c 0 ns (top_terms T key) store) where
  abbrev latest : List Routine
  latest = reverse T.routines

  abbrev types : Declared
  types = top_types T locals

  abbrev at_top : Body c T latest types
  at_top = record {
    scope = top_scope T locals params;
    scene = outermost N (at_nodes key ns);
    fr = ns;
    site = top_site key;
    T = top_terms T key;
    cells = store;
    typed = typed;
    sited = record { depth = refl; bound = parameters_bound N c key [] ns long; formals = tt };
    rep = rep;
    staying = ap truth (value-Known N c ns (v.Truth false));
    exits = refl;
  }

  functions : (h : Here c T latest types) → FunctionTells c T latest types (calls_in latest) h
  functions h k r u args gs gifts found is fits was are =
      (calls_told binds fit keep results enter c T globals Q loop_tells latest h.typed.known fine latest types h k r args gs gifts found fits was are (function_fine Q latest fine k r u found is (at_frame h.fr h.site) gifts)).1 u is

  procedures : (b : Body c T latest types) → ProcedureTells binds fit keep results c T latest types (calls_in latest) (fine_in Q latest) b
  procedures b k r args at gs gifts found none fits was are allowed =
      (calls_told binds fit keep results enter c T globals Q loop_tells latest typed.known fine latest types (here_of results c T latest types b at) k r args gs gifts found fits was are allowed).0 none

  site_is : at_frame ns (top_site key) ≡ top_site key
  site_is = ap (λ n. record (top_site key) { frame = n }) long

  abbrev pub top_guard : Option Guard → Outcome Bool
  top_guard None = Got true
  top_guard (Some guard) = given (worked (store_calls T) (outermost N (at_nodes key ns)) guard.at store guard.test) (λ w. Got (truth w))

  -- the guard
  pub guard_told : (guard : Option Guard) → guard_fits (top_scope T locals params) guard ≡ true
      → Tells N c ns (top_guard guard) (guard_of T key guard).demands (λ b. truth (value_of N c ns (guard_of T key guard).term) ≡ b)
  guard_told None fits = (tt, ap truth (value-Known N c ns (v.Truth true)))
  guard_told (Some guard) fits =
      tells_then N c ns (valued_of (calls_of T) (top_site key) (top_terms T key) guard.test).demands (worked (store_calls T) (outermost N (at_nodes key ns)) guard.at store guard.test) truth _ _
      (subst (λ site. IsTold N c ns (worked (store_calls T) (outermost N (at_nodes key ns)) guard.at store guard.test) (valued_of (calls_of T) site (top_terms T key) guard.test)) site_is
      (tells_value binds fit c T latest types (calls_in latest) functions guard.test (here_of results c T latest types at_top guard.at) simple.Truth (of_type simple.Truth (type_of (top_scope T locals params) guard.test) fits)))
      (λ w is. ap truth is)

  -- the body
  pub body_told : (body : Stmt) → stmt_fits (top_scope T locals params) body ≡ true → stmt_loops (calls_in latest) (fine_in Q latest) (Q latest) (top_site key) body
      → Tells N c ns (given (run (store_calls T) (outermost N (at_nodes key ns)) store body) (checked N c no_place None)) (body_done T key body).demands (EndsWith N c 0 ns None (body_done T key body).change)
  body_told body fits loops =
      subst (λ site. Tells N c ns (given (run (store_calls T) (outermost N (at_nodes key ns)) store body) (checked N c no_place None)) (done_by (calls_of T) site (top_terms T key) body).demands (EndsWith N c 0 ns None (done_by (calls_of T) site (top_terms T key) body).change)) site_is
      (tells_stmt binds fit keep results c T latest types (calls_in latest) (fine_in Q latest) functions procedures (calls_unwritten latest) (Q latest) (loop_tells latest types) body at_top no_place fits (subst (λ site. stmt_loops (calls_in latest) (fine_in Q latest) (Q latest) site body) (sym site_is) loops))

  unchecked : (o : Outcome Ending) → given o (checked N c no_place None) ≡ o
  unchecked (Fault at) = refl
  unchecked (Got (Next next)) = refl
  unchecked (Got (Returned next None)) = refl
  unchecked (Got (Returned next (Some w))) = refl

  ends_rep : (change : Change) (e : Ending) → EndsWith N c 0 ns None change e → Rep N c 0 ns change.now (cells_after e)
  ends_rep change (Next next) ends = ends.0
  ends_rep change (Returned next r) ends = ends.0

  -- how firing ends: the guard is false, or the state is that of a store which the last terms represent
  abbrev pub FireEnds : Valued → Stmt → Change → Option State → Type 0
  FireEnds guard body change None = truth (value_of N c ns guard.term) ≡ false
  FireEnds guard body change (Some next) = (truth (value_of N c ns guard.term) ≡ true) × ((final : Ending) × (run (store_calls T) (outermost N (at_nodes key ns)) store body ≡ Got final) × (next ≡ state_of N T (cells_after final)) × Rep N c 0 ns change.now (cells_after final))

  abbrev pub top_fired : Option Guard → Stmt → Outcome (Option State)
  top_fired guard body = given (top_guard guard) (λ enabled. if enabled then given (given (run (store_calls T) (outermost N (at_nodes key ns)) store body) (λ e. Got (state_of N T (cells_after e)))) (λ next. Got (Some next)) else Got None)

  -- firing, by the demands of guard and body
  pub fired_told : (guard : Option Guard) (body : Stmt) → guard_fits (top_scope T locals params) guard ≡ true → stmt_fits (top_scope T locals params) body ≡ true → stmt_loops (calls_in latest) (fine_in Q latest) (Q latest) (top_site key) body
      → Tells N c ns (top_fired guard body) ((guard_of T key guard).demands ++ under_test (holes key) (guard_of T key guard).term (body_done T key body).demands) (FireEnds (guard_of T key guard) body (body_done T key body).change)
  fired_told guard body guard_fine fits loops =
      subst (λ n. Tells N c ns (top_fired guard body) ((guard_of T key guard).demands ++ under_test n (guard_of T key guard).term (body_done T key body).demands) (FireEnds (guard_of T key guard) body (body_done T key body).change)) long
      (tells_given N c ns (guard_of T key guard).demands (under_test (length ns) (guard_of T key guard).term (body_done T key body).demands) (top_guard guard) _ _ (FireEnds (guard_of T key guard) body (body_done T key body).change) (guard_told guard guard_fine) (λ b was is. after b is))
    where
      ended : (is : truth (value_of N c ns (guard_of T key guard).term) ≡ true) (o : Outcome Ending) → run (store_calls T) (outermost N (at_nodes key ns)) store body ≡ o → Tells N c ns o (body_done T key body).demands (EndsWith N c 0 ns None (body_done T key body).change)
          → Tells N c ns (given (given o (λ e. Got (state_of N T (cells_after e)))) (λ next. Got (Some next))) (body_done T key body).demands (FireEnds (guard_of T key guard) body (body_done T key body).change)
      ended is (Fault at) was bad = bad
      ended is (Got e) was (good, ends) = (good, (is, (e, was, refl, ends_rep (body_done T key body).change e ends)))

      after : (b : Bool) → truth (value_of N c ns (guard_of T key guard).term) ≡ b
          → Tells N c ns (if b then given (given (run (store_calls T) (outermost N (at_nodes key ns)) store body) (λ e. Got (state_of N T (cells_after e)))) (λ next. Got (Some next)) else Got None) (under_test (length ns) (guard_of T key guard).term (body_done T key body).demands) (FireEnds (guard_of T key guard) body (body_done T key body).change)
      after true is =
          tells_under N c ns (guard_of T key guard).term (body_done T key body).demands _ _ is
          (ended is (run (store_calls T) (outermost N (at_nodes key ns)) store body) refl
          (subst (λ o. Tells N c ns o (body_done T key body).demands (EndsWith N c 0 ns None (body_done T key body).change)) (unchecked (run (store_calls T) (outermost N (at_nodes key ns)) store body)) (body_told body fits loops)))
      after false is = (all_beside N c ns (guard_of T key guard).term (body_done T key body).demands is, is)

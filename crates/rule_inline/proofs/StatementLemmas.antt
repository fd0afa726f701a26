-- Statements: where one faults a demand of it is false for some nodes, else the terms after it represent the store
-- after it. What calls do is given, and what is asked of loops over nodes.
use Rattle.std.proofs.Common.{◌≡◌, ℕ, Bool, true, false, List, [], ◌++◌, length, reverse, Option, None, Some, inl, refl, sym, ap, ◌∙◌, subst}
use Rattle.std.specs.Prelude.{slice_get, option_map, is_some, if◌then◌else◌}
use Rattle.std.specs.Option.{option_map_or}
use Rattle.term_core.specs.declared.value.Value.{Value}
use Rattle.term_core.specs.declared.value.Value.TheVariants as v
use Rattle.term_core.specs.declared.term.Term as t
use Rattle.term_core.specs.declared.term.Term.{Term}
use Rattle.term_core.specs.Nodes.{nodes}
use Rattle.term_core.specs.Values.{truth}
use Rattle.term_core.specs.Meaning.{Cells, value_of}
use Rattle.term_core.specs.Laws.{PlacingBinds}
use Rattle.murphi_ast.specs.declared.token.Span.{Span}
use Rattle.murphi_typed.specs.declared.types.Simple.{Simple}
use Rattle.murphi_typed.specs.declared.types.Simple.TheVariants as simple
use Rattle.murphi_typed.specs.declared.types.AnyType as type
use Rattle.murphi_typed.specs.declared.types.AnyType.{AnyType}
use Rattle.murphi_typed.specs.declared.expr.Expr.{Expr}
use Rattle.murphi_typed.specs.declared.expr.Designator.{Designator}
use Rattle.murphi_typed.specs.declared.expr.Arguments.{Arguments}
use Rattle.murphi_typed.specs.declared.protocol.Routine.{Routine}
use Rattle.murphi_typed.specs.Values.{is_value, may_hold, cleared_value}
use Rattle.murphi_typed.specs.Families.{leaf_at}
use Rattle.murphi_typed.specs.declared.stmt.Stmt as st
use Rattle.murphi_typed.specs.declared.stmt.Stmt.{Stmt, Row_of-Stmt, end_of-Stmt, more_of-Stmt, Row_of-Arm, end_of-Arm, more_of-Arm, Row_of-Case, end_of-Case, more_of-Case}
use Rattle.murphi_typed.specs.declared.protocol.Typed.{Typed}
use Rattle.murphi_typed.specs.Store.{Place, Contents, Cells as Store, cell_at, contents_at, only, written as store_written}
use Rattle.murphi_typed.specs.Outcome.{Outcome, Got, Fault, given}
use Rattle.murphi_typed.specs.Expressions.{Given, Calls, fitting, value_of as worked, place_of, arguments_of}
use Rattle.murphi_typed.specs.WellTyped.{widened, simple_part, is_of, same_simple, same_type, is_cell_of, holds_values_of, are_alike, type_of, place_type, arguments_fit}
use Rattle.murphi_typed.specs.Keeping.{Declared}
use Rattle.murphi_typed.specs.Laws.{ValuesFitInBodies, BodiesKeepTypes, FunctionsGiveResults}
use Rattle.rule_inline.specs.Demands.{Demand, truth_term}
use Rattle.rule_inline.specs.Tables.{Leaving, Result, Terms, Change, unchanged, renewed_by, Spot, Shown, shown_at, read_of, only_term, written}
use Rattle.rule_inline.specs.Bodies.{followed, reached, stored as stored_done, copied, copied_all, set, cleared, left_with, leave, result_stored, returned, asserted, failed}
use Rattle.rule_inline.specs.Parts.{Given as Gift, Site, with_value, with_variable, Valued, Calls as TermCalls, Done, undefined, stored_fits, valued_of, placed_of, argued_of}
use Rattle.rule_inline.proofs.ValueLemmas.{absurd_false}
use Rattle.rule_inline.proofs.TermLemmas.{value-Known, is_true}
use Rattle.rule_inline.proofs.Outcome.{Either, AllHold, Tells, one_fails, tells_given, tells_then, tells_test, tells_unless}
use Rattle.rule_inline.proofs.PlaceLemmas.{Rep}
use Rattle.rule_inline.proofs.WriteLemmas.{Shows, only_shows, Spots, place_shows}
use Rattle.rule_inline.proofs.TypeLemmas.{some_one, of_type, not_undefined}
use Rattle.rule_inline.proofs.ArithLemmas.{Storable, tells_stored, may_is}
use Rattle.rule_inline.proofs.SceneLemmas.{at_frame}
use Rattle.rule_inline.proofs.QuantifierLemmas.{given_twice}
use Rattle.rule_inline.proofs.PartLemmas.{Here, simple_found, ArgsAre, FunctionTells, widened_found, IsTold}
use Rattle.murphi_typed.specs.Execution.{Ending, Next, Returned, then_on, at_of, stored, with_value as with_value_at, cleared as store_cleared, calls_of}
use Rattle.rule_inline.proofs.ExpressionLaw.{typed, read_value, cell_storable, tells_value, tells_place}
use Rattle.rule_inline.proofs.ChangeLemmas.{CallsUnwritten}
use Rattle.rule_inline.proofs.LeftLemmas.{SameTerms}
use Rattle.rule_inline.proofs.EndLemmas.{Body, here_of, ResultIs, EndsWith, ends_same, checked, GoesOn, tells_next, goes_written}

-- every loop over nodes of a body has a property, and so has every procedure that it calls with what it gives
unfoldable mutual
  pub stmt_loops : TermCalls → (ℕ → Site → List Gift → Type 0) → ((n : _) → Site → Row_of-Stmt n → Type 0) → Site → Stmt → Type 0
  stmt_loops tcalls allowed Q site (st.Block' _ body) = row_loops tcalls allowed Q site body
  stmt_loops tcalls allowed Q site (st.Call k args at) = (T : Terms) → allowed k site (argued_of tcalls site T args).given
  stmt_loops tcalls allowed Q site (st.If' _ arms _ otherwise at) = arm_loops tcalls allowed Q site arms × row_loops tcalls allowed Q site otherwise
  stmt_loops tcalls allowed Q site (st.Switch' on _ cases _ otherwise at) = case_loops tcalls allowed Q site cases × row_loops tcalls allowed Q site otherwise
  stmt_loops tcalls allowed Q site (st.For' simple.Node _ body at) = Q _ site body × row_loops tcalls allowed Q (with_variable site) body
  stmt_loops tcalls allowed Q site (st.For' over _ body at) = (x : Value) → row_loops tcalls allowed Q (with_value site x) body
  stmt_loops tcalls allowed Q site _ = Unit {0}

  pub row_loops : {n : _} → TermCalls → (ℕ → Site → List Gift → Type 0) → ((n : _) → Site → Row_of-Stmt n → Type 0) → Site → Row_of-Stmt n → Type 0
  row_loops tcalls allowed Q site end_of-Stmt = Unit {0}
  row_loops tcalls allowed Q site (more_of-Stmt first rest) = stmt_loops tcalls allowed Q site first × row_loops tcalls allowed Q site rest

  pub arm_loops : {n : _} → TermCalls → (ℕ → Site → List Gift → Type 0) → ((n : _) → Site → Row_of-Stmt n → Type 0) → Site → Row_of-Arm n → Type 0
  arm_loops tcalls allowed Q site end_of-Arm = Unit {0}
  arm_loops tcalls allowed Q site (more_of-Arm test _ body rest) = row_loops tcalls allowed Q site body × arm_loops tcalls allowed Q site rest

  pub case_loops : {n : _} → TermCalls → (ℕ → Site → List Gift → Type 0) → ((n : _) → Site → Row_of-Stmt n → Type 0) → Site → Row_of-Case n → Type 0
  case_loops tcalls allowed Q site end_of-Case = Unit {0}
  case_loops tcalls allowed Q site (more_of-Case labels _ body rest) = row_loops tcalls allowed Q site body × case_loops tcalls allowed Q site rest

-- a check of a result commutes with what follows
row_checked : (N : ℕ) (s : Cells) (at : Span) (res : Option Simple) (o : Outcome Ending) (R : Store → Outcome Ending) → given (given o (λ e. then_on e R)) (checked N s at res) ≡ given (given o (checked N s at res)) (λ e. then_on e (λ c. given (R c) (checked N s at res)))
row_checked N s at res (Fault place) R = refl
row_checked N s at res (Got (Next c)) R = refl
row_checked N s at res (Got (Returned c None)) R = refl
row_checked N s at None (Got (Returned c (Some w))) R = refl
row_checked N s at (Some u) (Got (Returned c (Some w))) R = go (is_value N u w)
  where
    go : (b : Bool) → (if b then Got (Returned c (Some w)) else Fault at) ≡ given (if b then Got (Returned c (Some w)) else Fault at) (λ e. then_on e (λ c. given (R c) (checked N s at (Some u))))
    go true = refl
    go false = refl

checked_next : (N : ℕ) (s : Cells) (at : Span) (res : Option Simple) (o : Outcome Ending) (c : Store) → given o (checked N s at res) ≡ Got (Next c) → o ≡ Got (Next c)
checked_next N s at res (Fault place) c e = cc
checked_next N s at res (Got (Next d)) c e = e
checked_next N s at res (Got (Returned d None)) c e = cc
checked_next N s at None (Got (Returned d (Some w))) c e = cc
checked_next N s at (Some u) (Got (Returned d (Some w))) c e = go (is_value N u w) e
  where
    go : (b : Bool) → (if b then Got (Returned d (Some w)) else Fault at) ≡ Got (Next c) → Got (Returned d (Some w)) ≡ Got (Next c)
    go true e = e
    go false e = cc

-- one part of a body and what follows it
pub then_told : (N : ℕ) (s : Cells) (depth : ℕ) (fr : List ℕ) (at : Span) (res : Option Simple) (o : Outcome Ending) (R : Store → Outcome Ending) (a : Done) (next : Terms → Done)
    → Tells N s fr (given o (checked N s at res)) a.demands (EndsWith N s depth fr res a.change)
    → ((c : Store) → o ≡ Got (Next c) → Rep N s depth fr a.change.now c → is_true N s fr (a.change.now Leaving) ≡ false → Tells N s fr (given (R c) (checked N s at res)) ((next a.change.now).demands) (EndsWith N s depth fr res (next a.change.now).change))
    → (is_true N s fr (a.change.now Leaving) ≡ true → AllHold N s fr ((next a.change.now).demands) × SameTerms N s depth fr a.change.now ((next a.change.now).change.now))
    → Tells N s fr (given (given o (λ e. then_on e R)) (checked N s at res)) ((followed a next).demands) (EndsWith N s depth fr res (followed a next).change)
then_told N s depth fr at res o R a next first more left =
    subst (λ x. Tells N s fr x (a.demands ++ (next a.change.now).demands) (EndsWith N s depth fr res (followed a next).change)) (sym (row_checked N s at res o R))
    (tells_given N s fr a.demands ((next a.change.now).demands) (given o (checked N s at res)) _ _ _ first after)
  where
    after : (e : Ending) → given o (checked N s at res) ≡ Got e → EndsWith N s depth fr res a.change e → Tells N s fr (then_on e (λ c. given (R c) (checked N s at res))) ((next a.change.now).demands) (EndsWith N s depth fr res (next a.change.now).change)
    after (Next c) was (rep, staying) = more c (checked_next N s at res o c was) rep staying
    after (Returned c r) was (rep, is_left, is) = let (all, same) = left is_left in (all, ends_same N s depth fr res a.change (next a.change.now).change (Returned c r) same (rep, is_left, is))

module _ (binds : PlacingBinds) (fit : ValuesFitInBodies) (keep : BodiesKeepTypes) (results : FunctionsGiveResults) (s : Cells) (P : Typed) (latest : List Routine) (types : Declared) (tcalls : TermCalls) (allowed : ℕ → Site → List Gift → Type 0) where
  abbrev pub B : Type 0
  B = Body s P latest types

  abbrev calls : Calls
  calls = calls_of latest

  abbrev here : B → Span → Here s P latest types
  here b at = here_of results s P latest types b at

  abbrev site_at : B → Site
  site_at b = at_frame b.fr b.site

  -- what is told of a part of a body
  abbrev pub Follows : B → Span → Outcome Ending → Done → Type 0
  Follows b at o body = Tells b.scene.nodes s b.fr (given o (checked b.scene.nodes s at b.site.result)) body.demands (EndsWith b.scene.nodes s b.scene.depth b.fr b.site.result body.change)

  -- what is asked of a call of a procedure
  abbrev pub ProcedureTells : B → Type 0
  ProcedureTells b =
      (k : ℕ) (r : Routine) (args : Arguments) (at : Span) (gs : List Given) (gifts : List Gift)
      → slice_get (reverse latest) k ≡ Some r → r.result ≡ None → arguments_fit b.scope r.formals args ≡ true
      → arguments_of calls b.scene at b.cells args ≡ Got gs
      → ArgsAre b.scene.nodes s b.scene.depth b.fr r.formals gifts gs → allowed k (site_at b) gifts
      → Tells b.scene.nodes s b.fr (calls k b.scene at gs b.cells) ((tcalls k (site_at b) b.T gifts).demands)
      (λ left. Rep b.scene.nodes s b.scene.depth b.fr ((tcalls k (site_at b) b.T gifts).change.now) left.cells)

  module _ (functions : (h : Here s P latest types) → FunctionTells s P latest types tcalls h) (procedures : (b : B) → ProcedureTells b) (unwritten : CallsUnwritten tcalls) where
    pub value_told : (b : B) (at : Span) (e : Expr) (u : Simple) → type_of b.scope e ≡ Some u → IsTold b.scene.nodes s b.fr (worked calls b.scene at b.cells e) (valued_of tcalls (site_at b) b.T e)
    value_told b at e u is = tells_value binds fit s P latest types tcalls functions e (here b at) u is

    typed_value : (b : B) (at : Span) (e : Expr) (u : Simple) → type_of b.scope e ≡ Some u → (w : Value) → worked calls b.scene at b.cells e ≡ Got w → is_value b.scene.nodes u w ≡ true
    typed_value b at e u is w was = typed binds fit s P latest types tcalls functions (here b at) e u is w was

    place_told : (b : B) (at : Span) (place : Designator) (U : AnyType) → place_type b.scope place ≡ Some U → Tells b.scene.nodes s b.fr (place_of calls b.scene at b.cells place) ((placed_of tcalls (site_at b) b.T place).demands) (λ p. Spots b.scene.nodes s b.scene.depth b.fr (placed_of tcalls (site_at b) b.T place).spot p)
    place_told b at place U is = tells_place binds fit s P latest types tcalls functions place (here b at) U is

    -- a statement that goes on
    pub goes : (b : B) (at : Span) (o : Outcome Ending) (change : Change) (qs : List Demand) → Tells b.scene.nodes s b.fr o qs (GoesOn b.scene.nodes s b.scene.depth b.fr change) → Follows b at o (record { change = change; demands = reached (site_at b) b.T qs })
    goes b at o change qs told =
        tells_next b.scene.nodes s b.scene.depth b.fr at b.site.result change (reached (site_at b) b.T qs) o
        (tells_unless b.scene.nodes s b.fr (b.T Leaving) qs o (GoesOn b.scene.nodes s b.scene.depth b.fr change) b.staying told)

    cell_simple : (into : Simple) (o : Option AnyType) → is_cell_of into o ≡ true → (u : Simple) × (o ≡ Some (type.Simple u))
    cell_simple into o e = go (simple_part o) refl e
      where
        go : (p : Option Simple) → simple_part o ≡ p → option_map_or (same_simple into) p false ≡ true → (u : Simple) × (o ≡ Some (type.Simple u))
        go None was e = absurd_false e
        go (Some u) was e = (u, simple_found o u was)

    stored_told : (b : B) (at : Span) (spot : Spot) (p : Place) (into : Simple) (plain : Bool) (e : Term) (w : Value) → Spots b.scene.nodes s b.scene.depth b.fr spot p → value_of b.scene.nodes s b.fr e ≡ w → Storable b.scene.nodes s b.fr plain into w → Tells b.scene.nodes s b.fr (given (stored b.scene.nodes at into w) (with_value_at b.cells p)) (stored_fits plain into e) (GoesOn b.scene.nodes s b.scene.depth b.fr (written (length b.fr) b.T spot (only_term (length b.fr) e)))
    stored_told b at spot p into plain e w spots is fits =
        tells_then b.scene.nodes s b.fr (stored_fits plain into e) (stored b.scene.nodes at into w) (λ y. Next (store_written b.cells p (only y))) _ _
        (tells_stored b.scene.nodes s b.fr at plain into e w is fits)
        (λ y is'. goes_written b.scene.nodes s b.scene.depth b.fr b.T b.cells spot p (only_term (length b.fr) e) (only y) b.rep b.staying spots (only_shows b.scene.nodes s b.fr e y is'))

    pub assign_told : (b : B) (at : Span) (to : Designator) (into : Simple) (body : Expr) → is_cell_of into (place_type b.scope to) ≡ true → is_of into (type_of b.scope body) ≡ true → Follows b at (given (place_of calls b.scene (at_of to) b.cells to) (λ p. given (worked calls b.scene (at_of to) b.cells body) (λ w. given (stored b.scene.nodes (at_of to) into w) (with_value_at b.cells p)))) (stored_done (site_at b) b.T (placed_of tcalls (site_at b) b.T to) into (valued_of tcalls (site_at b) b.T body))
    assign_told b at to into body cell fits =
        let (u, is) = cell_simple into (place_type b.scope to) cell in
        let found : type_of b.scope body ≡ Some (widened into) = of_type into (type_of b.scope body) fits in
        goes b at _ (written (length b.fr) b.T (placed_of tcalls (site_at b) b.T to).spot (only_term (length b.fr) (valued_of tcalls (site_at b) b.T body).term)) _
        (tells_given b.scene.nodes s b.fr _ _ (place_of calls b.scene (at_of to) b.cells to) _ _ _ (place_told b (at_of to) to (type.Simple u) is)
        (λ p was spots. tells_given b.scene.nodes s b.fr _ _ (worked calls b.scene (at_of to) b.cells body) _ _ _ (value_told b (at_of to) body (widened into) found)
        (λ w was' value. stored_told b (at_of to) (placed_of tcalls (site_at b) b.T to).spot p into false (valued_of tcalls (site_at b) b.T body).term w spots value (inl (typed_value b (at_of to) body (widened into) found w was')))))

    pub copy_told : (b : B) (at : Span) (to : Designator) (into : Simple) (from : Designator) → is_cell_of into (place_type b.scope to) ≡ true → holds_values_of into (place_type b.scope from) ≡ true → Follows b at (given (place_of calls b.scene (at_of to) b.cells to) (λ p. given (place_of calls b.scene (at_of to) b.cells from) (λ q. given (stored b.scene.nodes (at_of to) into (cell_at b.cells q)) (with_value_at b.cells p)))) (copied (site_at b) b.T (placed_of tcalls (site_at b) b.T to) into (placed_of tcalls (site_at b) b.T from))
    copy_told b at to into from cell fits =
        let (u, is) = cell_simple into (place_type b.scope to) cell in
        let wide : option_map widened (simple_part (place_type b.scope from)) ≡ Some (widened into) = of_type into (option_map widened (simple_part (place_type b.scope from))) fits in
        let (w, from_is, same) = widened_found (place_type b.scope from) (widened into) wide in
        goes b at _ (written (length b.fr) b.T (placed_of tcalls (site_at b) b.T to).spot (only_term (length b.fr) (read_of (length b.fr) b.T (placed_of tcalls (site_at b) b.T from).spot))) _
        (tells_given b.scene.nodes s b.fr _ _ (place_of calls b.scene (at_of to) b.cells to) _ _ _ (place_told b (at_of to) to (type.Simple u) is)
        (λ p was spots. tells_given b.scene.nodes s b.fr _ _ (place_of calls b.scene (at_of to) b.cells from) _ _ _ (place_told b (at_of to) from (type.Simple w) from_is)
        (λ q was' others. stored_told b (at_of to) (placed_of tcalls (site_at b) b.T to).spot p into true (read_of (length b.fr) b.T (placed_of tcalls (site_at b) b.T from).spot) (cell_at b.cells q) spots
        (read_value binds fit s P latest types tcalls functions (here b (at_of to)) (placed_of tcalls (site_at b) b.T from).spot q others)
        (cell_storable binds fit s P latest types tcalls functions (here b (at_of to)) from q into was' wide))))

    pub alike_types : (o p : Option AnyType) → are_alike o p ≡ true → (U : AnyType) × (V : AnyType) × (o ≡ Some U) × (p ≡ Some V)
    alike_types (Some U) (Some V) e = (U, V, refl, refl)
    alike_types None p e = absurd_false e
    alike_types (Some U) None e = absurd_false e

    pub copy_all_told : (b : B) (at : Span) (to from : Designator) → are_alike (place_type b.scope to) (place_type b.scope from) ≡ true → Follows b at (given (place_of calls b.scene (at_of to) b.cells to) (λ p. given (place_of calls b.scene (at_of to) b.cells from) (λ q. Got (Next (store_written b.cells p (contents_at b.cells q)))))) (copied_all (site_at b) b.T (placed_of tcalls (site_at b) b.T to) (placed_of tcalls (site_at b) b.T from))
    copy_all_told b at to from alike =
        let (U, V, to_is, from_is) = alike_types (place_type b.scope to) (place_type b.scope from) alike in
        goes b at _ (written (length b.fr) b.T (placed_of tcalls (site_at b) b.T to).spot (shown_at (length b.fr) b.T (placed_of tcalls (site_at b) b.T from).spot)) _
        (tells_given b.scene.nodes s b.fr _ _ (place_of calls b.scene (at_of to) b.cells to) _ _ _ (place_told b (at_of to) to U to_is)
        (λ p was spots. tells_then b.scene.nodes s b.fr _ (place_of calls b.scene (at_of to) b.cells from) (λ q. Next (store_written b.cells p (contents_at b.cells q))) _ _ (place_told b (at_of to) from V from_is)
        (λ q others. goes_written b.scene.nodes s b.scene.depth b.fr b.T b.cells (placed_of tcalls (site_at b) b.T to).spot p (shown_at (length b.fr) b.T (placed_of tcalls (site_at b) b.T from).spot) (contents_at b.cells q) b.rep b.staying spots
        (place_shows b.scene.nodes s binds b.scene.depth b.fr b.T b.cells (placed_of tcalls (site_at b) b.T from).spot q b.rep others))))

    pub set_told : (b : B) (at from : Span) (place : Designator) (U : AnyType) (new : Shown) (contents : Contents) → place_type b.scope place ≡ Some U → Shows b.scene.nodes s b.fr new contents → Follows b at (given (place_of calls b.scene from b.cells place) (λ p. Got (Next (store_written b.cells p contents)))) (set (site_at b) b.T (placed_of tcalls (site_at b) b.T place) new)
    set_told b at from place U new contents is shows =
        goes b at _ (written (length b.fr) b.T (placed_of tcalls (site_at b) b.T place).spot new) _
        (tells_then b.scene.nodes s b.fr _ (place_of calls b.scene from b.cells place) (λ p. Next (store_written b.cells p contents)) _ _ (place_told b from place U is)
        (λ p spots. goes_written b.scene.nodes s b.scene.depth b.fr b.T b.cells (placed_of tcalls (site_at b) b.T place).spot p new contents b.rep b.staying spots shows))

    pub cleared_shows : (b : B) (of : AnyType) → Shows b.scene.nodes s b.fr (cleared of) (store_cleared of)
    cleared_shows b of path key more none long nodes = go (leaf_at of path)
      where
        go : (o : Option Simple) → value_of b.scene.nodes s (b.fr ++ more) (option_map_or (λ leaf. t.Known (cleared_value leaf)) o undefined) ≡ option_map_or cleared_value o v.Undefined
        go None = value-Known b.scene.nodes s (b.fr ++ more) v.Undefined
        go (Some leaf) = value-Known b.scene.nodes s (b.fr ++ more) (cleared_value leaf)

    pub typed_place : (of : AnyType) (o : Option AnyType) → option_map_or (same_type of) o false ≡ true → (U : AnyType) × (o ≡ Some U)
    typed_place of None e = absurd_false e
    typed_place of (Some U) e = (U, refl)

    pub some_place : (o : Option AnyType) → is_some o ≡ true → (U : AnyType) × (o ≡ Some U)
    some_place None e = absurd_false e
    some_place (Some U) e = (U, refl)

    pub stays : (b : B) → GoesOn b.scene.nodes s b.scene.depth b.fr (unchanged b.T) (Next b.cells)
    stays b = (b.cells, refl, b.rep, b.staying)

    pub failed_told : (b : B) (at from : Span) → Follows b at (Fault from) (failed (site_at b) b.T)
    failed_told b at from = goes b at (Fault from) (unchanged b.T) _ (one_fails b.scene.nodes s b.fr (truth_term false) (ap truth (value-Known b.scene.nodes s b.fr (v.Truth false))))

    pub assert_told : (b : B) (at from : Span) (test : Expr) → is_of simple.Truth (type_of b.scope test) ≡ true → Follows b at (given (worked calls b.scene from b.cells test) (λ w. if truth w then Got (Next b.cells) else Fault from)) (asserted (site_at b) b.T (valued_of tcalls (site_at b) b.T test))
    assert_told b at from test fits =
        let found : type_of b.scope test ≡ Some simple.Truth = of_type simple.Truth (type_of b.scope test) fits in
        goes b at _ (unchanged b.T) _
        (tells_given b.scene.nodes s b.fr _ _ (worked calls b.scene from b.cells test) _ _ _ (value_told b from test simple.Truth found)
        (λ w was is. tells_test b.scene.nodes s b.fr (valued_of tcalls (site_at b) b.T test).term _ _ (go w is (truth w) refl)))
      where
        go : (w : Value) → value_of b.scene.nodes s b.fr (valued_of tcalls (site_at b) b.T test).term ≡ w → (c : Bool) → truth w ≡ c → Either (is_true b.scene.nodes s b.fr (valued_of tcalls (site_at b) b.T test).term ≡ true) (is_true b.scene.nodes s b.fr (valued_of tcalls (site_at b) b.T test).term ≡ false) (if c then Got (Next b.cells) else Fault from) (GoesOn b.scene.nodes s b.scene.depth b.fr (unchanged b.T))
        go w is true was = (ap truth is ∙ was, stays b)
        go w is false was = ap truth is ∙ was

    pub leave_told : (b : B) (at : Span) → b.site.result ≡ None → Follows b at (Got (Returned b.cells None)) (leave b.T)
    leave_told b at none = (tt, (b.rep, ap truth (value-Known b.scene.nodes s b.fr (v.Truth true)), go b.site.result none))
      where
        go : (o : Option Simple) → o ≡ None → ResultIs b.scene.nodes s b.fr o None (b.T Result)
        go None e = tt
        go (Some u) e = cc

    pub return_told : (b : B) (at from : Span) (body : Expr) (u : Simple) → b.site.result ≡ Some u → is_of u (type_of b.scope body) ≡ true → Follows b at (given (worked calls b.scene from b.cells body) (λ w. Got (Returned b.cells (Some w)))) (returned (site_at b) b.T (valued_of tcalls (site_at b) b.T body))
    return_told b at from body u res fits = go b.site.result res
      where
        found : type_of b.scope body ≡ Some (widened u)
        found = of_type u (type_of b.scope body) fits

        e : Valued
        e = valued_of tcalls (site_at b) b.T body

        ranged : (w : Value) → value_of b.scene.nodes s b.fr e.term ≡ w → is_value b.scene.nodes (widened u) w ≡ true → Tells b.scene.nodes s b.fr (if is_value b.scene.nodes u w then Got (Returned b.cells (Some w)) else Fault at) (stored_fits false u e.term) (EndsWith b.scene.nodes s b.scene.depth b.fr (Some u) (renewed_by [] (left_with e.term) b.T))
        ranged w is fine =
            subst (λ c. Tells b.scene.nodes s b.fr (if c then Got (Returned b.cells (Some w)) else Fault at) (stored_fits false u e.term) (EndsWith b.scene.nodes s b.scene.depth b.fr (Some u) (renewed_by [] (left_with e.term) b.T))) (may_is b.scene.nodes s b.fr u w (not_undefined b.scene.nodes (widened u) w fine))
            (pick (may_hold b.scene.nodes u w) (tells_stored b.scene.nodes s b.fr at false u e.term w is (inl fine)))
          where
            pick : (c : Bool) → Tells b.scene.nodes s b.fr (fitting c at w) (stored_fits false u e.term) (λ y. value_of b.scene.nodes s b.fr e.term ≡ y) → Tells b.scene.nodes s b.fr (if c then Got (Returned b.cells (Some w)) else Fault at) (stored_fits false u e.term) (EndsWith b.scene.nodes s b.scene.depth b.fr (Some u) (renewed_by [] (left_with e.term) b.T))
            pick true (good, same) = (good, (b.rep, ap truth (value-Known b.scene.nodes s b.fr (v.Truth true)), same))
            pick false bad = bad

        go : (o : Option Simple) → o ≡ Some u → Tells b.scene.nodes s b.fr (given (given (worked calls b.scene from b.cells body) (λ w. Got (Returned b.cells (Some w)))) (checked b.scene.nodes s at o)) (reached (site_at b) b.T (e.demands ++ result_stored o e.term)) (EndsWith b.scene.nodes s b.scene.depth b.fr o (renewed_by [] (left_with e.term) b.T))
        go None same = cc
        go (Some w) same =
            let one : w ≡ u = some_one same in
            subst (λ o. Tells b.scene.nodes s b.fr (given (given (worked calls b.scene from b.cells body) (λ w. Got (Returned b.cells (Some w)))) (checked b.scene.nodes s at (Some o))) (reached (site_at b) b.T (e.demands ++ result_stored (Some o) e.term)) (EndsWith b.scene.nodes s b.scene.depth b.fr (Some o) (renewed_by [] (left_with e.term) b.T))) (sym one)
            (subst (λ x. Tells b.scene.nodes s b.fr x (reached (site_at b) b.T (e.demands ++ result_stored (Some u) e.term)) (EndsWith b.scene.nodes s b.scene.depth b.fr (Some u) (renewed_by [] (left_with e.term) b.T))) (sym (given_twice (worked calls b.scene from b.cells body) (λ w. Got (Returned b.cells (Some w))) (checked b.scene.nodes s at (Some u))))
            (tells_unless b.scene.nodes s b.fr (b.T Leaving) (e.demands ++ stored_fits false u e.term) _ _ b.staying
            (tells_given b.scene.nodes s b.fr e.demands (stored_fits false u e.term) (worked calls b.scene from b.cells body) _ _ _ (value_told b from body (widened u) found)
            (λ y was is. ranged y is (typed_value b from body (widened u) found y was)))))

-- Expressions, designators and arguments: where one faults a demand of it is false for some nodes, else its term has
-- its value. What functions do is given.
use Rattle.std.proofs.Common.{◌≡◌, ℕ, ◌<◌, Bool, true, false, ◌&&◌, List, [], ◌∷◌, ◌++◌, length, map, reverse, Option, None, Some, inl, inr, refl, sym, ap, ◌∙◌, subst}
use Rattle.std.specs.Prelude.{slice_get, option_map, option_and_then, is_some, unwrap_or}
use Rattle.std.proofs.lemmas.Bool.{and_parts}
use Rattle.std.proofs.lemmas.Option.{slice_get_within}
use Rattle.term_core.specs.declared.value.Value.{Value}
use Rattle.term_core.specs.declared.value.Value.TheVariants as v
use Rattle.term_core.specs.declared.term.Term as t
use Rattle.term_core.specs.declared.term.Term.{Term}
use Rattle.term_core.specs.Nodes.{is_node}
use Rattle.term_core.specs.Values.{truth, same_value}
use Rattle.term_core.specs.Meaning.{Cells, value_of}
use Rattle.term_core.specs.Laws.{PlacingBinds}
use Rattle.murphi_ast.specs.declared.token.Span.{Span}
use Rattle.murphi_ast.specs.declared.expr.CompareOp.TheVariants as compare
use Rattle.murphi_typed.specs.declared.types.Simple.{Simple}
use Rattle.murphi_typed.specs.declared.types.Simple.TheVariants as simple
use Rattle.murphi_typed.specs.declared.types.AnyType as type
use Rattle.murphi_typed.specs.declared.types.AnyType.{AnyType}
use Rattle.murphi_typed.specs.declared.expr.Root.{Root}
use Rattle.murphi_typed.specs.declared.expr.Expr as x
use Rattle.murphi_typed.specs.declared.expr.Expr.{Expr, end_of-Expr, more_of-Expr, Row_of-Link, end_of-Link, more_of-Link}
use Rattle.murphi_typed.specs.declared.expr.Designator as d
use Rattle.murphi_typed.specs.declared.expr.Designator.{Designator, Row_of-Selector, end_of-Selector, more_of-Selector}
use Rattle.murphi_typed.specs.declared.expr.Selector as select
use Rattle.murphi_typed.specs.declared.expr.Arguments as a
use Rattle.murphi_typed.specs.declared.expr.Arguments.{Arguments, Row_of-Argument, end_of-Argument, more_of-Argument}
use Rattle.murphi_typed.specs.declared.expr.Argument as argument
use Rattle.murphi_typed.specs.declared.protocol.Routine.{Routine}
use Rattle.murphi_typed.specs.declared.protocol.Formal.{Formal as DeclaredFormal}
use Rattle.murphi_typed.specs.Forms.{NotForm, MinusForm, CompareForm, ImpliesForm, ChoiceForm, QuantifiedForm}
use Rattle.murphi_typed.specs.Values.{is_value, values}
use Rattle.murphi_typed.specs.Store.{Place, cell_at, contents_at, only}
use Rattle.murphi_typed.specs.Outcome.{Outcome, Got, Fault, given, or_fault}
use Rattle.murphi_typed.specs.Expressions.{Given, Filled, Standing, Left, Calls, joined, defined, over_all, with_bound, root_place, under, row_path, fitting, value_of as worked, chain_value as worked_chain, place_of, indices_of as worked_indices, arguments_of, row_arguments, argument_of}
use Rattle.murphi_typed.specs.Prefix.{is_over_nodes}
use Rattle.murphi_typed.specs.WellTyped.{Scope, binding as scope_binding, numbers, widened, is_simple_type, root_type, simple_part, field_part, item_part, is_of, only_if, operand_type, comparable, may_write, root_of, given_place, type_of, chain_type, place_type, selected_type, arguments_fit, row_fits, argument_fits}
use Rattle.murphi_typed.specs.Keeping.{Declared}
use Rattle.murphi_typed.specs.declared.protocol.Typed.{Typed}
use Rattle.murphi_typed.specs.Execution.{calls_of}
use Rattle.murphi_typed.specs.Laws.{ValuesFitInBodies}
use Rattle.rule_inline.specs.Demands.{Demand, demand, binding}
use Rattle.rule_inline.specs.Tables.{Leaving, under_variable, Spot, shown_at, read_of, only_term}
use Rattle.rule_inline.specs.Parts.{Given as Gift, Filled as Filling, Standing as Placing, with_value, with_variable, Valued, Argued, Calls as TermCalls, fixed_values, undefined, is_defined, index_fits, joined as joined_term, after, over_values, terms_of, mark_of, place_mark, root_spot, valued_of, chain_of, placed_of, indices_of, argued_of, row_argued, one_argued, placed_under, with_calls, over_nodes, demands_of}
use Rattle.rule_inline.proofs.ValueLemmas.{absurd_false}
use Rattle.rule_inline.proofs.TermLemmas.{value-Known, value-And, value-Or, value-Same, value-Quantified, is_true, length-one_more, append_nothing}
use Rattle.rule_inline.proofs.Outcome.{Tells, tells_given, tells_then, tells_map}
use Rattle.rule_inline.proofs.PlaceLemmas.{Leads}
use Rattle.rule_inline.proofs.WriteLemmas.{only_shows, Spots, place_shows}
use Rattle.rule_inline.proofs.TypeLemmas.{not_some, only_parts, of_type, are_values, values_fixed}
use Rattle.rule_inline.proofs.ArithLemmas.{Storable}
use Rattle.rule_inline.proofs.SceneLemmas.{sound_binding, typed_binding, bound_there, rep_under, at_frame, inner, site_under, site_value, root_spots}
use Rattle.rule_inline.proofs.QuantifierLemmas.{given_twice, tells_nodes, quantified, tells_values}
use Rattle.rule_inline.proofs.PartLemmas.{Here, ArgIs, ArgsAre, FunctionTells, widened_found, found_simple, bound_found, none_selected, none_chain, rooted, equal_types, comparable_types, operand_widened, row_more, value_typed, compound_typed, place_typed, given_into, given_no_simple, none_fits, each_map, leads_joined, tells_got, IsTold, IsTyped, told_not, told_minus, told_compared, told_implied, told_choice, told_chain, defined_told, index_told}

-- what a function leaves is its result
tells_result : (N : ℕ) (s : Cells) (fr : List ℕ) (at : Span) (qs : List Demand) (o : Outcome Left) (term : Term) → Tells N s fr o qs (λ left. (w : Value) × (left.result ≡ Some w) × (value_of N s fr term ≡ w)) → Tells N s fr (given o (λ left. or_fault at left.result)) qs (λ y. value_of N s fr term ≡ y)
tells_result N s fr at qs (Fault place) term bad = bad
tells_result N s fr at qs (Got left) term (good, facts) =
    let (w, is, value) = facts in
    subst (λ o. Tells N s fr (or_fault at o) qs (λ y. value_of N s fr term ≡ y)) (sym is) (good, value)

module _ (binds : PlacingBinds) (fit : ValuesFitInBodies) (s : Cells) (P : Typed) (latest : List Routine) (types : Declared) (tcalls : TermCalls) (functions : (h : Here s P latest types) → FunctionTells s P latest types tcalls h) where
  abbrev H : Type 0
  H = Here s P latest types

  abbrev calls : Calls
  calls = calls_of latest

  abbrev routines : List Routine
  routines = reverse latest

  abbrev result : H → Expr → Outcome Value
  result h e = worked calls h.scene h.at h.cells e

  abbrev taken : H → Expr → Valued
  taken h e = valued_of tcalls (at_frame h.fr h.site) h.T e

  abbrev Told : H → Outcome Value → Valued → Type 0
  Told h o e = IsTold h.scene.nodes s h.fr o e

  pub typed : (h : H) (e : Expr) (u : Simple) → type_of h.scope e ≡ Some u → (w : Value) → result h e ≡ Got w → is_value h.scene.nodes u w ≡ true
  typed h e u is w was = fit types calls h.scope h.scene h.at h.cells h.sound.fits h.sound.fine h.sound.bound h.sound.results h.sound.kept e u w is was

  abbrev pub here_value : (h : H) (over : Simple) (w : Value) → is_value h.scene.nodes over w ≡ true → is_simple_type h.scope.kinds over ≡ true → H
  here_value h over w is fine = record {
    scope = scope_binding h.scope over;
    scene = with_bound h.scene w;
    fr = h.fr;
    site = with_value h.site w;
    T = h.T;
    cells = h.cells;
    at = h.at;
    typed = typed_binding P latest types calls h.scope h.scene h.cells over w h.sound h.typed is fine;
    sound = sound_binding types calls routines h.scope h.scene h.cells over w h.sound is fine;
    sited = site_value s h.fr h.site h.scene w h.sited;
    rep = h.rep;
  }

  abbrev pub here_node : (h : H) (n : ℕ) → is_node h.scene.nodes n ≡ true → H
  here_node h n is = record {
    scope = scope_binding h.scope simple.Node;
    scene = with_bound h.scene (v.Node n);
    fr = h.fr ++ n ∷ [];
    site = inner h.fr h.site;
    T = under_variable (length h.fr) h.T;
    cells = h.cells;
    at = h.at;
    typed = typed_binding P latest types calls h.scope h.scene h.cells simple.Node (v.Node n) h.sound h.typed is refl;
    sound = sound_binding types calls routines h.scope h.scene h.cells simple.Node (v.Node n) h.sound is refl;
    sited = site_under s h.fr h.site h.scene n h.sited;
    rep = rep_under h.scene.nodes s h.scene.depth h.fr h.T h.cells n h.rep;
  }

  pub read_value : (h : H) (spot : Spot) (p : Place) → Spots h.scene.nodes s h.scene.depth h.fr spot p → value_of h.scene.nodes s h.fr (read_of (length h.fr) h.T spot) ≡ cell_at h.cells p
  read_value h spot p spots =
      ap (λ xs. value_of h.scene.nodes s xs (read_of (length h.fr) h.T spot)) (sym (append_nothing h.fr))
      ∙ place_shows h.scene.nodes s binds h.scene.depth h.fr h.T h.cells spot p h.rep spots [] [] [] tt refl refl
      ∙ ap (λ path. h.cells p.owner path (p.at ++ [])) (append_nothing p.path)
      ∙ ap (h.cells p.owner p.path) (append_nothing p.at)

  bound_told : (h : H) (k : ℕ) (u : Simple) → option_map widened (slice_get h.scope.bound k) ≡ Some u → Told h (or_fault h.at (slice_get h.scene.bound k)) (record { term = unwrap_or (slice_get h.site.bound k) undefined; demands = [] })
  bound_told h k u e =
      let (w, found) = bound_found (slice_get h.scope.bound k) u e in
      let less : k < length h.scene.bound = subst (λ m. k < m) h.sound.lengths (slice_get_within h.scope.bound k w found) in
      let (y, there, is) = bound_there h.scene.nodes s h.fr h.site.bound h.scene.bound k h.sited.bound less in
      subst (λ o. Told h (or_fault h.at o) (record { term = unwrap_or (slice_get h.site.bound k) undefined; demands = [] })) (sym there) (tt, is)

  quantified_told : (h : H) (all : Bool) (es : List Valued) (o : Outcome Bool) → Tells h.scene.nodes s h.fr o (demands_of es) (λ b. b ≡ quantified h.scene.nodes s h.fr all es) → Told h (given o (λ b. Got (v.Truth b))) (over_values all es)
  quantified_told h true es o told = tells_then h.scene.nodes s h.fr (demands_of es) o v.Truth _ _ told (λ b e. value-And h.scene.nodes s h.fr (terms_of es) ∙ ap v.Truth (sym e))
  quantified_told h false es o told = tells_then h.scene.nodes s h.fr (demands_of es) o v.Truth _ _ told (λ b e. value-Or h.scene.nodes s h.fr (terms_of es) ∙ ap v.Truth (sym e))

  -- a quantifier over a type that is not of nodes
  finite_told : (h : H) (all : Bool) (over : Simple) (body : Expr) → is_over_nodes over ≡ false → ((w : Value) (is : is_value h.scene.nodes over w ≡ true) → Told h (worked calls (with_bound h.scene w) h.at h.cells body) (valued_of tcalls (with_value (at_frame h.fr h.site) w) h.T body)) → Told h (given (over_all all (λ w. worked calls (with_bound h.scene w) h.at h.cells body) (values h.scene.nodes over)) (λ b. Got (v.Truth b))) (over_values all (map (λ w. valued_of tcalls (with_value (at_frame h.fr h.site) w) h.T body) (fixed_values over)))
  finite_told h all over body nn each =
      subst (λ xs. Told h (given (over_all all (λ w. worked calls (with_bound h.scene w) h.at h.cells body) xs) (λ b. Got (v.Truth b))) (over_values all (map (λ w. valued_of tcalls (with_value (at_frame h.fr h.site) w) h.T body) (fixed_values over)))) (sym (values_fixed h.scene.nodes over nn))
      (quantified_told h all (map (λ w. valued_of tcalls (with_value (at_frame h.fr h.site) w) h.T body) (fixed_values over)) (over_all all (λ w. worked calls (with_bound h.scene w) h.at h.cells body) (fixed_values over))
      (tells_values h.scene.nodes s h.fr all (λ w. worked calls (with_bound h.scene w) h.at h.cells body) (λ w. valued_of tcalls (with_value (at_frame h.fr h.site) w) h.T body) (fixed_values over) (each_map (fixed_values over) each (are_values h.scene.nodes over nn))))

  -- a quantifier over nodes
  nodes_told : (h : H) (all : Bool) (body : Expr) → ((n : ℕ) (is : is_node h.scene.nodes n ≡ true) → Told (here_node h n is) (result (here_node h n is) body) (taken (here_node h n is) body)) → Told h (given (over_all all (λ w. worked calls (with_bound h.scene w) h.at h.cells body) (values h.scene.nodes simple.Node)) (λ b. Got (v.Truth b))) (over_nodes all (valued_of tcalls (with_variable (at_frame h.fr h.site)) (under_variable (length h.fr) h.T) body))
  nodes_told h all body each =
      tells_then h.scene.nodes s h.fr (binding e.demands) (over_all all (λ w. worked calls (with_bound h.scene w) h.at h.cells body) (values h.scene.nodes simple.Node)) v.Truth _ _
      (tells_nodes h.scene.nodes s h.fr all (λ w. worked calls (with_bound h.scene w) h.at h.cells body) (λ n. is_true h.scene.nodes s (h.fr ++ n ∷ []) e.term) e.demands
      (λ n is. tells_map h.scene.nodes s (h.fr ++ n ∷ []) e.demands (worked calls (with_bound h.scene (v.Node n)) h.at h.cells body) _ _ (one n is) (λ y same. ap truth (sym same))))
      (λ b same. value-Quantified h.scene.nodes s h.fr all e.term ∙ ap v.Truth (sym same))
    where
      e : Valued
      e = valued_of tcalls (with_variable (at_frame h.fr h.site)) (under_variable (length h.fr) h.T) body

      one : (n : ℕ) (is : is_node h.scene.nodes n ≡ true) → IsTold h.scene.nodes s (h.fr ++ n ∷ []) (worked calls (with_bound h.scene (v.Node n)) h.at h.cells body) e
      one n is = subst (λ m. IsTold h.scene.nodes s (h.fr ++ n ∷ []) (worked calls (with_bound h.scene (v.Node n)) h.at h.cells body) (valued_of tcalls (record (inner h.fr h.site) { frame = m }) (under_variable (length h.fr) h.T) body)) (length-one_more h.fr n) (each n is)

  -- a designator, given its indices
  designator_told : {n : _} (h : H) (root : Root) (selectors : Row_of-Selector n) (U : AnyType) → selected_type h.scope (root_type h.scope root) selectors ≡ Some U → Tells h.scene.nodes s h.fr (worked_indices calls h.scene h.at h.cells selectors) ((indices_of tcalls (at_frame h.fr h.site) h.T selectors).demands) (λ xs. Leads h.scene.nodes s h.fr ((indices_of tcalls (at_frame h.fr h.site) h.T selectors).indices) xs) → Tells h.scene.nodes s h.fr (given (or_fault h.at (root_place h.scene root)) (λ p. given (worked_indices calls h.scene h.at h.cells selectors) (λ indices. Got (under p (row_path selectors) indices)))) ((indices_of tcalls (at_frame h.fr h.site) h.T selectors).demands) (λ p. Spots h.scene.nodes s h.scene.depth h.fr (placed_under (root_spot (at_frame h.fr h.site) root) (row_path selectors) (indices_of tcalls (at_frame h.fr h.site) h.T selectors)).spot p)
  designator_told h root selectors U e told =
      let (W, rooted_is) = rooted h.scope (root_type h.scope root) selectors U e in
      let (p, found, has) = h.sound.fits root W rooted_is in
      let base = root_spots s h.fr h.site h.scene root p h.sited found in
      subst (λ o. Tells h.scene.nodes s h.fr (given (or_fault h.at o) (λ p. given (worked_indices calls h.scene h.at h.cells selectors) (λ indices. Got (under p (row_path selectors) indices)))) ((indices_of tcalls (at_frame h.fr h.site) h.T selectors).demands) (λ p. Spots h.scene.nodes s h.scene.depth h.fr (placed_under (root_spot (at_frame h.fr h.site) root) (row_path selectors) (indices_of tcalls (at_frame h.fr h.site) h.T selectors)).spot p)) (sym found)
      (tells_then h.scene.nodes s h.fr ((indices_of tcalls (at_frame h.fr h.site) h.T selectors).demands) (worked_indices calls h.scene h.at h.cells selectors) (λ indices. under p (row_path selectors) indices) _ _ told
      (λ xs leads. record { reach = base.reach; owner = base.owner; path = ap (λ path. path ++ row_path selectors) base.path; leads = leads_joined h.scene.nodes s h.fr (root_spot (at_frame h.fr h.site) root).at ((indices_of tcalls (at_frame h.fr h.site) h.T selectors).indices) p.at xs base.leads leads }))

  -- a call of a function, given its arguments
  call_told : (h : H) (k : ℕ) (args : Arguments) (u : Simple) → option_and_then (λ r. only_if (arguments_fit h.scope r.formals args) (option_map widened r.result)) (slice_get h.scope.routines k) ≡ Some u → ((formals : List DeclaredFormal) → arguments_fit h.scope formals args ≡ true → Tells h.scene.nodes s h.fr (arguments_of calls h.scene h.at h.cells args) ((argued_of tcalls (at_frame h.fr h.site) h.T args).demands) (λ gs. ArgsAre h.scene.nodes s h.scene.depth h.fr formals ((argued_of tcalls (at_frame h.fr h.site) h.T args).given) gs)) → Told h (given (arguments_of calls h.scene h.at h.cells args) (λ gs. given (calls k h.scene h.at gs h.cells) (λ left. or_fault h.at left.result))) (with_calls tcalls k (at_frame h.fr h.site) h.T (argued_of tcalls (at_frame h.fr h.site) h.T args))
  call_told h k args u e arguments = go (slice_get h.scope.routines k) refl e
    where
      given_args : Argued
      given_args = argued_of tcalls (at_frame h.fr h.site) h.T args

      inner_told : (r : Routine) (w : Simple) → slice_get h.scope.routines k ≡ Some r → r.result ≡ Some w → arguments_fit h.scope r.formals args ≡ true → Told h (given (arguments_of calls h.scene h.at h.cells args) (λ gs. given (calls k h.scene h.at gs h.cells) (λ left. or_fault h.at left.result))) (with_calls tcalls k (at_frame h.fr h.site) h.T given_args)
      inner_told r w found is fits =
          tells_given h.scene.nodes s h.fr given_args.demands ((tcalls k (at_frame h.fr h.site) h.T given_args.given).demands ++ demand ((tcalls k (at_frame h.fr h.site) h.T given_args.given).change.now Leaving) ∷ []) (arguments_of calls h.scene h.at h.cells args) (λ gs. given (calls k h.scene h.at gs h.cells) (λ left. or_fault h.at left.result)) _ _ (arguments r.formals fits)
          (λ gs was ok. tells_result h.scene.nodes s h.fr h.at _ (calls k h.scene h.at gs h.cells) _ (functions h k r w args gs given_args.given (ap (λ rs. slice_get rs k) (sym h.sound.known) ∙ found) is fits was ok))

      go : (o : Option Routine) → slice_get h.scope.routines k ≡ o → option_and_then (λ r. only_if (arguments_fit h.scope r.formals args) (option_map widened r.result)) o ≡ Some u → Told h (given (arguments_of calls h.scene h.at h.cells args) (λ gs. given (calls k h.scene h.at gs h.cells) (λ left. or_fault h.at left.result))) (with_calls tcalls k (at_frame h.fr h.site) h.T given_args)
      go None found e = not_some e
      go (Some r) found e =
          let (fits, is) = only_parts (arguments_fit h.scope r.formals args) (option_map widened r.result) u e in
          let (w, result_is) = bound_found r.result u is in
          inner_told r w found result_is fits

  undefined_value : (h : H) (spot : Spot) (p : Place) → value_of h.scene.nodes s h.fr (read_of (length h.fr) h.T spot) ≡ cell_at h.cells p → value_of h.scene.nodes s h.fr (t.Same (read_of (length h.fr) h.T spot) undefined) ≡ v.Truth (same_value (cell_at h.cells p) v.Undefined)
  undefined_value h spot p is = value-Same h.scene.nodes s h.fr (read_of (length h.fr) h.T spot) undefined ∙ ap (λ y. v.Truth (same_value y (value_of h.scene.nodes s h.fr undefined))) is ∙ ap (λ y. v.Truth (same_value (cell_at h.cells p) y)) (value-Known h.scene.nodes s h.fr v.Undefined)

  -- the cell of a designator is undefined or of its type
  pub cell_storable : (h : H) (place : Designator) (q : Place) (into : Simple) → place_of calls h.scene h.at h.cells place ≡ Got q → option_map widened (simple_part (place_type h.scope place)) ≡ Some (widened into) → Storable h.scene.nodes s h.fr true into (cell_at h.cells q)
  unfolding worked type_of
  cell_storable h place q into was e = go (cell_at h.cells q) refl
    where
      read_is : (w : Value) → cell_at h.cells q ≡ w → result h (x.Read place) ≡ defined h.at w
      read_is w is = ap (λ o. given o (λ p. defined h.at (cell_at h.cells p))) was ∙ ap (defined h.at) is

      fine : (w : Value) → result h (x.Read place) ≡ Got w → is_value h.scene.nodes (widened into) w ≡ true
      fine w is = typed h (x.Read place) (widened into) e w is

      go : (w : Value) → cell_at h.cells q ≡ w → Storable h.scene.nodes s h.fr true into w
      go v.Undefined is = inr (refl, refl)
      go (v.Truth b) is = inl (fine (v.Truth b) (read_is (v.Truth b) is))
      go (v.Number z) is = inl (fine (v.Number z) (read_is (v.Number z) is))
      go (v.Member k i) is = inl (fine (v.Member k i) (read_is (v.Member k i) is))
      go (v.Node n) is = inl (fine (v.Node n) (read_is (v.Node n) is))

  -- arguments, one before others
  one_told : (h : H) (d : DeclaredFormal) (ds : List DeclaredFormal) (f : Gift) (qs : List Demand) (rest : Argued) (o : Outcome Given) (p : Outcome (List Given)) → Tells h.scene.nodes s h.fr o qs (λ g. ArgIs h.scene.nodes s h.scene.depth h.fr (Some d) f g) → Tells h.scene.nodes s h.fr p rest.demands (λ gs. ArgsAre h.scene.nodes s h.scene.depth h.fr ds rest.given gs) → Tells h.scene.nodes s h.fr (given o (λ g. given p (λ gs. Got (g ∷ gs)))) (qs ++ rest.demands) (λ gs. ArgsAre h.scene.nodes s h.scene.depth h.fr (d ∷ ds) (f ∷ rest.given) gs)
  one_told h d ds f qs rest o p first second =
      tells_given h.scene.nodes s h.fr qs rest.demands o _ _ _ first
      (λ g was is. tells_then h.scene.nodes s h.fr rest.demands p (λ gs. g ∷ gs) _ _ second (λ gs are. (is, are)))

  start_chain : {R : Type 0} {n : _} (scope : Scope) (o : Option Simple) (rest : Row_of-Link n) (u : Simple) → chain_type scope o rest ≡ Some u → ((w : Simple) → o ≡ Some w → chain_type scope (Some w) rest ≡ Some u → R) → R
  start_chain scope None rest u e next = not_some (sym (none_chain scope rest) ∙ e)
  start_chain scope (Some w) rest u e next = next w refl e

  more_chain : {R : Type 0} {n : _} (scope : Scope) (b : Bool) (w : Simple) (rest : Row_of-Link n) (u : Simple) → chain_type scope (only_if b (Some w)) rest ≡ Some u → (b ≡ true → chain_type scope (Some w) rest ≡ Some u → R) → R
  more_chain scope false w rest u e next = not_some (sym (none_chain scope rest) ∙ e)
  more_chain scope true w rest u e next = next refl e

  more_index : {R : Type 0} {n : _} (scope : Scope) (b : Bool) (o : Option AnyType) (rest : Row_of-Selector n) (U : AnyType) → selected_type scope (only_if b o) rest ≡ Some U → (b ≡ true → selected_type scope o rest ≡ Some U → R) → R
  more_index scope false o rest U e next = not_some (sym (none_selected scope rest) ∙ e)
  more_index scope true o rest U e next = next refl e

  mutual
    unfolding worked valued_of type_of

    pub tells_value : (e : Expr) (h : H) (u : Simple) → type_of h.scope e ≡ Some u → Told h (result h e) (taken h e)
    tells_value (x.Known w) h u e = (tt, value-Known h.scene.nodes s h.fr w)
    tells_value (x.Bound k) h u e = bound_told h k u e
    tells_value (x.Read place) h u e =
        let (w, is, wide) = widened_found (place_type h.scope place) u e in
        tells_given h.scene.nodes s h.fr ((placed_of tcalls (at_frame h.fr h.site) h.T place).demands) (demand (is_defined (read_of (length h.fr) h.T (placed_of tcalls (at_frame h.fr h.site) h.T place).spot)) ∷ []) (place_of calls h.scene h.at h.cells place) (λ p. defined h.at (cell_at h.cells p)) _ _
        (tells_place place h (type.Simple w) is)
        (λ p was spots. defined_told h.scene.nodes s h.fr h.at (read_of (length h.fr) h.T (placed_of tcalls (at_frame h.fr h.site) h.T place).spot) (cell_at h.cells p) (read_value h (placed_of tcalls (at_frame h.fr h.site) h.T place).spot p spots))
    tells_value (x.Call k args from) h u e = call_told h k args u e (λ formals fits. tells_arguments args h formals fits)
    tells_value (NotForm body) h u e =
        let (is, same) = only_parts (is_of simple.Truth (type_of h.scope body)) (Some simple.Truth) u e in
        told_not h.scene.nodes s h.fr (result h body) (taken h body) (tells_value body h simple.Truth (of_type simple.Truth (type_of h.scope body) is))
    tells_value (MinusForm body) h u e =
        let (is, same) = only_parts (is_of numbers (type_of h.scope body)) (Some numbers) u e in
        let found : type_of h.scope body ≡ Some numbers = of_type numbers (type_of h.scope body) is in
        told_minus h.scene.nodes s h.fr h.at (result h body) (taken h body) (tells_value body h numbers found) (typed h body numbers found)
    tells_value (x.Chain' _ (more_of-Expr first end_of-Expr) _ rest) h u e =
        start_chain h.scope (type_of h.scope first) rest u e
        (λ w found more. tells_chain rest h (result h first) (taken h first) w u
        (tells_got h.scene.nodes s h.fr (taken h first).demands (result h first) _ _ (tells_value first h w found) (λ y was is. (is, typed h first w found y was))) more)
    tells_value (CompareForm by left right) h u e =
        let (fits, same) = only_parts (comparable by (type_of h.scope left) (type_of h.scope right)) (Some simple.Truth) u e in
        let (p, q, first, second) = comparable_types by (type_of h.scope left) (type_of h.scope right) fits in
        told_compared h.scene.nodes s h.fr by (result h left) (result h right) (taken h left) (taken h right) (tells_value left h p first) (tells_value right h q second)
    tells_value (ImpliesForm left right) h u e =
        let (fits, same) = only_parts (is_of simple.Truth (type_of h.scope left) && is_of simple.Truth (type_of h.scope right)) (Some simple.Truth) u e in
        let (first, second) = and_parts (is_of simple.Truth (type_of h.scope left)) (is_of simple.Truth (type_of h.scope right)) fits in
        told_implied h.scene.nodes s h.fr (result h left) (result h right) (taken h left) (taken h right)
        (tells_value left h simple.Truth (of_type simple.Truth (type_of h.scope left) first)) (tells_value right h simple.Truth (of_type simple.Truth (type_of h.scope right) second))
    tells_value (ChoiceForm test then' else') h u e =
        let (fits, is) = only_parts (is_of simple.Truth (type_of h.scope test) && comparable compare.Equal (type_of h.scope then') (type_of h.scope else')) (type_of h.scope then') u e in
        let (first, alike) = and_parts (is_of simple.Truth (type_of h.scope test)) (comparable compare.Equal (type_of h.scope then') (type_of h.scope else')) fits in
        told_choice h.scene.nodes s h.fr (result h test) (result h then') (result h else') (taken h test) (taken h then') (taken h else')
        (tells_value test h simple.Truth (of_type simple.Truth (type_of h.scope test) first)) (tells_value then' h u is) (tells_value else' h u (equal_types (type_of h.scope then') (type_of h.scope else') u alike is))
    tells_value (QuantifiedForm all simple.Node body) h u e =
        let (fits, same) = only_parts (is_of simple.Truth (type_of (scope_binding h.scope simple.Node) body)) (Some simple.Truth) u e in
        nodes_told h all body (λ n is. tells_value body (here_node h n is) simple.Truth (of_type simple.Truth (type_of (scope_binding h.scope simple.Node) body) fits))
    tells_value (QuantifiedForm all simple.Truth body) h u e =
        let (fits, same) = only_parts (is_of simple.Truth (type_of (scope_binding h.scope simple.Truth) body)) (Some simple.Truth) u e in
        finite_told h all simple.Truth body refl (λ w is. tells_value body (here_value h simple.Truth w is refl) simple.Truth (of_type simple.Truth (type_of (scope_binding h.scope simple.Truth) body) fits))
    tells_value (QuantifiedForm all (simple.Range low high) body) h u e =
        let (fits, same) = only_parts (is_simple_type h.scope.kinds (simple.Range low high) && is_of simple.Truth (type_of (scope_binding h.scope (simple.Range low high)) body)) (Some simple.Truth) u e in
        let (fine, truths) = and_parts (is_simple_type h.scope.kinds (simple.Range low high)) (is_of simple.Truth (type_of (scope_binding h.scope (simple.Range low high)) body)) fits in
        finite_told h all (simple.Range low high) body refl (λ w is. tells_value body (here_value h (simple.Range low high) w is fine) simple.Truth (of_type simple.Truth (type_of (scope_binding h.scope (simple.Range low high)) body) truths))
    tells_value (QuantifiedForm all (simple.Listed kind count) body) h u e =
        let (fits, same) = only_parts (is_simple_type h.scope.kinds (simple.Listed kind count) && is_of simple.Truth (type_of (scope_binding h.scope (simple.Listed kind count)) body)) (Some simple.Truth) u e in
        let (fine, truths) = and_parts (is_simple_type h.scope.kinds (simple.Listed kind count)) (is_of simple.Truth (type_of (scope_binding h.scope (simple.Listed kind count)) body)) fits in
        finite_told h all (simple.Listed kind count) body refl (λ w is. tells_value body (here_value h (simple.Listed kind count) w is fine) simple.Truth (of_type simple.Truth (type_of (scope_binding h.scope (simple.Listed kind count)) body) truths))
    tells_value (QuantifiedForm all (simple.Scalarset kind count) body) h u e =
        let (fits, same) = only_parts (is_simple_type h.scope.kinds (simple.Scalarset kind count) && is_of simple.Truth (type_of (scope_binding h.scope (simple.Scalarset kind count)) body)) (Some simple.Truth) u e in
        let (fine, truths) = and_parts (is_simple_type h.scope.kinds (simple.Scalarset kind count)) (is_of simple.Truth (type_of (scope_binding h.scope (simple.Scalarset kind count)) body)) fits in
        finite_told h all (simple.Scalarset kind count) body refl (λ w is. tells_value body (here_value h (simple.Scalarset kind count) w is fine) simple.Truth (of_type simple.Truth (type_of (scope_binding h.scope (simple.Scalarset kind count)) body) truths))
    tells_value (x.IsUndefined place) h u e =
        let (fits, same) = only_parts (is_some (simple_part (place_type h.scope place))) (Some simple.Truth) u e in
        let (w, is) = found_simple (place_type h.scope place) fits in
        tells_then h.scene.nodes s h.fr ((placed_of tcalls (at_frame h.fr h.site) h.T place).demands) (place_of calls h.scene h.at h.cells place) (λ p. v.Truth (same_value (cell_at h.cells p) v.Undefined)) _ _
        (tells_place place h (type.Simple w) is)
        (λ p spots. undefined_value h (placed_of tcalls (at_frame h.fr h.site) h.T place).spot p (read_value h (placed_of tcalls (at_frame h.fr h.site) h.T place).spot p spots))

    tells_chain : {n : _} (rest : Row_of-Link n) (h : H) (o : Outcome Value) (before : Valued) (w u : Simple) → IsTyped h.scene.nodes s h.fr w o before → chain_type h.scope (Some w) rest ≡ Some u → Told h (given o (λ y. worked_chain calls h.scene h.at h.cells y rest)) (chain_of tcalls (at_frame h.fr h.site) h.T before rest)
    tells_chain end_of-Link h o before w u told e = tells_then h.scene.nodes s h.fr before.demands o (λ y. y) _ _ told (λ y both. both.0)
    tells_chain (more_of-Link by operand rest) h o before w u told e =
        more_chain h.scope (is_of (operand_type by) (Some w) && is_of (operand_type by) (type_of h.scope operand)) (operand_type by) rest u e
        (λ both more. (let (first, second) = and_parts (is_of (operand_type by) (Some w)) (is_of (operand_type by) (type_of h.scope operand)) both in
        let found : type_of h.scope operand ≡ Some (operand_type by) = of_type (operand_type by) (type_of h.scope operand) second ∙ ap Some (operand_widened by) in
        subst (λ q. Told h q (chain_of tcalls (at_frame h.fr h.site) h.T before (more_of-Link by operand rest))) (given_twice o (λ y. joined h.at by y (result h operand)) (λ y. worked_chain calls h.scene h.at h.cells y rest))
        (tells_chain rest h (given o (λ y. joined h.at by y (result h operand))) (after before.demands (joined_term (length h.fr) by before.term (taken h operand))) (operand_type by) u
        (told_chain h.scene.nodes s h.fr h.at by w o (result h operand) before (taken h operand) first told (tells_value operand h (operand_type by) found) (typed h operand (operand_type by) found)) more)))

    pub tells_place : (place : Designator) (h : H) (U : AnyType) → place_type h.scope place ≡ Some U → Tells h.scene.nodes s h.fr (place_of calls h.scene h.at h.cells place) ((placed_of tcalls (at_frame h.fr h.site) h.T place).demands) (λ p. Spots h.scene.nodes s h.scene.depth h.fr (placed_of tcalls (at_frame h.fr h.site) h.T place).spot p)
    tells_place (d.Of' root _ selectors from) h U e = designator_told h root selectors U e (tells_indices selectors h (root_type h.scope root) U e)

    tells_indices : {n : _} (selectors : Row_of-Selector n) (h : H) (o : Option AnyType) (U : AnyType) → selected_type h.scope o selectors ≡ Some U → Tells h.scene.nodes s h.fr (worked_indices calls h.scene h.at h.cells selectors) ((indices_of tcalls (at_frame h.fr h.site) h.T selectors).demands) (λ xs. Leads h.scene.nodes s h.fr ((indices_of tcalls (at_frame h.fr h.site) h.T selectors).indices) xs)
    tells_indices end_of-Selector h o U e = (tt, tt)
    tells_indices (more_of-Selector (select.Field name) rest) h o U e = tells_indices rest h (field_part o name) U e
    tells_indices (more_of-Selector (select.Index over index) rest) h o U e =
        more_index h.scope (is_of over (type_of h.scope index)) (item_part o over) rest U e
        (λ fits more. (let found : type_of h.scope index ≡ Some (widened over) = of_type over (type_of h.scope index) fits in
        tells_given h.scene.nodes s h.fr (taken h index).demands (demand (index_fits over (taken h index).term) ∷ (indices_of tcalls (at_frame h.fr h.site) h.T rest).demands) (result h index) _ _ _
        (tells_value index h (widened over) found)
        (λ y was is. tells_given h.scene.nodes s h.fr (demand (index_fits over (taken h index).term) ∷ []) ((indices_of tcalls (at_frame h.fr h.site) h.T rest).demands) (fitting (is_value h.scene.nodes over y) h.at y) _ _ _
        (index_told h.scene.nodes s h.fr h.at over (mark_of (at_frame h.fr h.site) index) (taken h index).term y is (typed h index (widened over) found y was))
        (λ z was' index_is. tells_then h.scene.nodes s h.fr ((indices_of tcalls (at_frame h.fr h.site) h.T rest).demands) (worked_indices calls h.scene h.at h.cells rest) (λ zs. z ∷ zs) _ _ (tells_indices rest h (item_part o over) U more) (λ zs leads. (index_is, leads))))))

    pub tells_arguments : (args : Arguments) (h : H) (formals : List DeclaredFormal) → arguments_fit h.scope formals args ≡ true → Tells h.scene.nodes s h.fr (arguments_of calls h.scene h.at h.cells args) ((argued_of tcalls (at_frame h.fr h.site) h.T args).demands) (λ gs. ArgsAre h.scene.nodes s h.scene.depth h.fr formals ((argued_of tcalls (at_frame h.fr h.site) h.T args).given) gs)
    tells_arguments (a.Of' _ args) h formals fits = tells_row args h formals fits

    tells_row : {n : _} (args : Row_of-Argument n) (h : H) (formals : List DeclaredFormal) → row_fits h.scope formals args ≡ true → Tells h.scene.nodes s h.fr (row_arguments calls h.scene h.at h.cells args) ((row_argued tcalls (at_frame h.fr h.site) h.T args).demands) (λ gs. ArgsAre h.scene.nodes s h.scene.depth h.fr formals ((row_argued tcalls (at_frame h.fr h.site) h.T args).given) gs)
    tells_row end_of-Argument h [] fits = (tt, tt)
    tells_row end_of-Argument h (d ∷ ds) fits = absurd_false fits
    tells_row (more_of-Argument first rest) h [] fits =
        let (one, more) = and_parts (argument_fits h.scope None first) (row_fits h.scope [] rest) (sym (row_more h.scope [] first rest) ∙ fits) in
        none_fits h.scope first one
    tells_row (more_of-Argument first rest) h (d ∷ ds) fits =
        let (one, more) = and_parts (argument_fits h.scope (Some d) first) (row_fits h.scope ds rest) (sym (row_more h.scope (d ∷ ds) first rest) ∙ fits) in
        tells_argument first h d ds one (row_argued tcalls (at_frame h.fr h.site) h.T rest) (row_arguments calls h.scene h.at h.cells rest) (tells_row rest h ds more)

    tells_argument : (first : argument.Argument) (h : H) (d : DeclaredFormal) (ds : List DeclaredFormal) → argument_fits h.scope (Some d) first ≡ true → (rest : Argued) (p : Outcome (List Given)) → Tells h.scene.nodes s h.fr p rest.demands (λ gs. ArgsAre h.scene.nodes s h.scene.depth h.fr ds rest.given gs) → Tells h.scene.nodes s h.fr (given (argument_of calls h.scene h.at h.cells first) (λ g. given p (λ gs. Got (g ∷ gs)))) ((one_argued tcalls (at_frame h.fr h.site) h.T first rest).demands) (λ gs. ArgsAre h.scene.nodes s h.scene.depth h.fr (d ∷ ds) ((one_argued tcalls (at_frame h.fr h.site) h.T first rest).given) gs)
    tells_argument (argument.Copy place) h d ds fits rest p told =
        let (u, found) = value_typed (Some d) (option_map widened (simple_part (place_type h.scope place))) fits in
        let (w, is, wide) = widened_found (place_type h.scope place) u found in
        one_told h d ds (Filling (place_mark (at_frame h.fr h.site) place) true (only_term (length h.fr) (read_of (length h.fr) h.T (placed_of tcalls (at_frame h.fr h.site) h.T place).spot))) ((placed_of tcalls (at_frame h.fr h.site) h.T place).demands) rest (argument_of calls h.scene h.at h.cells (argument.Copy place)) p
        (tells_then h.scene.nodes s h.fr ((placed_of tcalls (at_frame h.fr h.site) h.T place).demands) (place_of calls h.scene h.at h.cells place) (λ q. Filled (only (cell_at h.cells q))) (λ q. Spots h.scene.nodes s h.scene.depth h.fr (placed_of tcalls (at_frame h.fr h.site) h.T place).spot q × (place_of calls h.scene h.at h.cells place ≡ Got q)) _
        (tells_got h.scene.nodes s h.fr ((placed_of tcalls (at_frame h.fr h.site) h.T place).demands) (place_of calls h.scene h.at h.cells place) _ _ (tells_place place h (type.Simple w) is) (λ q was spots. (spots, was)))
        (λ q both. (
          only_shows h.scene.nodes s h.fr (read_of (length h.fr) h.T (placed_of tcalls (at_frame h.fr h.site) h.T place).spot) (cell_at h.cells q) (read_value h (placed_of tcalls (at_frame h.fr h.site) h.T place).spot q both.0),
          λ f into found_f simple_f. cell_storable h place q into both.1 (given_into (Some d) (option_map widened (simple_part (place_type h.scope place))) f into fits found_f simple_f),
        ))) told
    tells_argument (argument.CopyAll place) h d ds fits rest p told =
        let (U, is) = compound_typed (Some d) (place_type h.scope place) fits in
        one_told h d ds (Filling None true (shown_at (length h.fr) h.T (placed_of tcalls (at_frame h.fr h.site) h.T place).spot)) ((placed_of tcalls (at_frame h.fr h.site) h.T place).demands) rest (argument_of calls h.scene h.at h.cells (argument.CopyAll place)) p
        (tells_then h.scene.nodes s h.fr ((placed_of tcalls (at_frame h.fr h.site) h.T place).demands) (place_of calls h.scene h.at h.cells place) (λ q. Filled (contents_at h.cells q)) _ _ (tells_place place h U is)
        (λ q spots. (place_shows h.scene.nodes s binds h.scene.depth h.fr h.T h.cells (placed_of tcalls (at_frame h.fr h.site) h.T place).spot q h.rep spots, λ f into found_f simple_f. given_no_simple (Some d) (place_type h.scope place) f into fits found_f simple_f))) told
    tells_argument (argument.Value body) h d ds fits rest p told =
        let (u, found) = value_typed (Some d) (type_of h.scope body) fits in
        one_told h d ds (Filling (mark_of (at_frame h.fr h.site) body) false (only_term (length h.fr) (taken h body).term)) (taken h body).demands rest (argument_of calls h.scene h.at h.cells (argument.Value body)) p
        (tells_then h.scene.nodes s h.fr (taken h body).demands (result h body) (λ y. Filled (only y)) (λ y. (value_of h.scene.nodes s h.fr (taken h body).term ≡ y) × (result h body ≡ Got y)) _
        (tells_got h.scene.nodes s h.fr (taken h body).demands (result h body) _ _ (tells_value body h u found) (λ y was is. (is, was)))
        (λ y both. (only_shows h.scene.nodes s h.fr (taken h body).term y both.0, λ f into found_f simple_f. inl (typed h body (widened into) (given_into (Some d) (type_of h.scope body) f into fits found_f simple_f) y both.1)))) told
    tells_argument (argument.Place place) h d ds fits rest p told =
        let (writable, one) = and_parts (may_write h.scope (root_of place)) (given_place (Some d) (place_type h.scope place)) fits in
        let (U, is) = place_typed (Some d) (place_type h.scope place) one in
        one_told h d ds (Placing (placed_of tcalls (at_frame h.fr h.site) h.T place).spot) ((placed_of tcalls (at_frame h.fr h.site) h.T place).demands) rest (argument_of calls h.scene h.at h.cells (argument.Place place)) p
        (tells_then h.scene.nodes s h.fr ((placed_of tcalls (at_frame h.fr h.site) h.T place).demands) (place_of calls h.scene h.at h.cells place) Standing _ _ (tells_place place h U is) (λ q spots. spots)) told

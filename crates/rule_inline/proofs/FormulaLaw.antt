-- The pieces of a formula are all true exactly where the formula holds, where loops over nodes are given.
use Rattle.std.proofs.Common.{◌≡◌, ℕ, zero, suc, ◌+◌, true, ◌&&◌, List, [], ◌∷◌, ◌++◌, length, map, reverse, inl, inr, refl, sym, ap, ◌∙◌, subst, arith}
use Rattle.std.specs.Prelude.{◌↔◌}
use Rattle.std.specs.List.{All, list_all}
use Rattle.std.proofs.lemmas.Bool.{and_parts}
use Rattle.std.proofs.lemmas.List.{length-append}
use Rattle.std.proofs.lemmas.List.Elements.{All-nil, All-cons, All-head, All-tail}
use Rattle.term_core.specs.declared.value.Value.{Value}
use Rattle.term_core.specs.Nodes.{is_node}
use Rattle.term_core.specs.Values.{truth}
use Rattle.term_core.specs.Meaning.{Cells, value_of}
use Rattle.term_core.specs.Cells.{cell_value}
use Rattle.term_core.specs.Firing.{IsTrueForAll, AllPiecesHold}
use Rattle.term_core.specs.Laws.{PlacingBinds}
use Rattle.murphi_typed.specs.declared.types.Kind.{Kind}
use Rattle.murphi_typed.specs.declared.types.Simple.TheVariants as simple
use Rattle.murphi_typed.specs.declared.protocol.Routine.{Routine}
use Rattle.murphi_typed.specs.declared.protocol.TypedFormula.{TypedFormula}
use Rattle.murphi_typed.specs.declared.protocol.Typed.{Typed}
use Rattle.murphi_typed.specs.declared.stmt.Stmt.{Row_of-Stmt}
use Rattle.murphi_typed.specs.Outcome.{Outcome, Got, Fault}
use Rattle.murphi_typed.specs.Expressions.{value_of as worked}
use Rattle.murphi_typed.specs.Steps.{State, cells_of, are_parameters, outermost, calls_in as store_calls, no_place, is_true as is_got_true, Holds}
use Rattle.murphi_typed.specs.WellTyped.{is_well_typed, with_kinds, formula_fits, are_variables, are_parameter_types, top_scope, is_of, type_of, routines_fit, start_fits, rule_fits}
use Rattle.murphi_typed.specs.Keeping.{Declared, IsState, IsTypedBody, top_types}
use Rattle.murphi_typed.specs.Laws.{ValuesFitInBodies, BodiesKeepTypes, FunctionsGiveResults, CalledBodiesAreTyped, TopBodiesAreTyped}
use Rattle.rule_inline.specs.Demands.{Demand, piece_of}
use Rattle.rule_inline.specs.Tables.{Key, holes}
use Rattle.rule_inline.specs.Parts.{Valued, Site, valued_of}
use Rattle.rule_inline.specs.Bodies.{calls_in}
use Rattle.rule_inline.specs.Presents.{at_nodes, nodes_in, state_over}
use Rattle.rule_inline.specs.Machine.{fixed, instances, more_binders, pieces_with, pieces_at, top_site, top_terms, first_terms, families_of, calls_of, formula_pieces, trans}
use Rattle.rule_inline.proofs.ValueLemmas.{absurd_false}
use Rattle.rule_inline.proofs.TermLemmas.{and_of}
use Rattle.rule_inline.proofs.Outcome.{AllHold, SomeFails}
use Rattle.rule_inline.proofs.PlaceLemmas.{Rep, nodes_joined}
use Rattle.rule_inline.proofs.TypeLemmas.{of_type}
use Rattle.rule_inline.proofs.PartLemmas.{Here, FunctionTells, IsTold}
use Rattle.rule_inline.proofs.ExpressionLaw.{tells_value}
use Rattle.rule_inline.proofs.SceneLemmas.{at_frame}
use Rattle.rule_inline.proofs.StatementLaw.{LoopsTell}
use Rattle.rule_inline.proofs.CallLaw.{fine_in, FunctionsFine, function_fine, calls_told}
use Rattle.rule_inline.proofs.FirstTerms.{FilledValues, Each, each_weaker, each_map, each_under, each_flat, each_flat_parts, state_rep}
use Rattle.rule_inline.proofs.ParameterLemmas.{at_instance, instances_fit, Fits, choice_is, parameters_bound}

-- Lists

pub all_each : {X : Type 0} (P : X → Type 0) (xs : List X) → All P xs → Each P xs
all_each P [] a = tt
all_each P (x ∷ xs) a = (All-head P x xs a, all_each P xs (All-tail P x xs a))

pub each_all : {X : Type 0} (P : X → Type 0) (xs : List X) → Each P xs → All P xs
each_all P [] e = All-nil P
each_all P (x ∷ xs) (p, e) = All-cons P x xs p (each_all P xs e)

each_both : {X : Type 0} (P Q R : X → Type 0) → ((x : X) → P x → Q x → R x) → (xs : List X) → Each P xs → Each Q xs → Each R xs
each_both P Q R f [] a b = tt
each_both P Q R f (x ∷ xs) (p, a) (q, b) = (f x p q, each_both P Q R f xs a b)

-- a list as its first part and the rest
split_at : (a b : ℕ) (xs : List ℕ) → length xs ≡ a + b → (ys : List ℕ) × (zs : List ℕ) × (xs ≡ ys ++ zs) × (length ys ≡ a) × (length zs ≡ b)
split_at zero b xs long = ([], xs, refl, refl, long ∙ omega arith)
split_at (suc a) b [] long = absurd (omega (arith, long))
split_at (suc a) b (x ∷ xs) long =
    let (ys, zs, is, first, rest) = split_at a b xs (omega (arith, long)) in
    (x ∷ ys, zs, ap (λ q. x ∷ q) is, ap suc first, rest)

nodes_first : (N : ℕ) (xs ys : List ℕ) → list_all (is_node N) (xs ++ ys) ≡ true → (list_all (is_node N) xs ≡ true) × (list_all (is_node N) ys ≡ true)
nodes_first N [] ys e = (refl, e)
nodes_first N (x ∷ xs) ys e =
    let (one, rest) = and_parts (is_node N x) (list_all (is_node N) (xs ++ ys)) e in
    let (a, b) = nodes_first N xs ys rest in
    (and_of one a, b)

-- Pieces

module _ (N : ℕ) (c : Cells) where
  -- demands do not hold and fail
  pub not_both : (fr : List ℕ) (qs : List Demand) → AllHold N c fr qs → SomeFails N c fr qs → ⊥
  not_both fr [] a bad = bad
  not_both fr (q ∷ qs) (h, a) (inl (bound, count, nodes, fails)) = absurd_false (sym fails ∙ h bound count nodes)
  not_both fr (q ∷ qs) (h, a) (inr bad) = not_both fr qs a bad

  -- what the pieces of one instance say, for all nodes as the parameters
  abbrev pub Says : ℕ → Valued → Type 0
  Says count e = (ns : List ℕ) → length ns ≡ count → list_all (is_node N) ns ≡ true → (truth (value_of N c ns e.term) ≡ true) × AllHold N c ns e.demands

  demands_from : (count : ℕ) (ns : List ℕ) → length ns ≡ count → list_all (is_node N) ns ≡ true → (qs : List Demand) → Each (λ q. IsTrueForAll N c [] (more_binders count (piece_of q))) qs → AllHold N c ns qs
  demands_from count ns long nodes [] e = tt
  demands_from count ns long nodes (q ∷ qs) (p, e) =
      (λ bound many are. p (ns ++ bound) (length-append ns bound ∙ omega (arith, long, many)) (nodes_joined N c ns bound nodes are), demands_from count ns long nodes qs e)

  says : (count : ℕ) (e : Valued) → Each (IsTrueForAll N c []) (pieces_with count e) → Says count e
  says count e (own, rest) ns long nodes = (
    own ns (long ∙ omega arith) nodes,
    demands_from count ns long nodes e.demands (each_under (λ q. IsTrueForAll N c [] (more_binders count q)) piece_of e.demands (each_under (IsTrueForAll N c []) (more_binders count) (map piece_of e.demands) rest)),
  )

  demands_to : (count : ℕ) (qs : List Demand) → ((ns : List ℕ) → length ns ≡ count → list_all (is_node N) ns ≡ true → AllHold N c ns qs) → Each (λ q. IsTrueForAll N c [] (more_binders count (piece_of q))) qs
  demands_to count [] all = tt
  demands_to count (q ∷ qs) all = (
    (λ bound long nodes.
        let (ns, more, is, first, rest) = split_at count q.binders bound long in
        let (a, b) = nodes_first N ns more (ap (list_all (is_node N)) (sym is) ∙ nodes) in
        ap (λ fr. truth (value_of N c fr (piece_of q).body)) is ∙ (all ns first a).0 more rest b),
    demands_to count qs (λ ns long nodes. (all ns long nodes).1),
  )

  said : (count : ℕ) (e : Valued) → Says count e → Each (IsTrueForAll N c []) (pieces_with count e)
  said count e all = (
    (λ bound long nodes. (all bound (long ∙ omega arith) nodes).0),
    each_map (IsTrueForAll N c []) (more_binders count) (map piece_of e.demands) (each_map (λ q. IsTrueForAll N c [] (more_binders count q)) piece_of e.demands (demands_to count e.demands (λ ns long nodes. (all ns long nodes).1))),
  )

-- Formulas

module _ (binds : PlacingBinds) (fit : ValuesFitInBodies) (keep : BodiesKeepTypes) (results : FunctionsGiveResults) (enter : CalledBodiesAreTyped) (top : TopBodiesAreTyped) (tables : FilledValues)
    (N : ℕ) (T : Typed) (more : List Kind) (s : State) (well : is_well_typed (with_kinds T more) ≡ true) (state : IsState N T s)
    (Q : List Routine → (n : _) → Site → Row_of-Stmt n → Type 0)
    (loop_tells : (latest : List Routine) (types : Declared) → LoopsTell binds fit keep results (cell_value N (trans T).families (state_over N T (trans T).families s)) (with_kinds T more) latest types (calls_in latest) (fine_in Q latest) (Q latest))
    (fine : FunctionsFine Q (reverse T.routines)) where
  abbrev cells : Cells
  cells = cell_value N (trans T).families (state_over N T (trans T).families s)

  abbrev P : Typed
  P = with_kinds T more

  abbrev latest : List Routine
  latest = reverse T.routines

  globals : are_variables P.kinds P.globals ≡ true
  globals = (and_parts (are_variables P.kinds P.globals) (routines_fit P [] P.routines && (list_all (start_fits P) P.starts && (list_all (rule_fits P) P.rules && list_all (formula_fits P) P.invariants))) well).0

  state' : IsState N P s
  state' = record { count = state.count; values = state.values }

  functions' : (types : Declared) (h : Here cells P latest types) → FunctionTells cells P latest types (calls_in latest) h
  functions' types h k r u args gs gifts found is fits was are =
      (calls_told binds fit keep results enter cells P globals Q loop_tells latest h.typed.known fine latest types h k r args gs gifts found fits was are (function_fine Q latest fine k r u found is (at_frame h.fr h.site) gifts)).1 u is

  module _ (f : TypedFormula) (fits : formula_fits P f ≡ true) where
    here : (key : Key) (ns : List ℕ) → length ns ≡ holes key → are_parameters N f.params (at_nodes key ns) ≡ true → Here cells P latest (top_types P [])
    here key ns long are =
        let typed : IsTypedBody P latest (top_types P []) (top_scope P [] f.params) (outermost N (at_nodes key ns)) (cells_of N T s) = top N P [] f.params (at_nodes key ns) s well refl (and_parts (are_parameter_types P.kinds f.params) (is_of simple.Truth (type_of (top_scope P [] f.params) f.body)) fits).0 are state' in
        record {
          scope = top_scope P [] f.params;
          scene = outermost N (at_nodes key ns);
          fr = ns;
          site = top_site key;
          T = top_terms T key;
          cells = cells_of N T s;
          at = no_place;
          typed = typed;
          sound = record {
            fits = typed.fits;
            fine = typed.fine;
            bound = typed.bound;
            lengths = typed.lengths;
            results = results P latest (top_types P []) (top_scope P [] f.params) (outermost N (at_nodes key ns)) (cells_of N T s) typed;
            kept = typed.kept;
            known = typed.routines;
          };
          sited = record { depth = refl; bound = parameters_bound N cells key [] ns long; formals = tt };
          rep = subst (λ n. Rep N cells 0 ns (first_terms (families_of T) n) (cells_of N T s)) long (state_rep tables N T s 0 ns);
        }

    abbrev valued : Key → Valued
    valued key = valued_of (calls_of T) (top_site key) (top_terms T key) f.body

    abbrev outcome : List Value → Outcome Value
    outcome p = worked (store_calls T) (outermost N p) no_place (cells_of N T s) f.body

    told : (key : Key) (ns : List ℕ) → length ns ≡ holes key → are_parameters N f.params (at_nodes key ns) ≡ true → IsTold N cells ns (outcome (at_nodes key ns)) (valued key)
    unfolding here
    told key ns long are =
        subst (λ site. IsTold N cells ns (outcome (at_nodes key ns)) (valued_of (calls_of T) site (top_terms T key) f.body)) (ap (λ n. record (top_site key) { frame = n }) long)
        (tells_value binds fit cells P latest (top_types P []) (calls_in latest) (functions' (top_types P [])) f.body (here key ns long are) simple.Truth (of_type simple.Truth (type_of (top_scope P [] f.params) f.body) (and_parts (are_parameter_types P.kinds f.params) (is_of simple.Truth (type_of (top_scope P [] f.params) f.body)) fits).1))

    from_pieces : (key : Key) (ns : List ℕ) → length ns ≡ holes key → list_all (is_node N) ns ≡ true → are_parameters N f.params (at_nodes key ns) ≡ true → Says N cells (holes key) (valued key) → is_got_true (outcome (at_nodes key ns)) ≡ true
    from_pieces key ns long nodes are all = go (outcome (at_nodes key ns)) (told key ns long are)
      where
        go : (o : Outcome Value) → IsTold N cells ns o (valued key) → is_got_true o ≡ true
        go (Fault at) bad = absurd (not_both N cells ns (valued key).demands (all ns long nodes).1 bad)
        go (Got w) (good, is) = ap truth (sym is) ∙ (all ns long nodes).0

    to_pieces : (key : Key) → Fits N f.params key → Holds N T s f → Says N cells (holes key) (valued key)
    to_pieces key fitting holds ns long nodes = go (outcome (at_nodes key ns)) (told key ns long (fitting ns long nodes)) (holds (at_nodes key ns) (fitting ns long nodes))
      where
        go : (o : Outcome Value) → IsTold N cells ns o (valued key) → is_got_true o ≡ true → (truth (value_of N cells ns (valued key).term) ≡ true) × AllHold N cells ns (valued key).demands
        go (Fault at) bad e = absurd_false e
        go (Got w) (good, is) e = (ap truth is ∙ e, good)

    pub pieces_say : AllPiecesHold N cells (formula_pieces T f) [] ↔ Holds N T s f
    pieces_say = (to, from)
      where
        to : AllPiecesHold N cells (formula_pieces T f) [] → Holds N T s f
        to all p are =
            let (same, long, nodes) = choice_is N f.params p are in
            let each : Each (λ key. Each (IsTrueForAll N cells []) (pieces_at T f key)) (instances f.params) = each_flat_parts (IsTrueForAll N cells []) (pieces_at T f) (instances f.params) (all_each (IsTrueForAll N cells []) (formula_pieces T f) all) in
            subst (λ q. is_got_true (outcome q) ≡ true) same
            (from_pieces (map fixed p) (nodes_in p) long nodes (ap (are_parameters N f.params) same ∙ are)
            (says N cells (holes (map fixed p)) (valued (map fixed p)) (at_instance N f.params p are (λ key. Each (IsTrueForAll N cells []) (pieces_at T f key)) each)))

        from : Holds N T s f → AllPiecesHold N cells (formula_pieces T f) []
        from holds =
            each_all (IsTrueForAll N cells []) (formula_pieces T f)
            (each_flat (IsTrueForAll N cells []) (pieces_at T f) (instances f.params)
            (each_weaker (Fits N f.params) (λ key. Each (IsTrueForAll N cells []) (pieces_at T f key)) (λ key fitting. said N cells (holes key) (valued key) (to_pieces key fitting holds)) (instances f.params) (instances_fit N f.params)))

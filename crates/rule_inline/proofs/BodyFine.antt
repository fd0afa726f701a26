-- Well-typed statements and routines have fine terms and demands.
use Rattle.std.proofs.Common.{◌≡◌, ℕ, zero, suc, ◌+◌, Bool, true, false, not, ◌&&◌, List, [], ◌∷◌, ◌++◌, length, reverse, Option, None, Some, refl, subst, arith}
use Rattle.std.specs.Prelude.{nat_eq, slice_get, is_some, if◌then◌else◌}
use Rattle.std.specs.List.{list_all}
use Rattle.std.specs.Option.{option_map_or}
use Rattle.std.proofs.lemmas.Bool.{and_parts}
use Rattle.term_core.specs.declared.value.Value.{Value}
use Rattle.term_core.specs.declared.value.Value.TheVariants as v
use Rattle.term_core.specs.declared.machine.CellFamily.{CellFamily}
use Rattle.term_core.specs.declared.term.Term as t
use Rattle.term_core.specs.declared.term.Term.{Term}
use Rattle.term_core.specs.Variables.{is_no_node}
use Rattle.murphi_ast.specs.declared.expr.CompareOp.TheVariants as compare
use Rattle.murphi_typed.specs.declared.types.Simple.{Simple}
use Rattle.murphi_typed.specs.declared.types.Simple.TheVariants as simple
use Rattle.murphi_typed.specs.declared.types.AnyType.{AnyType}
use Rattle.murphi_typed.specs.declared.expr.Expr.{Expr}
use Rattle.murphi_typed.specs.declared.expr.Arguments.{Arguments}
use Rattle.murphi_typed.specs.declared.stmt.Stmt as st
use Rattle.murphi_typed.specs.declared.stmt.Stmt.{Stmt, Row_of-Stmt, end_of-Stmt, more_of-Stmt, Row_of-Arm, end_of-Arm, more_of-Arm, Row_of-Case, end_of-Case, more_of-Case}
use Rattle.murphi_typed.specs.declared.protocol.Formal.{Formal as DeclaredFormal}
use Rattle.murphi_typed.specs.declared.protocol.Routine.{Routine}
use Rattle.murphi_typed.specs.declared.protocol.Typed.{Typed}
use Rattle.murphi_typed.specs.Values.{cleared_value}
use Rattle.murphi_typed.specs.Families.{leaf_at}
use Rattle.murphi_typed.specs.Store.{Global, Local, Formal}
use Rattle.murphi_typed.specs.Execution.{simple_type}
use Rattle.murphi_typed.specs.WellTyped.{Scope as Typing, Exit, AtEnd, ByReturn, WithValue, binding as typing_inside, comparable, same_type, is_type, is_simple_type, is_of, is_cell_of, holds_values_of, are_alike, may_write, root_of, is_function, returns, arguments_fit, type_of, place_type, labels_fit, stmt_fits, body_fits, arms_fit, cases_fit, routine_scope}
use Rattle.murphi_typed.specs.Keeping.{LatestFit}
use Rattle.rule_inline.specs.Demands.{Demand, under_test}
use Rattle.rule_inline.specs.Tables.{holes, Slot, Family, Leaving, Result, Terms, under_variable, axes}
use Rattle.rule_inline.specs.Parts.{Given as Gift, Filled, Standing, Site, with_value, with_variable, Valued, Calls as TermCalls, Done, fixed_values, undefined, valued_of, placed_of, argued_of}
use Rattle.rule_inline.specs.Bodies.{reached, cleared, all_undefined, left_body, left_with, result_stored, Branching, Labels, labels_of, one_of_labels, among, turns, taken, given_terms, entered, formal_fits, formals_fit, back, back_first, came_back, called, called_site, done_by, all_done, arms_done, cases_done, calls_in}
use Rattle.rule_inline.proofs.ValueLemmas.{absurd_false}
use Rattle.rule_inline.proofs.TypeLemmas.{not_some, some_one, fixed_no_nodes}
use Rattle.rule_inline.proofs.FunctionLoops.{body_fits_in}
use Rattle.rule_inline.proofs.FirstWrites.{cell_some, alike_some, type_some, procedure_there}
use Rattle.rule_inline.proofs.FineLemmas.{Fine, AllFine, fine_more, fine-Known, fine-Not, fine-Or, fine-Same}
use Rattle.rule_inline.proofs.PlaceFine.{DemandsFine, demands_joined, one_demand, under_fine, unless_fine, binding_fine, truth_fine, NoNodeIn, TermsFine, ShownFine, terms_under, shown_fine, read_of_fine, only_fine, FirstFits, ChangeFine, unchanged_fine, then_fine, left_fine, written_fine, BranchesFine, chosen_fine, returned_fine, loop_fine}
use Rattle.rule_inline.proofs.PartFine.{some_of, compared_some, ValuedFine, DoneFine, GiftFine, GiftsFine, gifts_stand, SiteFine, site_value, site_node, stored_fine, CallsFine, value_fine, place_fine, arguments_fine}

values_some : (into : Simple) (o : Option AnyType) → holds_values_of into o ≡ true → is_some o ≡ true
values_some into None e = absurd_false e
values_some into (Some U) e = refl

alike_other : (o p : Option AnyType) → are_alike o p ≡ true → is_some p ≡ true
alike_other None p e = absurd_false e
alike_other (Some U) None e = absurd_false e
alike_other (Some U) (Some V) e = refl

cleared_no_node : (u : Simple) → is_no_node (cleared_value u) ≡ true
cleared_no_node simple.Truth = refl
cleared_no_node (simple.Range low high) = refl
cleared_no_node (simple.Listed kind count) = refl
cleared_no_node (simple.Scalarset kind count) = refl
cleared_no_node simple.Node = refl

returned_some : (exit : Exit) (o : Option Simple) → returns exit o ≡ true → is_some o ≡ true
returned_some AtEnd o e = absurd_false e
returned_some ByReturn o e = absurd_false e
returned_some (WithValue u) o e = some_of u o e

module _ (families : List CellFamily) where
  leaving_fine : (n : ℕ) (T : Terms) → TermsFine families n T → Fine families n (T Leaving)
  leaving_fine n T f = fine_more families (n + 0) n (T Leaving) (omega arith) (f Leaving tt)

  reached_fine : (site : Site) (T : Terms) (qs : List Demand) → TermsFine families site.frame T → DemandsFine families site.frame qs → DemandsFine families site.frame (reached site T qs)
  reached_fine site T qs f ds = unless_fine families site.frame (T Leaving) qs (leaving_fine site.frame T f) ds

  cleared_fine : (n : ℕ) (of : AnyType) → ShownFine families n (cleared of)
  cleared_fine n of path key none = go (leaf_at of path)
    where
      go : (o : Option Simple) → Fine families (n + holes key) (option_map_or (λ leaf. t.Known (cleared_value leaf)) o undefined)
      go None = fine-Known families (n + holes key) v.Undefined refl
      go (Some u) = fine-Known families (n + holes key) (cleared_value u) (cleared_no_node u)

  undefined_shown : (n : ℕ) → ShownFine families n all_undefined
  undefined_shown n path key none = fine-Known families (n + holes key) v.Undefined refl

  left_term : (n : ℕ) (slot : Slot) (e : Term) → NoNodeIn families slot → left_body slot ≡ Some e → Fine families (n + axes slot) e
  left_term n (Family owner path key) e none was = not_some was
  left_term n Leaving e none was = subst (Fine families (n + 0)) (some_one was) (truth_fine families (n + 0) true)
  left_term n Result e none was = not_some was

  result_term : (n : ℕ) (result : Term) → Fine families n result → (slot : Slot) (e : Term) → NoNodeIn families slot → left_with result slot ≡ Some e → Fine families (n + axes slot) e
  result_term n result f (Family owner path key) e none was = not_some was
  result_term n result f Leaving e none was = subst (Fine families (n + 0)) (some_one was) (truth_fine families (n + 0) true)
  result_term n result f Result e none was = subst (Fine families (n + 0)) (some_one was) (fine_more families n (n + 0) result (omega arith) f)

  result_demands : (n : ℕ) (o : Option Simple) (e : Term) → Fine families n e → DemandsFine families n (result_stored o e)
  result_demands n None e f = tt
  result_demands n (Some into) e f = stored_fine families n false into e f

  abbrev pub BranchingFine : ℕ → Branching → Type 0
  BranchingFine n br = BranchesFine families n br.branches × (ChangeFine families n br.otherwise × DemandsFine families n br.demands)

  one_branch_fine : (site : Site) (T : Terms) (test : Valued) (body : Done) (rest : Branching) → TermsFine families site.frame T → ValuedFine families site.frame test → DoneFine families site.frame body → BranchingFine site.frame rest
      → DemandsFine families site.frame (reached site T test.demands ++ (under_test site.frame test.term body.demands ++ under_test site.frame (t.Not test.term) rest.demands))
  one_branch_fine site T test body rest f g b r =
      demands_joined families site.frame (reached site T test.demands) _ (reached_fine site T test.demands f g.1)
      (demands_joined families site.frame (under_test site.frame test.term body.demands) _ (under_fine families site.frame test.term body.demands g.0 b.1) (under_fine families site.frame (t.Not test.term) rest.demands (fine-Not families site.frame test.term g.0) r.1.1))

  -- labels
  abbrev LabelsFine : ℕ → Labels → Type 0
  LabelsFine n labels = AllFine families n labels.tests × DemandsFine families n labels.demands

  one_of_fine : (n : ℕ) (tests : List Term) → AllFine families n tests → Fine families n (one_of_labels tests)
  one_of_fine n [] a = fine-Or families n [] tt
  one_of_fine n (test ∷ []) a = a.0
  one_of_fine n (test ∷ other ∷ rest) a = fine-Or families n (test ∷ other ∷ rest) a

  labels_fine : (site : Site) (worked : Expr → Valued) (on : Term) (labels : List Expr) (ts : Typing) (u : Option Simple) → Fine families site.frame on → ((e : Expr) → is_some (type_of ts e) ≡ true → ValuedFine families site.frame (worked e)) → labels_fit ts u labels ≡ true → LabelsFine site.frame (labels_of worked site on labels)
  labels_fine site worked on [] ts u f each fits = (tt, tt)
  labels_fine site worked on (label ∷ labels) ts u f each fits =
      let (one, rest) = and_parts (comparable compare.Equal u (type_of ts label)) (labels_fit ts u labels) fits in
      let g = each label (compared_some compare.Equal u (type_of ts label) one).1 in
      let same = fine-Same families site.frame on (worked label).term f g.0 in
      let more = labels_fine site worked on labels ts u f each rest in
      ((same, more.0), demands_joined families site.frame (worked label).demands _ g.1 (under_fine families site.frame _ _ (fine-Not families site.frame _ same) more.1))

  turns_fine : (n : ℕ) (body : Value → Terms → Done) (ws : List Value) → list_all is_no_node ws ≡ true → ((w : Value) (T : Terms) → is_no_node w ≡ true → TermsFine families n T → DoneFine families n (body w T)) → (T : Terms) → TermsFine families n T → DoneFine families n (turns body ws T)
  turns_fine n body [] nn each T f = (unchanged_fine families n T f, tt)
  turns_fine n body (w ∷ ws) nn each T f =
      let (one, rest) = and_parts (is_no_node w) (list_all is_no_node ws) nn in
      let a = each w T one f in
      let b = turns_fine n body ws rest each ((body w T).change.now) a.0.0 in
      (then_fine families n (body w T).change _ a.0 b.0, demands_joined families n (body w T).demands _ a.1 b.1)

  module _ (tcalls : TermCalls) (calls_fine : CallsFine families tcalls) where
    call_fine : (ts : Typing) (site : Site) (T : Terms) (k : ℕ) (args : Arguments) → SiteFine families site → TermsFine families site.frame T → (formals : List DeclaredFormal) → arguments_fit ts formals args ≡ true
        → TermsFine families site.frame T × (GiftsFine families site.frame (argued_of tcalls site T args).given × (DemandsFine families site.frame (argued_of tcalls site T args).demands × DoneFine families site.frame (tcalls k site T (argued_of tcalls site T args).given)))
    call_fine ts site T k args s f formals fits =
        let g = arguments_fine families tcalls calls_fine args formals ts site T s f fits in
        (f, (g.0, (g.1, calls_fine k site T (argued_of tcalls site T args).given f g.0)))

    back_fine : (site : Site) (T : Terms) (k : ℕ) (gs : List Gift) (ds : List Demand) → TermsFine families site.frame T × (GiftsFine families site.frame gs × (DemandsFine families site.frame ds × DoneFine families site.frame (tcalls k site T gs)))
        → DoneFine families site.frame (came_back site T (record { given = gs; demands = ds }) (tcalls k site T gs))
    back_fine site T k gs ds (f, (g, (d, body))) = ((now, first), reached_fine site T (ds ++ (tcalls k site T gs).demands) f (demands_joined families site.frame ds (tcalls k site T gs).demands d body.1))
      where
        now : TermsFine families site.frame (back T (tcalls k site T gs).change)
        now (Family owner path key) none = body.0.0 (Family owner path key) none
        now Leaving none = f Leaving tt
        now Result none = f Result tt

        first : FirstFits families (record { now = back T (tcalls k site T gs).change; first = back_first (tcalls k site T gs).change })
        first (Family owner path key) ms e = body.0.1 (Family owner path key) ms e
        first Leaving ms e = not_some e
        first Result ms e = not_some e

    mutual
      unfolding done_by stmt_fits

      pub stmt_fine : (stmt : Stmt) (ts : Typing) (site : Site) (T : Terms) → SiteFine families site → TermsFine families site.frame T → stmt_fits ts stmt ≡ true → DoneFine families site.frame (done_by tcalls site T stmt)
      stmt_fine (st.Block' _ body) ts site T s f fits = row_fine body ts site T s f fits
      stmt_fine (st.Assign to into body) ts site T s f fits =
          let (may, rest) = and_parts (may_write ts (root_of to)) (is_cell_of into (place_type ts to) && is_of into (type_of ts body)) fits in
          let (cell, value) = and_parts (is_cell_of into (place_type ts to)) (is_of into (type_of ts body)) rest in
          let p = place_fine families tcalls calls_fine to ts site T s f (cell_some into (place_type ts to) cell) in
          let g = value_fine families tcalls calls_fine body ts site T s f (some_of into (type_of ts body) value) in (
            written_fine families site.frame T f (placed_of tcalls site T to).spot p.0 _ (only_fine families site.frame _ g.0),
            reached_fine site T _ f (demands_joined families site.frame (placed_of tcalls site T to).demands _ p.1 (demands_joined families site.frame (valued_of tcalls site T body).demands _ g.1 (stored_fine families site.frame false into _ g.0))),
          )
      stmt_fine (st.Copy to into from) ts site T s f fits =
          let (may, rest) = and_parts (may_write ts (root_of to)) (is_cell_of into (place_type ts to) && holds_values_of into (place_type ts from)) fits in
          let (cell, value) = and_parts (is_cell_of into (place_type ts to)) (holds_values_of into (place_type ts from)) rest in
          let p = place_fine families tcalls calls_fine to ts site T s f (cell_some into (place_type ts to) cell) in
          let q = place_fine families tcalls calls_fine from ts site T s f (values_some into (place_type ts from) value) in
          let r = read_of_fine families site.frame T (placed_of tcalls site T from).spot f q.0 in (
            written_fine families site.frame T f (placed_of tcalls site T to).spot p.0 _ (only_fine families site.frame _ r),
            reached_fine site T _ f (demands_joined families site.frame (placed_of tcalls site T to).demands _ p.1 (demands_joined families site.frame (placed_of tcalls site T from).demands _ q.1 (stored_fine families site.frame true into _ r))),
          )
      stmt_fine (st.CopyAll to from) ts site T s f fits =
          let (may, alike) = and_parts (may_write ts (root_of to)) (are_alike (place_type ts to) (place_type ts from)) fits in
          let p = place_fine families tcalls calls_fine to ts site T s f (alike_some (place_type ts to) (place_type ts from) alike) in
          let q = place_fine families tcalls calls_fine from ts site T s f (alike_other (place_type ts to) (place_type ts from) alike) in (
            written_fine families site.frame T f (placed_of tcalls site T to).spot p.0 _ (shown_fine families site.frame T (placed_of tcalls site T from).spot f q.0),
            reached_fine site T _ f (demands_joined families site.frame (placed_of tcalls site T to).demands _ p.1 q.1),
          )
      stmt_fine (st.Call k args at) ts site T s f fits =
          let (r, (found, fit)) = procedure_there ts k args (and_parts (not (is_function ts.exit)) (option_map_or (λ r. not (is_some r.result) && arguments_fit ts r.formals args) (slice_get ts.routines k) false) fits).1 in
          back_fine site T k ((argued_of tcalls site T args).given) (argued_of tcalls site T args).demands (call_fine ts site T k args s f r.formals fit)
      stmt_fine (st.If' _ arms _ otherwise at) ts site T s f fits =
          let (a, o) = and_parts (arms_fit ts arms) (body_fits ts otherwise) fits in
          let br = arms_fine arms ts site T (all_done tcalls site T otherwise) s f a (row_fine otherwise ts site T s f o) in
          (chosen_fine families site.frame T _ _ f br.0 br.1.0, br.1.1)
      stmt_fine (st.Switch' on _ cases _ otherwise at) ts site T s f fits =
          let (one, rest) = and_parts (is_some (type_of ts on)) (cases_fit ts (type_of ts on) cases && body_fits ts otherwise) fits in
          let (c, o) = and_parts (cases_fit ts (type_of ts on) cases) (body_fits ts otherwise) rest in
          let g = value_fine families tcalls calls_fine on ts site T s f one in
          let br = cases_fine cases ts site T (valued_of tcalls site T on).term (type_of ts on) (all_done tcalls site T otherwise) s f g.0 c (row_fine otherwise ts site T s f o) in
          (chosen_fine families site.frame T _ _ f br.0 br.1.0, demands_joined families site.frame (reached site T (valued_of tcalls site T on).demands) _ (reached_fine site T (valued_of tcalls site T on).demands f g.1) br.1.1)
      stmt_fine (st.For' simple.Node _ body at) ts site T s f fits =
          let b = row_fine body (typing_inside ts simple.Node) (with_variable site) (under_variable site.frame T) (site_node families site s) (terms_under families site.frame T f) fits in
          (loop_fine families site.frame T _ f b.0, binding_fine families site.frame _ b.1)
      stmt_fine (st.For' simple.Truth _ body at) ts site T s f fits =
          turns_fine site.frame (λ w T. all_done tcalls (with_value site w) T body) (fixed_values simple.Truth) (fixed_no_nodes simple.Truth refl) (λ w U nn g. row_fine body (typing_inside ts simple.Truth) (with_value site w) U (site_value families site w nn s) g fits) T f
      stmt_fine (st.For' (simple.Range low high) _ body at) ts site T s f fits =
          let (fine, rest) = and_parts (is_simple_type ts.kinds (simple.Range low high)) (body_fits (typing_inside ts (simple.Range low high)) body) fits in
          turns_fine site.frame (λ w T. all_done tcalls (with_value site w) T body) (fixed_values (simple.Range low high)) (fixed_no_nodes (simple.Range low high) refl) (λ w U nn g. row_fine body (typing_inside ts (simple.Range low high)) (with_value site w) U (site_value families site w nn s) g rest) T f
      stmt_fine (st.For' (simple.Listed kind count) _ body at) ts site T s f fits =
          let (fine, rest) = and_parts (is_simple_type ts.kinds (simple.Listed kind count)) (body_fits (typing_inside ts (simple.Listed kind count)) body) fits in
          turns_fine site.frame (λ w T. all_done tcalls (with_value site w) T body) (fixed_values (simple.Listed kind count)) (fixed_no_nodes (simple.Listed kind count) refl) (λ w U nn g. row_fine body (typing_inside ts (simple.Listed kind count)) (with_value site w) U (site_value families site w nn s) g rest) T f
      stmt_fine (st.For' (simple.Scalarset kind count) _ body at) ts site T s f fits =
          let (fine, rest) = and_parts (is_simple_type ts.kinds (simple.Scalarset kind count)) (body_fits (typing_inside ts (simple.Scalarset kind count)) body) fits in
          turns_fine site.frame (λ w T. all_done tcalls (with_value site w) T body) (fixed_values (simple.Scalarset kind count)) (fixed_no_nodes (simple.Scalarset kind count) refl) (λ w U nn g. row_fine body (typing_inside ts (simple.Scalarset kind count)) (with_value site w) U (site_value families site w nn s) g rest) T f
      stmt_fine (st.Clear place of at) ts site T s f fits =
          let (may, rest) = and_parts (may_write ts (root_of place)) (is_type ts.kinds of && option_map_or (same_type of) (place_type ts place) false) fits in
          let (fine, typed) = and_parts (is_type ts.kinds of) (option_map_or (same_type of) (place_type ts place) false) rest in
          let p = place_fine families tcalls calls_fine place ts site T s f (type_some of (place_type ts place) typed) in
          (written_fine families site.frame T f (placed_of tcalls site T place).spot p.0 (cleared of) (cleared_fine site.frame of), reached_fine site T _ f p.1)
      stmt_fine (st.Undefine place at) ts site T s f fits =
          let (may, typed) = and_parts (may_write ts (root_of place)) (is_some (place_type ts place)) fits in
          let p = place_fine families tcalls calls_fine place ts site T s f typed in
          (written_fine families site.frame T f (placed_of tcalls site T place).spot p.0 all_undefined (undefined_shown site.frame), reached_fine site T _ f p.1)
      stmt_fine (st.Error at) ts site T s f fits = (unchanged_fine families site.frame T f, reached_fine site T _ f (one_demand families site.frame _ (truth_fine families site.frame false)))
      stmt_fine (st.Assert test at) ts site T s f fits =
          let g = value_fine families tcalls calls_fine test ts site T s f (some_of simple.Truth (type_of ts test) fits) in
          (unchanged_fine families site.frame T f, reached_fine site T _ f (demands_joined families site.frame (valued_of tcalls site T test).demands _ g.1 (one_demand families site.frame _ g.0)))
      stmt_fine (st.PutText at) ts site T s f fits = (unchanged_fine families site.frame T f, tt)
      stmt_fine (st.Put shown at) ts site T s f fits = (unchanged_fine families site.frame T f, tt)
      stmt_fine (st.Leave at) ts site T s f fits = (left_fine families site.frame T left_body f (left_term site.frame), tt)
      stmt_fine (st.Return body at) ts site T s f fits =
          let g = value_fine families tcalls calls_fine body ts site T s f (returned_some ts.exit (type_of ts body) fits) in
          (left_fine families site.frame T (left_with (valued_of tcalls site T body).term) f (result_term site.frame _ g.0), reached_fine site T _ f (demands_joined families site.frame (valued_of tcalls site T body).demands _ g.1 (result_demands site.frame site.result _ g.0)))

      pub row_fine : {n : _} (body : Row_of-Stmt n) (ts : Typing) (site : Site) (T : Terms) → SiteFine families site → TermsFine families site.frame T → body_fits ts body ≡ true → DoneFine families site.frame (all_done tcalls site T body)
      row_fine end_of-Stmt ts site T s f fits = (unchanged_fine families site.frame T f, tt)
      row_fine (more_of-Stmt first rest) ts site T s f fits =
          let (x, y) = and_parts (stmt_fits ts first) (body_fits ts rest) fits in
          let a = stmt_fine first ts site T s f x in
          let c = returned_fine families site.frame T ((done_by tcalls site T first).change) f a.0 in
          let b = row_fine rest ts site ((taken site T (done_by tcalls site T first)).change.now) s c.0 y in
          (then_fine families site.frame ((taken site T (done_by tcalls site T first)).change) _ c b.0, demands_joined families site.frame ((done_by tcalls site T first).demands) _ a.1 b.1)

      arms_fine : {n : _} (arms : Row_of-Arm n) (ts : Typing) (site : Site) (T : Terms) (otherwise : Done) → SiteFine families site → TermsFine families site.frame T → arms_fit ts arms ≡ true → DoneFine families site.frame otherwise → BranchingFine site.frame (arms_done tcalls site T arms otherwise)
      arms_fine end_of-Arm ts site T otherwise s f fits last = (tt, (last.0, last.1))
      arms_fine (more_of-Arm test _ body rest) ts site T otherwise s f fits last =
          let (x, more) = and_parts (is_of simple.Truth (type_of ts test)) (body_fits ts body && arms_fit ts rest) fits in
          let (y, z) = and_parts (body_fits ts body) (arms_fit ts rest) more in
          let g = value_fine families tcalls calls_fine test ts site T s f (some_of simple.Truth (type_of ts test) x) in
          let b = row_fine body ts site T s f y in
          let r = arms_fine rest ts site T otherwise s f z last in
          (((g.0, b.0), r.0), (r.1.0, one_branch_fine site T (valued_of tcalls site T test) (all_done tcalls site T body) (arms_done tcalls site T rest otherwise) f g b r))

      cases_fine : {n : _} (cases : Row_of-Case n) (ts : Typing) (site : Site) (T : Terms) (on : Term) (u : Option Simple) (otherwise : Done) → SiteFine families site → TermsFine families site.frame T → Fine families site.frame on → cases_fit ts u cases ≡ true → DoneFine families site.frame otherwise → BranchingFine site.frame (cases_done tcalls site T on cases otherwise)
      cases_fine end_of-Case ts site T on u otherwise s f o fits last = (tt, (last.0, last.1))
      cases_fine (more_of-Case labels _ body rest) ts site T on u otherwise s f o fits last =
          let (x, more) = and_parts (labels_fit ts u labels) (body_fits ts body && cases_fit ts u rest) fits in
          let (y, z) = and_parts (body_fits ts body) (cases_fit ts u rest) more in
          let l = labels_fine site (valued_of tcalls site T) on labels ts u o (λ e typed. value_fine families tcalls calls_fine e ts site T s f typed) x in
          let g = one_of_fine site.frame _ l.0 in
          let b = row_fine body ts site T s f y in
          let r = cases_fine rest ts site T on u otherwise s f o z last in
          (((g, b.0), r.0), (r.1.0, one_branch_fine site T (among (labels_of (valued_of tcalls site T) site on labels)) (all_done tcalls site T body) (cases_done tcalls site T on rest otherwise) f (g, l.1) b r))

  -- Calls

  given_fine : (n : ℕ) (gs : List Gift) (k : ℕ) → GiftsFine families n gs → ShownFine families n (given_terms (slice_get gs k))
  given_fine n [] k g path key none = fine-Known families (n + holes key) v.Undefined refl
  given_fine n (Filled m plain shown ∷ gs) zero (one, g) path key none = one path key none
  given_fine n (Standing spot ∷ gs) zero (one, g) path key none = fine-Known families (n + holes key) v.Undefined refl
  given_fine n (x ∷ gs) (suc k) (one, g) path key none = given_fine n gs k g path key none

  entered_fine : (n depth : ℕ) (gs : List Gift) (T : Terms) → TermsFine families n T → GiftsFine families n gs → TermsFine families n (entered depth gs T)
  entered_fine n depth gs T f g (Family (Global k) path key) none = f (Family (Global k) path key) none
  entered_fine n depth gs T f g (Family (Local of k) path key) none = go (nat_eq of depth)
    where
      go : (b : Bool) → Fine families (n + holes key) (if b then undefined else T (Family (Local of k) path key))
      go true = fine-Known families (n + holes key) v.Undefined refl
      go false = f (Family (Local of k) path key) none
  entered_fine n depth gs T f g (Family (Formal of k) path key) none = go (nat_eq of depth)
    where
      go : (b : Bool) → Fine families (n + holes key) (if b then given_terms (slice_get gs k) path key else T (Family (Formal of k) path key))
      go true = given_fine n gs k g path key none
      go false = f (Family (Formal of k) path key) none
  entered_fine n depth gs T f g Leaving none = truth_fine families (n + 0) false
  entered_fine n depth gs T f g Result none = fine-Known families (n + 0) v.Undefined refl

  formal_fine : (n : ℕ) (o : Option Simple) (g : Gift) → GiftFine families n g → DemandsFine families n (formal_fits o g)
  formal_fine n None g f = tt
  formal_fine n (Some into) (Filled m plain shown) f = stored_fine families n plain into _ (fine_more families (n + 0) n (shown [] []) (omega arith) (f [] [] tt))
  formal_fine n (Some into) (Standing spot) f = tt

  formals_fine : (n : ℕ) (fs : List DeclaredFormal) (gs : List Gift) → GiftsFine families n gs → DemandsFine families n (formals_fit fs gs)
  formals_fine n [] [] g = tt
  formals_fine n [] (x ∷ gs) g = tt
  formals_fine n (f ∷ fs) [] g = tt
  formals_fine n (f ∷ fs) (x ∷ gs) (one, g) = demands_joined families n (formal_fits (simple_type f.of) x) (formals_fit fs gs) (formal_fine n (simple_type f.of) x one) (formals_fine n fs gs g)

  pub calls_in_fine : (P : Typed) (tail : List Routine) → LatestFit P tail → CallsFine families (calls_in tail)
  calls_in_fine P [] known k site T gs f g = (unchanged_fine families site.frame T f, tt)
  calls_in_fine P (r ∷ earlier) (fits, known) k site T gs f g = go (nat_eq k (length earlier)) (calls_in_fine P earlier known)
    where
      go : (b : Bool) → CallsFine families (calls_in earlier) → DoneFine families site.frame (if b then called (calls_in earlier) r site T gs else calls_in earlier k site T gs)
      go true inner =
          let b = stmt_fine (calls_in earlier) inner r.body (routine_scope P (reverse earlier) r) (called_site site r.result gs) (entered (suc site.depth) gs T) ((λ j. fine-Known families site.frame v.Undefined refl), gifts_stand families site.frame gs g) (entered_fine site.frame (suc site.depth) gs T f g) (body_fits_in P (reverse earlier) r fits) in
          (b.0, demands_joined families site.frame (formals_fit r.formals gs) _ (formals_fine site.frame r.formals gs g) b.1)
      go false inner = inner k site T gs f g

-- Statements that hold others: branches, loops over types that are not of nodes, calls of procedures.
use Rattle.std.proofs.Common.{◌≡◌, ℕ, Bool, true, false, not, ◌||◌, cond, List, [], ◌∷◌, ◌++◌, length, Option, None, Some, refl, sym, ap, ◌∙◌, subst}
use Rattle.std.specs.Prelude.{slice_get, if◌then◌else◌}
use Rattle.std.specs.List.{list_any}
use Rattle.std.proofs.lemmas.Bool.{and_parts}
use Rattle.term_core.specs.declared.value.Value.{Value}
use Rattle.term_core.specs.declared.term.Term as t
use Rattle.term_core.specs.declared.term.Term.{Term}
use Rattle.term_core.specs.Values.{truth, same_value}
use Rattle.term_core.specs.Meaning.{Cells, value_of}
use Rattle.term_core.specs.Laws.{PlacingBinds}
use Rattle.murphi_ast.specs.declared.token.Span.{Span}
use Rattle.murphi_ast.specs.declared.expr.CompareOp.TheVariants as compare
use Rattle.murphi_typed.specs.declared.types.Simple.{Simple}
use Rattle.murphi_typed.specs.declared.expr.Expr.{Expr}
use Rattle.murphi_typed.specs.declared.expr.Arguments.{Arguments}
use Rattle.murphi_typed.specs.declared.protocol.Routine.{Routine}
use Rattle.murphi_typed.specs.Values.{is_value, values}
use Rattle.murphi_typed.specs.declared.stmt.Stmt.{Row_of-Stmt}
use Rattle.murphi_typed.specs.declared.protocol.Typed.{Typed}
use Rattle.murphi_typed.specs.Store.{Cells as Store}
use Rattle.murphi_typed.specs.Outcome.{Outcome, Got, given}
use Rattle.murphi_typed.specs.Expressions.{Calls, with_bound, value_of as worked, arguments_of}
use Rattle.murphi_typed.specs.WellTyped.{is_simple_type, comparable, labels_fit, type_of, arguments_fit}
use Rattle.murphi_typed.specs.Keeping.{Declared, AreKept}
use Rattle.murphi_typed.specs.Laws.{ValuesFitInBodies, BodiesKeepTypes, FunctionsGiveResults}
use Rattle.rule_inline.specs.Demands.{under_test}
use Rattle.rule_inline.specs.Tables.{Slot, Leaving, axes, Terms, branch_chain, or_else, first_of_branches}
use Rattle.rule_inline.specs.Bodies.{reached, Branching, last_branch, one_branch, Labels, labels_of, one_of_labels, turns as term_turns, came_back, with_arguments, all_done}
use Rattle.rule_inline.specs.Parts.{Given as Gift, Site, with_value, Valued, Calls as TermCalls, Done, valued_of, argued_of}
use Rattle.rule_inline.proofs.TermLemmas.{value-Not, value-Or, value-If, value-Same, is_true}
use Rattle.rule_inline.proofs.Outcome.{AllHold, Tells, tells_given, tells_then, tells_map, tells_under, tells_unless, all_beside}
use Rattle.rule_inline.proofs.PlaceLemmas.{Rep}
use Rattle.rule_inline.proofs.TypeLemmas.{EachValue}
use Rattle.rule_inline.proofs.SceneLemmas.{at_frame}
use Rattle.rule_inline.proofs.QuantifierLemmas.{given_twice, tells_before, tells_after}
use Rattle.rule_inline.proofs.PartLemmas.{Here, FunctionTells, comparable_types}
use Rattle.murphi_typed.specs.Execution.{Ending, Next, turns, is_among, run_all, calls_of}
use Rattle.rule_inline.proofs.ExpressionLaw.{tells_arguments}
use Rattle.rule_inline.proofs.ChangeLemmas.{Unwritten, CallsUnwritten}
use Rattle.rule_inline.proofs.LeftLemmas.{SameTerms, turns_left, row_left}
use Rattle.rule_inline.proofs.EndLemmas.{Body, here_of, EndsWith, checked, BranchEnds}
use Rattle.term_core.specs.Substitution.{lifted}
use Rattle.rule_inline.proofs.TermLemmas.{lifted_by}
use Rattle.rule_inline.proofs.StatementLemmas.{then_told, Follows, ProcedureTells, value_told, goes}

none_of_both : {A : Type 0} (x y : Option A) → or_else x y ≡ None → (x ≡ None) × (y ≡ None)
none_of_both None y e = (refl, e)
none_of_both (Some w) y e = cc

module _ (binds : PlacingBinds) (fit : ValuesFitInBodies) (keep : BodiesKeepTypes) (results : FunctionsGiveResults) (s : Cells) (P : Typed) (latest : List Routine) (types : Declared) (tcalls : TermCalls) (allowed : ℕ → Site → List Gift → Type 0) (functions : (h : Here s P latest types) → FunctionTells s P latest types tcalls h) (procedures : (b : Body s P latest types) → ProcedureTells binds fit keep results s P latest types tcalls allowed b) (unwritten : CallsUnwritten tcalls) where
  abbrev BB : Type 0
  BB = Body s P latest types

  abbrev calls : Calls
  calls = calls_of latest

  abbrev here : BB → Span → Here s P latest types
  here b at = here_of results s P latest types b at

  abbrev site_at : BB → Site
  site_at b = at_frame b.fr b.site

  abbrev pub Follow : BB → Span → Outcome Ending → Done → Type 0
  Follow b at o body = Follows binds fit keep results s P latest types tcalls allowed b at o body

  -- a call of a procedure
  pub call_told : (b : BB) (at from : Span) (k : ℕ) (args : Arguments) (r : Routine) → slice_get b.scope.routines k ≡ Some r → r.result ≡ None → arguments_fit b.scope r.formals args ≡ true → allowed k (site_at b) (argued_of tcalls (site_at b) b.T args).given → Follow b at (given (arguments_of calls b.scene from b.cells args) (λ gs. given (calls k b.scene from gs b.cells) (λ left. Got (Next left.cells)))) (with_arguments tcalls k (site_at b) b.T (argued_of tcalls (site_at b) b.T args))
  call_told b at from k args r found none fits is_fine =
      goes binds fit keep results s P latest types tcalls allowed functions procedures unwritten b at _ (came_back (site_at b) b.T (argued_of tcalls (site_at b) b.T args) (tcalls k (site_at b) b.T (argued_of tcalls (site_at b) b.T args).given)).change _
      (tells_given b.scene.nodes s b.fr ((argued_of tcalls (site_at b) b.T args).demands) ((tcalls k (site_at b) b.T (argued_of tcalls (site_at b) b.T args).given).demands) (arguments_of calls b.scene from b.cells args) _ _ _
      (tells_arguments binds fit s P latest types tcalls functions args (here b from) r.formals fits)
      (λ gs was ok. tells_then b.scene.nodes s b.fr ((tcalls k (site_at b) b.T (argued_of tcalls (site_at b) b.T args).given).demands) (calls k b.scene from gs b.cells) (λ left. Next left.cells) _ _
      (procedures b k r args from gs (argued_of tcalls (site_at b) b.T args).given (ap (λ rs. slice_get rs k) (sym b.typed.routines) ∙ found) none fits was ok is_fine)
      (λ left rep. (left.cells, refl, rep, b.staying))))

  -- Branches

  abbrev BranchTold : BB → Span → Outcome Ending → Branching → Type 0
  BranchTold b at o br = Tells b.scene.nodes s b.fr (given o (checked b.scene.nodes s at b.site.result)) br.demands (BranchEnds b.scene.nodes s b.scene.depth b.fr b.site.result b.T br)

  pub last_told : (b : BB) (at : Span) (o : Outcome Ending) (body : Done) → Unwritten b.site.depth b.T body.change → Follow b at o body → BranchTold b at o (last_branch body)
  last_told b at o body same told =
      tells_map b.scene.nodes s b.fr body.demands (given o (checked b.scene.nodes s at b.site.result)) _ _ told
      (λ e ends. (body.change, ends, subst (λ d. Unwritten d b.T body.change) b.sited.depth same, (λ slot none. none), λ slot ns scope long. refl))

  pub one_told : {X : Type 0} (b : BB) (at : Span) (asked : Outcome X) (holds : X → Bool) (test : Valued) (o : Outcome Ending) (body : Done) (p : Outcome Ending) (rest : Branching)
      → Tells b.scene.nodes s b.fr asked test.demands (λ x. is_true b.scene.nodes s b.fr test.term ≡ holds x)
      → Unwritten b.site.depth b.T body.change → Follow b at o body → BranchTold b at p rest
      → BranchTold b at (given asked (λ x. if holds x then o else p)) (one_branch (site_at b) b.T test body rest)
  one_told b at asked holds test o body p rest test_told same told rest_told =
      subst (λ q. Tells b.scene.nodes s b.fr q ((one_branch (site_at b) b.T test body rest).demands) (BranchEnds b.scene.nodes s b.scene.depth b.fr b.site.result b.T (one_branch (site_at b) b.T test body rest))) (sym (given_twice asked (λ x. if holds x then o else p) (checked b.scene.nodes s at b.site.result)))
      (tells_given b.scene.nodes s b.fr (reached (site_at b) b.T test.demands) (under_test (length b.fr) test.term body.demands ++ under_test (length b.fr) (t.Not test.term) rest.demands) asked _ _ _
      (tells_unless b.scene.nodes s b.fr (b.T Leaving) test.demands asked _ b.staying test_told)
      (λ x was is. go (holds x) is))
    where
      chain_is : (c : Bool) → is_true b.scene.nodes s b.fr test.term ≡ c → (slot : Slot) (ns : List ℕ) → length ns ≡ axes slot → value_of b.scene.nodes s (b.fr ++ ns) (branch_chain (length b.fr) slot (record { test = test.term; change = body.change } ∷ rest.branches) rest.otherwise) ≡ cond c (value_of b.scene.nodes s (b.fr ++ ns) (body.change.now slot)) (value_of b.scene.nodes s (b.fr ++ ns) (branch_chain (length b.fr) slot rest.branches rest.otherwise))
      chain_is c was slot ns long =
          value-If b.scene.nodes s (b.fr ++ ns) (lifted (length b.fr) (axes slot) test.term) (body.change.now slot) (branch_chain (length b.fr) slot rest.branches rest.otherwise)
          ∙ ap (λ d. cond d (value_of b.scene.nodes s (b.fr ++ ns) (body.change.now slot)) (value_of b.scene.nodes s (b.fr ++ ns) (branch_chain (length b.fr) slot rest.branches rest.otherwise))) (ap truth (lifted_by b.scene.nodes s b.fr ns (axes slot) test.term long) ∙ was)

      not_is : (c : Bool) → is_true b.scene.nodes s b.fr test.term ≡ c → is_true b.scene.nodes s b.fr (t.Not test.term) ≡ not c
      not_is c was = ap truth (value-Not b.scene.nodes s b.fr test.term) ∙ ap not was

      go : (c : Bool) → is_true b.scene.nodes s b.fr test.term ≡ c → Tells b.scene.nodes s b.fr (given (if c then o else p) (checked b.scene.nodes s at b.site.result)) (under_test (length b.fr) test.term body.demands ++ under_test (length b.fr) (t.Not test.term) rest.demands) (BranchEnds b.scene.nodes s b.scene.depth b.fr b.site.result b.T (one_branch (site_at b) b.T test body rest))
      go true was =
          tells_after b.scene.nodes s b.fr (under_test (length b.fr) test.term body.demands) (under_test (length b.fr) (t.Not test.term) rest.demands) _ _ (all_beside b.scene.nodes s b.fr (t.Not test.term) rest.demands (not_is true was))
          (tells_under b.scene.nodes s b.fr test.term body.demands _ _ was
          (tells_map b.scene.nodes s b.fr body.demands (given o (checked b.scene.nodes s at b.site.result)) _ _ told
          (λ e ends. (body.change, ends, subst (λ d. Unwritten d b.T body.change) b.sited.depth same, (λ slot none. (none_of_both (body.change.first slot) (first_of_branches slot rest.branches rest.otherwise) none).0), λ slot ns scope long. chain_is true was slot ns long))))
      go false was =
          tells_before b.scene.nodes s b.fr (under_test (length b.fr) test.term body.demands) (under_test (length b.fr) (t.Not test.term) rest.demands) _ _ (all_beside b.scene.nodes s b.fr test.term body.demands was)
          (tells_under b.scene.nodes s b.fr (t.Not test.term) rest.demands _ _ (not_is false was)
          (tells_map b.scene.nodes s b.fr rest.demands (given p (checked b.scene.nodes s at b.site.result)) _ _ rest_told
          (λ e facts. (let (ch, ends, unwritten', first, chain) = facts in (ch, ends, unwritten', (λ slot none. first slot ((none_of_both (body.change.first slot) (first_of_branches slot rest.branches rest.otherwise) none).1)), λ slot ns scope long. chain_is false was slot ns long ∙ chain slot ns scope long)))))

  -- labels
  pub one_of_is : (N : ℕ) (fr : List ℕ) (tests : List Term) → is_true N s fr (one_of_labels tests) ≡ list_any (is_true N s fr) tests
  one_of_is N fr [] = ap truth (value-Or N s fr [])
  one_of_is N fr (test ∷ []) = sym (nothing_more (is_true N s fr test))
    where
      nothing_more : (b : Bool) → (b || false) ≡ b
      nothing_more true = refl
      nothing_more false = refl
  one_of_is N fr (test ∷ other ∷ tests) = ap truth (value-Or N s fr (test ∷ other ∷ tests))

  pub labels_told : (b : BB) (from : Span) (on : Term) (w : Value) (labels : List Expr) → value_of b.scene.nodes s b.fr on ≡ w → (u : Option Simple) → labels_fit b.scope u labels ≡ true → Tells b.scene.nodes s b.fr (is_among (worked calls b.scene from b.cells) w labels) ((labels_of (valued_of tcalls (site_at b) b.T) (site_at b) on labels).demands) (λ found. list_any (is_true b.scene.nodes s b.fr) ((labels_of (valued_of tcalls (site_at b) b.T) (site_at b) on labels).tests) ≡ found)
  labels_told b from on w [] is u fits = (tt, refl)
  labels_told b from on w (label ∷ labels) is u fits =
      let (first, rest) = and_parts (comparable compare.Equal u (type_of b.scope label)) (labels_fit b.scope u labels) fits in
      let (p, q, left, right) = comparable_types compare.Equal u (type_of b.scope label) first in
      tells_given b.scene.nodes s b.fr ((valued_of tcalls (site_at b) b.T label).demands) (under_test (length b.fr) (t.Not test) more.demands) (worked calls b.scene from b.cells label) _ _ _
      (value_told binds fit keep results s P latest types tcalls allowed functions procedures unwritten b from label q right)
      (λ y was value. go y value (same_value w y) refl (labels_told b from on w labels is u rest))
    where
      test : Term
      test = t.Same on (valued_of tcalls (site_at b) b.T label).term

      more : Labels
      more = labels_of (valued_of tcalls (site_at b) b.T) (site_at b) on labels

      test_is : (y : Value) → value_of b.scene.nodes s b.fr (valued_of tcalls (site_at b) b.T label).term ≡ y → is_true b.scene.nodes s b.fr test ≡ same_value w y
      test_is y value = ap truth (value-Same b.scene.nodes s b.fr on (valued_of tcalls (site_at b) b.T label).term) ∙ ap (λ z. same_value z (value_of b.scene.nodes s b.fr (valued_of tcalls (site_at b) b.T label).term)) is ∙ ap (same_value w) value

      go : (y : Value) → value_of b.scene.nodes s b.fr (valued_of tcalls (site_at b) b.T label).term ≡ y → (c : Bool) → same_value w y ≡ c → Tells b.scene.nodes s b.fr (is_among (worked calls b.scene from b.cells) w labels) more.demands (λ found. list_any (is_true b.scene.nodes s b.fr) more.tests ≡ found) → Tells b.scene.nodes s b.fr (if c then Got true else is_among (worked calls b.scene from b.cells) w labels) (under_test (length b.fr) (t.Not test) more.demands) (λ found. (is_true b.scene.nodes s b.fr test || list_any (is_true b.scene.nodes s b.fr) more.tests) ≡ found)
      go y value true was others = (all_beside b.scene.nodes s b.fr (t.Not test) more.demands (ap truth (value-Not b.scene.nodes s b.fr test) ∙ ap not (test_is y value ∙ was)), ap (λ d. d || list_any (is_true b.scene.nodes s b.fr) more.tests) (test_is y value ∙ was))
      go y value false was others =
          tells_under b.scene.nodes s b.fr (t.Not test) more.demands (is_among (worked calls b.scene from b.cells) w labels) _ (ap truth (value-Not b.scene.nodes s b.fr test) ∙ ap not (test_is y value ∙ was))
          (tells_map b.scene.nodes s b.fr more.demands (is_among (worked calls b.scene from b.cells) w labels) _ _ others (λ found e. ap (λ d. d || list_any (is_true b.scene.nodes s b.fr) more.tests) (test_is y value ∙ was) ∙ e))

  -- Loops over another type

  module _ {n : _} (at : Span) (over : Simple) (body : Row_of-Stmt n) (b0 : BB) (over_is : is_simple_type b0.scope.kinds over ≡ true)
      (each : (T : Terms) (c : Store) (kept : AreKept b0.scene.nodes types c) (rep : Rep b0.scene.nodes s b0.scene.depth b0.fr T c) (staying : is_true b0.scene.nodes s b0.fr (T Leaving) ≡ false) (x : Value) (is : is_value b0.scene.nodes over x ≡ true) → Tells b0.scene.nodes s b0.fr (given (run_all calls (with_bound b0.scene x) c body) (checked b0.scene.nodes s at b0.site.result)) ((all_done tcalls (with_value (site_at b0) x) T body).demands) (EndsWith b0.scene.nodes s b0.scene.depth b0.fr b0.site.result (all_done tcalls (with_value (site_at b0) x) T body).change))
      (keeps : (T : Terms) (c : Store) (kept : AreKept b0.scene.nodes types c) (x : Value) (is : is_value b0.scene.nodes over x ≡ true) (next : Store) → run_all calls (with_bound b0.scene x) c body ≡ Got (Next next) → AreKept b0.scene.nodes types next) where
    abbrev F : Value → Store → Outcome Ending
    F x c = run_all calls (with_bound b0.scene x) c body

    abbrev G : Value → Terms → Done
    G x T = all_done tcalls (with_value (site_at b0) x) T body

    pub turns_told : (xs : List Value) → EachValue (λ x. is_value b0.scene.nodes over x ≡ true) xs → (T : Terms) (c : Store) → AreKept b0.scene.nodes types c → Rep b0.scene.nodes s b0.scene.depth b0.fr T c → is_true b0.scene.nodes s b0.fr (T Leaving) ≡ false → Tells b0.scene.nodes s b0.fr (given (turns F xs c) (checked b0.scene.nodes s at b0.site.result)) ((term_turns G xs T).demands) (EndsWith b0.scene.nodes s b0.scene.depth b0.fr b0.site.result (term_turns G xs T).change)
    turns_told [] values T c kept rep staying = (tt, (rep, staying))
    turns_told (x ∷ xs) (is, values) T c kept rep staying =
        then_told b0.scene.nodes s b0.scene.depth b0.fr at b0.site.result (F x c) (turns F xs) (G x T) (term_turns G xs) (each T c kept rep staying x is)
        (λ next was rep' staying'. turns_told xs values (G x T).change.now next (keeps T c kept x is next was) rep' staying')
        (λ left. subst (λ d. AllHold b0.scene.nodes s b0.fr ((term_turns G xs (G x T).change.now).demands) × SameTerms b0.scene.nodes s d b0.fr (G x T).change.now ((term_turns G xs (G x T).change.now).change.now)) b0.sited.depth
        (turns_left b0.scene.nodes s b0.site.depth b0.fr G (λ y U still. row_left b0.scene.nodes s tcalls unwritten body b0.fr (with_value b0.site y) U still) xs (G x T).change.now left))

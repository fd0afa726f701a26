-- After a `return` nothing is demanded and no term changes its value.
use Rattle.std.proofs.Common.{◌≡◌, ℕ, Bool, true, false, cond, List, [], ◌∷◌, ◌++◌, length, Option, None, Some, refl, sym, ap, ◌∙◌, subst}
use Rattle.std.specs.Prelude.{if◌then◌else◌, is_some}
use Rattle.term_core.specs.declared.value.Value.{Value}
use Rattle.term_core.specs.declared.term.Term as t
use Rattle.term_core.specs.declared.term.Term.{Term}
use Rattle.term_core.specs.Values.{truth}
use Rattle.term_core.specs.Meaning.{Cells, value_of}
use Rattle.term_core.specs.Substitution.{lifted}
use Rattle.murphi_typed.specs.declared.types.Simple.TheVariants as simple
use Rattle.murphi_typed.specs.declared.stmt.Stmt as st
use Rattle.murphi_typed.specs.declared.stmt.Stmt.{Stmt, Row_of-Stmt, end_of-Stmt, more_of-Stmt, Row_of-Arm, end_of-Arm, more_of-Arm, Row_of-Case, end_of-Case, more_of-Case}
use Rattle.rule_inline.specs.Demands.{Demand, under_test, is_constant_false, unless_left}
use Rattle.rule_inline.specs.Tables.{Slot, Leaving, Terms, axes, under_variable, writes, kept_if_left}
use Rattle.rule_inline.specs.Parts.{Site, with_value, Done, Calls, fixed_values, valued_of}
use Rattle.rule_inline.specs.Bodies.{taken, turns, among, labels_of, done_by, all_done, arms_done, cases_done}
use Rattle.rule_inline.proofs.TermLemmas.{value-If, is_true, lifted_by, lifted_end, length-one_more, append_nothing}
use Rattle.rule_inline.proofs.Outcome.{AllHold, all_joined, constant_false, all_under, all_beside, all_left, all_binding}
use Rattle.rule_inline.proofs.SceneLemmas.{at_frame, inner}
use Rattle.rule_inline.proofs.ChangeLemmas.{InScope, Unwritten, CallsUnwritten, stmt_unwritten}

pub some_or_none : {A : Type 0} (o : Option A) → is_some o ≡ false → o ≡ None
some_or_none None e = refl
some_or_none (Some x) e = cc

module _ (N : ℕ) (s : Cells) where
  -- each term in scope has its value
  abbrev pub SameTerms : ℕ → List ℕ → Terms → Terms → Type 0
  SameTerms depth fr T U = (slot : Slot) (ns : List ℕ) → InScope depth slot → length ns ≡ axes slot → value_of N s (fr ++ ns) (U slot) ≡ value_of N s (fr ++ ns) (T slot)

  pub same_leaving : (depth : ℕ) (fr : List ℕ) (T U : Terms) → SameTerms depth fr T U → is_true N s fr (U Leaving) ≡ is_true N s fr (T Leaving)
  same_leaving depth fr T U same = ap truth (ap (λ xs. value_of N s xs (U Leaving)) (sym (append_nothing fr)) ∙ same Leaving [] tt refl ∙ ap (λ xs. value_of N s xs (T Leaving)) (append_nothing fr))

  all_reached : (fr : List ℕ) (test : Term) (qs : List Demand) → AllHold N s fr qs → AllHold N s fr (under_test (length fr) test qs)
  all_reached fr test qs all = go (is_true N s fr test) refl
    where
      go : (b : Bool) → is_true N s fr test ≡ b → AllHold N s fr (under_test (length fr) test qs)
      go true was = all_under N s fr test qs was all
      go false was = all_beside N s fr test qs was

  taken_left : (fr : List ℕ) (site : Site) (T : Terms) (body : Done) → is_true N s fr (T Leaving) ≡ true → Unwritten site.depth T body.change → SameTerms site.depth fr T ((taken (at_frame fr site) T body).change.now)
  taken_left fr site T body left unwritten slot ns scope long = go (is_constant_false (T Leaving)) refl
    where
      written : (b : Bool) → writes slot body.change ≡ b → value_of N s (fr ++ ns) (if b then t.If (lifted (length fr) (axes slot) (T Leaving)) (T slot) (body.change.now slot) else body.change.now slot) ≡ value_of N s (fr ++ ns) (T slot)
      written true was =
          value-If N s (fr ++ ns) (lifted (length fr) (axes slot) (T Leaving)) (T slot) (body.change.now slot)
          ∙ ap (λ b. cond b (value_of N s (fr ++ ns) (T slot)) (value_of N s (fr ++ ns) (body.change.now slot))) (ap truth (lifted_by N s fr ns (axes slot) (T Leaving) long) ∙ left)
      written false was = ap (value_of N s (fr ++ ns)) (unwritten slot scope (some_or_none (body.change.first slot) was))

      go : (b : Bool) → is_constant_false (T Leaving) ≡ b → value_of N s (fr ++ ns) ((if b then body.change else record body.change { now = kept_if_left (length fr) T body.change }).now slot) ≡ value_of N s (fr ++ ns) (T slot)
      go true was = let both : false ≡ true = sym (constant_false N s fr (T Leaving) was) ∙ left in cc
      go false was = written (writes slot body.change) refl

  -- what holds after a return
  abbrev pub Still : ℕ → List ℕ → Terms → Done → Type 0
  Still depth fr T body = AllHold N s fr body.demands × SameTerms depth fr T body.change.now

  pub turns_left : (depth : ℕ) (fr : List ℕ) (body : Value → Terms → Done) → ((x : Value) (U : Terms) → is_true N s fr (U Leaving) ≡ true → Still depth fr U (body x U)) → (xs : List Value) (T : Terms) → is_true N s fr (T Leaving) ≡ true → Still depth fr T (turns body xs T)
  turns_left depth fr body each [] T left = (tt, λ slot ns scope long. refl)
  turns_left depth fr body each (x ∷ xs) T left =
      let (first, same) = each x T left in
      let (rest, more) = turns_left depth fr body each xs ((body x T).change.now) (same_leaving depth fr T ((body x T).change.now) same ∙ left) in
      (all_joined N s fr (body x T).demands _ first rest, λ slot ns scope long. more slot ns scope long ∙ same slot ns scope long)

  module _ (calls : Calls) (unwritten : CallsUnwritten calls) where
    mutual
      unfolding done_by

      pub stmt_left : (stmt : Stmt) (fr : List ℕ) (site : Site) (T : Terms) → is_true N s fr (T Leaving) ≡ true → AllHold N s fr ((done_by calls (at_frame fr site) T stmt).demands)
      stmt_left (st.Block' _ body) fr site T left = (row_left body fr site T left).0
      stmt_left (st.Assign to into body) fr site T left = all_left N s fr (T Leaving) _ left
      stmt_left (st.Copy to into from) fr site T left = all_left N s fr (T Leaving) _ left
      stmt_left (st.CopyAll to from) fr site T left = all_left N s fr (T Leaving) _ left
      stmt_left (st.Call k args at) fr site T left = all_left N s fr (T Leaving) _ left
      stmt_left (st.If' _ arms _ otherwise at) fr site T left = arms_left arms fr site T left (all_done calls (at_frame fr site) T otherwise) ((row_left otherwise fr site T left).0)
      stmt_left (st.Switch' on _ cases _ otherwise at) fr site T left =
          all_joined N s fr _ _ (all_left N s fr (T Leaving) ((valued_of calls (at_frame fr site) T on).demands) left) (cases_left cases fr site T left (valued_of calls (at_frame fr site) T on).term (all_done calls (at_frame fr site) T otherwise) ((row_left otherwise fr site T left).0))
      stmt_left (st.For' simple.Node _ body at) fr site T left =
          all_binding N s fr _ (λ n is. subst (λ m. AllHold N s (fr ++ n ∷ []) ((all_done calls (record (inner fr site) { frame = m }) (under_variable (length fr) T) body).demands)) (length-one_more fr n)
          ((row_left body (fr ++ n ∷ []) (inner fr site) (under_variable (length fr) T) (ap truth (lifted_end N s fr (n ∷ []) (T Leaving)) ∙ left)).0))
      stmt_left (st.For' simple.Truth _ body at) fr site T left = (turns_left site.depth fr (λ x T. all_done calls (with_value (at_frame fr site) x) T body) (λ x U still. row_left body fr (with_value site x) U still) (fixed_values simple.Truth) T left).0
      stmt_left (st.For' (simple.Range low high) _ body at) fr site T left = (turns_left site.depth fr (λ x T. all_done calls (with_value (at_frame fr site) x) T body) (λ x U still. row_left body fr (with_value site x) U still) (fixed_values (simple.Range low high)) T left).0
      stmt_left (st.For' (simple.Listed kind count) _ body at) fr site T left = (turns_left site.depth fr (λ x T. all_done calls (with_value (at_frame fr site) x) T body) (λ x U still. row_left body fr (with_value site x) U still) (fixed_values (simple.Listed kind count)) T left).0
      stmt_left (st.For' (simple.Scalarset kind count) _ body at) fr site T left = (turns_left site.depth fr (λ x T. all_done calls (with_value (at_frame fr site) x) T body) (λ x U still. row_left body fr (with_value site x) U still) (fixed_values (simple.Scalarset kind count)) T left).0
      stmt_left (st.Clear place of at) fr site T left = all_left N s fr (T Leaving) _ left
      stmt_left (st.Undefine place at) fr site T left = all_left N s fr (T Leaving) _ left
      stmt_left (st.Error at) fr site T left = all_left N s fr (T Leaving) _ left
      stmt_left (st.Assert test at) fr site T left = all_left N s fr (T Leaving) _ left
      stmt_left (st.PutText at) fr site T left = tt
      stmt_left (st.Put shown at) fr site T left = tt
      stmt_left (st.Leave at) fr site T left = tt
      stmt_left (st.Return body at) fr site T left = all_left N s fr (T Leaving) _ left

      pub row_left : {n : _} (body : Row_of-Stmt n) (fr : List ℕ) (site : Site) (T : Terms) → is_true N s fr (T Leaving) ≡ true → Still site.depth fr T (all_done calls (at_frame fr site) T body)
      row_left end_of-Stmt fr site T left = (tt, λ slot ns scope long. refl)
      row_left (more_of-Stmt first rest) fr site T left =
          let same = taken_left fr site T (done_by calls (at_frame fr site) T first) left (stmt_unwritten calls unwritten (at_frame fr site) T first) in
          let (others, more) = row_left rest fr site ((taken (at_frame fr site) T (done_by calls (at_frame fr site) T first)).change.now) (same_leaving site.depth fr T ((taken (at_frame fr site) T (done_by calls (at_frame fr site) T first)).change.now) same ∙ left) in
          (all_joined N s fr _ _ (stmt_left first fr site T left) others, λ slot ns scope long. more slot ns scope long ∙ same slot ns scope long)

      arms_left : {n : _} (arms : Row_of-Arm n) (fr : List ℕ) (site : Site) (T : Terms) → is_true N s fr (T Leaving) ≡ true → (otherwise : Done) → AllHold N s fr otherwise.demands → AllHold N s fr ((arms_done calls (at_frame fr site) T arms otherwise).demands)
      arms_left end_of-Arm fr site T left otherwise last = last
      arms_left (more_of-Arm test _ body rest) fr site T left otherwise last =
          all_joined N s fr (unless_left (length fr) (T Leaving) ((valued_of calls (at_frame fr site) T test).demands)) _ (all_left N s fr (T Leaving) ((valued_of calls (at_frame fr site) T test).demands) left)
          (all_joined N s fr (under_test (length fr) (valued_of calls (at_frame fr site) T test).term ((all_done calls (at_frame fr site) T body).demands)) _ (all_reached fr (valued_of calls (at_frame fr site) T test).term ((all_done calls (at_frame fr site) T body).demands) ((row_left body fr site T left).0))
          (all_reached fr (t.Not (valued_of calls (at_frame fr site) T test).term) ((arms_done calls (at_frame fr site) T rest otherwise).demands) (arms_left rest fr site T left otherwise last)))

      cases_left : {n : _} (cases : Row_of-Case n) (fr : List ℕ) (site : Site) (T : Terms) → is_true N s fr (T Leaving) ≡ true → (on : Term) (otherwise : Done) → AllHold N s fr otherwise.demands → AllHold N s fr ((cases_done calls (at_frame fr site) T on cases otherwise).demands)
      cases_left end_of-Case fr site T left on otherwise last = last
      cases_left (more_of-Case labels _ body rest) fr site T left on otherwise last =
          all_joined N s fr (unless_left (length fr) (T Leaving) ((among (labels_of (valued_of calls (at_frame fr site) T) (at_frame fr site) on labels)).demands)) _ (all_left N s fr (T Leaving) ((among (labels_of (valued_of calls (at_frame fr site) T) (at_frame fr site) on labels)).demands) left)
          (all_joined N s fr (under_test (length fr) (among (labels_of (valued_of calls (at_frame fr site) T) (at_frame fr site) on labels)).term ((all_done calls (at_frame fr site) T body).demands)) _ (all_reached fr (among (labels_of (valued_of calls (at_frame fr site) T) (at_frame fr site) on labels)).term ((all_done calls (at_frame fr site) T body).demands) ((row_left body fr site T left).0))
          (all_reached fr (t.Not (among (labels_of (valued_of calls (at_frame fr site) T) (at_frame fr site) on labels)).term) ((cases_done calls (at_frame fr site) T on rest otherwise).demands) (cases_left rest fr site T left on otherwise last)))

-- The marks with which a body writes a family first are those of one of the writes that the symmetry rules judge.
use Rattle.std.proofs.Common.{◌≡◌, ℕ, suc, ◌<◌, ◌≤◌, Bool, true, false, not, ◌&&◌, List, [], ◌∷◌, ◌++◌, length, reverse, Option, None, Some, ◌⊎◌, inl, inr, refl, sym, ap, ◌∙◌, subst, arith}
use Rattle.std.specs.Prelude.{slice_get, nat_eq, option_and_then, is_some, if◌then◌else◌}
use Rattle.std.specs.Option.{option_map_or}
use Rattle.std.specs.List.{flat_map}
use Rattle.std.proofs.lemmas.Bool.{and_parts}
use Rattle.term_core.specs.declared.value.Value.{Value}
use Rattle.term_core.specs.declared.term.Term.{Term}
use Rattle.murphi_typed.specs.declared.types.Simple.{Simple}
use Rattle.murphi_typed.specs.declared.types.Simple.TheVariants as simple
use Rattle.murphi_typed.specs.declared.types.AnyType as type
use Rattle.murphi_typed.specs.declared.types.AnyType.{AnyType}
use Rattle.murphi_typed.specs.declared.expr.Designator as d
use Rattle.murphi_typed.specs.declared.expr.Designator.{Designator}
use Rattle.murphi_typed.specs.declared.expr.Arguments.{Arguments}
use Rattle.murphi_typed.specs.declared.stmt.Stmt as st
use Rattle.murphi_typed.specs.declared.stmt.Stmt.{Stmt, Row_of-Stmt, end_of-Stmt, more_of-Stmt, Row_of-Arm, end_of-Arm, more_of-Arm, Row_of-Case, end_of-Case, more_of-Case}
use Rattle.murphi_typed.specs.declared.protocol.Routine.{Routine}
use Rattle.murphi_typed.specs.declared.protocol.Typed.{Typed}
use Rattle.murphi_typed.specs.WellTyped.{Scope as Typing, binding as typing_inside, formal_type, same_type, is_of, is_type, is_simple_type, is_cell_of, holds_values_of, are_alike, may_write, root_of, is_function, arguments_fit, type_of, place_type, labels_fit, stmt_fits, body_fits, arms_fit, cases_fit, routine_scope}
use Rattle.murphi_typed.specs.Keeping.{LatestFit}
use Rattle.scalarset_rules.specs.declared.shape.Binder.{Binder}
use Rattle.scalarset_rules.specs.Accesses.{Stand, Scope, binding, called as called_scope, stand_mark, shape_of, stands_of, Access, accessed, from_call, Opened, reads, argument_reads, accesses, all_accesses, arm_accesses, case_accesses, opened_in}
use Rattle.scalarset_rules.specs.Rules.{is_it}
use Rattle.rule_inline.specs.Demands.{is_constant_false}
use Rattle.rule_inline.specs.Tables.{Slot, Family, Leaving, Result, Terms, Marks, or_else, under_variable, Shown, written, first_of_branches, kept_if_left, own_axis}
use Rattle.rule_inline.specs.Parts.{Given as Gift, Site, with_value, with_variable, Calls as TermCalls, Done, fixed_values, valued_of, argued_of}
use Rattle.rule_inline.specs.Bodies.{taken, turns, done_by, all_done, arms_done, cases_done, called, called_site, calls_in}
use Rattle.rule_inline.proofs.ValueLemmas.{absurd_false}
use Rattle.rule_inline.proofs.TypeLemmas.{not_some, some_one}
use Rattle.rule_inline.proofs.CallLemmas.{found_in}
use Rattle.rule_inline.proofs.FunctionLoops.{body_fits_in}
use Rattle.rule_inline.proofs.MarkLemmas.{either_some, PlaceTie, written_hits, FirstIs, first_front, first_back, first_called}
use Rattle.rule_inline.proofs.TieLemmas.{GiftTies, Tie, tie_value, tie_node, place_tie, arguments_tie, argument_nodes}

-- designators that are written have a type

pub cell_some : (into : Simple) (o : Option AnyType) → is_cell_of into o ≡ true → is_some o ≡ true
cell_some into None e = absurd_false e
cell_some into (Some U) e = refl

pub alike_some : (o p : Option AnyType) → are_alike o p ≡ true → is_some o ≡ true
alike_some None p e = absurd_false e
alike_some (Some U) p e = refl

pub type_some : (of : AnyType) (o : Option AnyType) → option_map_or (same_type of) o false ≡ true → is_some o ≡ true
type_some of None e = absurd_false e
type_some of (Some U) e = refl

pub procedure_there : (ts : Typing) (k : ℕ) (args : Arguments) → option_map_or (λ r. not (is_some r.result) && arguments_fit ts r.formals args) (slice_get ts.routines k) false ≡ true → (r : Routine) × ((slice_get ts.routines k ≡ Some r) × (arguments_fit ts r.formals args ≡ true))
procedure_there ts k args e = go (slice_get ts.routines k) refl e
  where
    go : (o : Option Routine) → slice_get ts.routines k ≡ o → option_map_or (λ r. not (is_some r.result) && arguments_fit ts r.formals args) o false ≡ true → (r : Routine) × ((slice_get ts.routines k ≡ Some r) × (arguments_fit ts r.formals args ≡ true))
    go None was e = absurd_false e
    go (Some r) was e = (r, (was, (and_parts (not (is_some r.result)) (arguments_fit ts r.formals args) e).1))

module _ (v : Binder) (F : ℕ) where
  -- a designator that is written
  write_first : (frame : ℕ) (T : Terms) (spot : _) (new : Shown) (sc : Scope) (to : Designator) (rest : List Access) → PlaceTie v F spot (shape_of sc to) → (slot : Slot) (ms : Marks) → (written frame T spot new).first slot ≡ Some ms → FirstIs v F (accessed true sc to ∷ rest) slot ms
  write_first frame T spot new sc (d.Of' r shape selectors at) rest tie (Family owner path key) ms e = inl (refl, written_hits v F frame T spot new (shape_of sc (d.Of' r shape selectors at)) owner path key ms tie e)
  write_first frame T spot new sc to rest tie Leaving ms e = not_some e
  write_first frame T spot new sc to rest tie Result ms e = not_some e

  -- what a call writes first
  abbrev pub CallsFirst : TermCalls → Opened → List Routine → Type 0
  CallsFirst tcalls opened routines =
      (k : ℕ) (r : Routine) (sc : Scope) (stands : List Stand) (site : Site) (T : Terms) (gifts : List Gift)
      → slice_get routines k ≡ Some r → v.depth ≤ sc.depth → site.depth ≡ sc.depth → F < site.frame → GiftTies v F gifts stands
      → ((j : ℕ) → is_it v (stand_mark (slice_get stands j)) ≡ true → formal_type false (slice_get r.formals j) ≡ Some (type.Simple simple.Node))
      → (slot : Slot) (ms : Marks) → (tcalls k site T gifts).change.first slot ≡ Some ms → FirstIs v F (opened k (called_scope sc stands)) slot ms

  turns_first : (body : Value → Terms → Done) (all : List Access) (slot : Slot) (ms : Marks) → ((w : Value) (T : Terms) → (body w T).change.first slot ≡ Some ms → FirstIs v F all slot ms) → (ws : List Value) (T : Terms) → (turns body ws T).change.first slot ≡ Some ms → FirstIs v F all slot ms
  turns_first body all slot ms each [] T e = not_some e
  turns_first body all slot ms each (w ∷ ws) T e = go (either_some ((body w T).change.first slot) ((turns body ws ((body w T).change.now)).change.first slot) ms e) (λ f. turns_first body all slot ms each ws ((body w T).change.now) f)
    where
      go : ((body w T).change.first slot ≡ Some ms) ⊎ ((turns body ws ((body w T).change.now)).change.first slot ≡ Some ms) → ((turns body ws ((body w T).change.now)).change.first slot ≡ Some ms → FirstIs v F all slot ms) → FirstIs v F all slot ms
      go (inl f) again = each w T f
      go (inr f) again = again f

  taken_first : (site : Site) (T : Terms) (body : Done) (slot : Slot) (ms : Marks) → (taken site T body).change.first slot ≡ Some ms → body.change.first slot ≡ Some ms
  taken_first site T body slot ms e = go (is_constant_false (T Leaving)) e
    where
      go : (b : Bool) → (if b then body.change else record body.change { now = kept_if_left site.frame T body.change }).first slot ≡ Some ms → body.change.first slot ≡ Some ms
      go true e = e
      go false e = e

  loop_first : (o : Option ℕ) (found : Option Marks) (ms : Marks) → option_and_then (λ k. found) o ≡ Some ms → found ≡ Some ms
  loop_first None found ms e = not_some e
  loop_first (Some k) found ms e = e

  -- of two parts one writes first
  two : (a b : Option Marks) (xs ys : List Access) (slot : Slot) (ms : Marks) → or_else a b ≡ Some ms → (a ≡ Some ms → FirstIs v F xs slot ms) → (b ≡ Some ms → FirstIs v F ys slot ms) → FirstIs v F (xs ++ ys) slot ms
  two a b xs ys slot ms e first second = go (either_some a b ms e)
    where
      go : (a ≡ Some ms) ⊎ (b ≡ Some ms) → FirstIs v F (xs ++ ys) slot ms
      go (inl f) = first_front v F xs ys slot ms (first f)
      go (inr f) = first_back v F xs ys slot ms (second f)

  pick : {O : Type 0} (xs ys : List Access) (slot : Slot) (ms : Marks) → FirstIs v F xs slot ms ⊎ O → (O → FirstIs v F ys slot ms) → FirstIs v F (xs ++ ys) slot ms
  pick xs ys slot ms (inl f) other = first_front v F xs ys slot ms f
  pick xs ys slot ms (inr f) other = first_back v F xs ys slot ms (other f)

  one_arm : {A B : Type 0} → A ⊎ B → (tests body rest : List Access) (slot : Slot) (ms : Marks) (O : Type 0) → (A → FirstIs v F body slot ms) → (B → FirstIs v F rest slot ms ⊎ O) → FirstIs v F (tests ++ (body ++ rest)) slot ms ⊎ O
  one_arm (inl f) tests body rest slot ms O first second = inl (first_back v F tests (body ++ rest) slot ms (first_front v F body rest slot ms (first f)))
  one_arm {A} {B} (inr f) tests body rest slot ms O first second = go (second f)
    where
      go : FirstIs v F rest slot ms ⊎ O → FirstIs v F (tests ++ (body ++ rest)) slot ms ⊎ O
      go (inl g) = inl (first_back v F tests (body ++ rest) slot ms (first_back v F body rest slot ms g))
      go (inr g) = inr g

  module _ (tcalls : TermCalls) (opened : Opened) (routines : List Routine) (inner : CallsFirst tcalls opened routines) where
    call_first : (ts : Typing) (sc : Scope) (site : Site) (T : Terms) (k : ℕ) (args : Arguments) (at : _) → Tie v F ts sc site → ts.routines ≡ routines → option_map_or (λ r. not (is_some r.result) && arguments_fit ts r.formals args) (slice_get ts.routines k) false ≡ true
        → (owner : _) (path : _) (key : _) (ms : Marks) → (tcalls k site T (argued_of tcalls site T args).given).change.first (Family owner path key) ≡ Some ms → FirstIs v F (argument_reads opened sc args ++ from_call at (opened k (called_scope sc (stands_of sc args)))) (Family owner path key) ms
    call_first ts sc site T k args at tie same fits owner path key ms e =
        let (r, (found, fit)) = procedure_there ts k args fits in
        first_back v F (argument_reads opened sc args) (from_call at (opened k (called_scope sc (stands_of sc args)))) (Family owner path key) ms
        (first_called v F at (opened k (called_scope sc (stands_of sc args))) (Family owner path key) ms
        (inner k r sc (stands_of sc args) site T ((argued_of tcalls site T args).given) (subst (λ rs. slice_get rs k ≡ Some r) same found) tie.near tie.depth tie.below
        (arguments_tie v F ts sc site tie tcalls T r.formals args fit) (argument_nodes v F ts sc site tie r.formals args fit) (Family owner path key) ms e))

    mutual
      unfolding done_by accesses stmt_fits

      pub stmt_first : (stmt : Stmt) (ts : Typing) (sc : Scope) (site : Site) (T : Terms) → Tie v F ts sc site → ts.routines ≡ routines → stmt_fits ts stmt ≡ true → (slot : Slot) (ms : Marks) → (done_by tcalls site T stmt).change.first slot ≡ Some ms → FirstIs v F (accesses opened sc stmt) slot ms
      stmt_first (st.Block' _ body) ts sc site T tie same fits slot ms e = row_first body ts sc site T tie same fits slot ms e
      stmt_first (st.Assign to into body) ts sc site T tie same fits slot ms e =
          let (may, rest) = and_parts (may_write ts (root_of to)) (is_cell_of into (place_type ts to) && is_of into (type_of ts body)) fits in
          let (cell, value) = and_parts (is_cell_of into (place_type ts to)) (is_of into (type_of ts body)) rest in
          write_first site.frame T _ _ sc to _ (place_tie v F ts sc site tie tcalls T to (cell_some into (place_type ts to) cell)) slot ms e
      stmt_first (st.Copy to into from) ts sc site T tie same fits slot ms e =
          let (may, rest) = and_parts (may_write ts (root_of to)) (is_cell_of into (place_type ts to) && holds_values_of into (place_type ts from)) fits in
          let (cell, value) = and_parts (is_cell_of into (place_type ts to)) (holds_values_of into (place_type ts from)) rest in
          write_first site.frame T _ _ sc to _ (place_tie v F ts sc site tie tcalls T to (cell_some into (place_type ts to) cell)) slot ms e
      stmt_first (st.CopyAll to from) ts sc site T tie same fits slot ms e =
          let (may, alike) = and_parts (may_write ts (root_of to)) (are_alike (place_type ts to) (place_type ts from)) fits in
          write_first site.frame T _ _ sc to _ (place_tie v F ts sc site tie tcalls T to (alike_some (place_type ts to) (place_type ts from) alike)) slot ms e
      stmt_first (st.Call k args at) ts sc site T tie same fits (Family owner path key) ms e =
          call_first ts sc site T k args at tie same (and_parts (not (is_function ts.exit)) (option_map_or (λ r. not (is_some r.result) && arguments_fit ts r.formals args) (slice_get ts.routines k) false) fits).1 owner path key ms e
      stmt_first (st.Call k args at) ts sc site T tie same fits Leaving ms e = not_some e
      stmt_first (st.Call k args at) ts sc site T tie same fits Result ms e = not_some e
      stmt_first (st.If' _ arms _ otherwise at) ts sc site T tie same fits slot ms e =
          let (a, o) = and_parts (arms_fit ts arms) (body_fits ts otherwise) fits in
          pick (arm_accesses opened sc arms) (all_accesses opened sc otherwise) slot ms (arms_first arms ts sc site T (all_done tcalls site T otherwise) tie same a slot ms e) (λ f. row_first otherwise ts sc site T tie same o slot ms f)
      stmt_first (st.Switch' on _ cases _ otherwise at) ts sc site T tie same fits slot ms e =
          let (one, rest) = and_parts (is_some (type_of ts on)) (cases_fit ts (type_of ts on) cases && body_fits ts otherwise) fits in
          let (c, o) = and_parts (cases_fit ts (type_of ts on) cases) (body_fits ts otherwise) rest in
          first_back v F (reads opened sc on) (case_accesses opened sc cases ++ all_accesses opened sc otherwise) slot ms
          (pick (case_accesses opened sc cases) (all_accesses opened sc otherwise) slot ms (cases_first cases ts sc site T (valued_of tcalls site T on).term (type_of ts on) (all_done tcalls site T otherwise) tie same c slot ms e) (λ f. row_first otherwise ts sc site T tie same o slot ms f))
      stmt_first (st.For' simple.Node _ body at) ts sc site T tie same fits slot ms e =
          row_first body (typing_inside ts simple.Node) (binding sc) (with_variable site) (under_variable site.frame T) (tie_node v F ts sc site simple.Node tie) same fits slot ms
          (loop_first (own_axis site.frame (all_done tcalls (with_variable site) (under_variable site.frame T) body).change slot) ((all_done tcalls (with_variable site) (under_variable site.frame T) body).change.first slot) ms e)
      stmt_first (st.For' simple.Truth _ body at) ts sc site T tie same fits slot ms e =
          turns_first (λ w T. all_done tcalls (with_value site w) T body) (all_accesses opened (binding sc) body) slot ms
          (λ w U f. row_first body (typing_inside ts simple.Truth) (binding sc) (with_value site w) U (tie_value v F ts sc site simple.Truth w tie) same fits slot ms f) (fixed_values simple.Truth) T e
      stmt_first (st.For' (simple.Range low high) _ body at) ts sc site T tie same fits slot ms e =
          let (fine, rest) = and_parts (is_simple_type ts.kinds (simple.Range low high)) (body_fits (typing_inside ts (simple.Range low high)) body) fits in
          turns_first (λ w T. all_done tcalls (with_value site w) T body) (all_accesses opened (binding sc) body) slot ms
          (λ w U f. row_first body (typing_inside ts (simple.Range low high)) (binding sc) (with_value site w) U (tie_value v F ts sc site (simple.Range low high) w tie) same rest slot ms f) (fixed_values (simple.Range low high)) T e
      stmt_first (st.For' (simple.Listed kind count) _ body at) ts sc site T tie same fits slot ms e =
          let (fine, rest) = and_parts (is_simple_type ts.kinds (simple.Listed kind count)) (body_fits (typing_inside ts (simple.Listed kind count)) body) fits in
          turns_first (λ w T. all_done tcalls (with_value site w) T body) (all_accesses opened (binding sc) body) slot ms
          (λ w U f. row_first body (typing_inside ts (simple.Listed kind count)) (binding sc) (with_value site w) U (tie_value v F ts sc site (simple.Listed kind count) w tie) same rest slot ms f) (fixed_values (simple.Listed kind count)) T e
      stmt_first (st.For' (simple.Scalarset kind count) _ body at) ts sc site T tie same fits slot ms e =
          let (fine, rest) = and_parts (is_simple_type ts.kinds (simple.Scalarset kind count)) (body_fits (typing_inside ts (simple.Scalarset kind count)) body) fits in
          turns_first (λ w T. all_done tcalls (with_value site w) T body) (all_accesses opened (binding sc) body) slot ms
          (λ w U f. row_first body (typing_inside ts (simple.Scalarset kind count)) (binding sc) (with_value site w) U (tie_value v F ts sc site (simple.Scalarset kind count) w tie) same rest slot ms f) (fixed_values (simple.Scalarset kind count)) T e
      stmt_first (st.Clear place of at) ts sc site T tie same fits slot ms e =
          let (may, rest) = and_parts (may_write ts (root_of place)) (is_type ts.kinds of && option_map_or (same_type of) (place_type ts place) false) fits in
          let (fine, typed) = and_parts (is_type ts.kinds of) (option_map_or (same_type of) (place_type ts place) false) rest in
          write_first site.frame T _ _ sc place _ (place_tie v F ts sc site tie tcalls T place (type_some of (place_type ts place) typed)) slot ms e
      stmt_first (st.Undefine place at) ts sc site T tie same fits slot ms e =
          let (may, typed) = and_parts (may_write ts (root_of place)) (is_some (place_type ts place)) fits in
          write_first site.frame T _ _ sc place _ (place_tie v F ts sc site tie tcalls T place typed) slot ms e
      stmt_first (st.Error at) ts sc site T tie same fits slot ms e = not_some e
      stmt_first (st.Assert test at) ts sc site T tie same fits slot ms e = not_some e
      stmt_first (st.PutText at) ts sc site T tie same fits slot ms e = not_some e
      stmt_first (st.Put shown at) ts sc site T tie same fits slot ms e = not_some e
      stmt_first (st.Leave at) ts sc site T tie same fits (Family owner path key) ms e = not_some e
      stmt_first (st.Leave at) ts sc site T tie same fits Leaving ms e = sym (some_one e)
      stmt_first (st.Leave at) ts sc site T tie same fits Result ms e = not_some e
      stmt_first (st.Return body at) ts sc site T tie same fits (Family owner path key) ms e = not_some e
      stmt_first (st.Return body at) ts sc site T tie same fits Leaving ms e = sym (some_one e)
      stmt_first (st.Return body at) ts sc site T tie same fits Result ms e = sym (some_one e)

      pub row_first : {n : _} (body : Row_of-Stmt n) (ts : Typing) (sc : Scope) (site : Site) (T : Terms) → Tie v F ts sc site → ts.routines ≡ routines → body_fits ts body ≡ true → (slot : Slot) (ms : Marks) → (all_done tcalls site T body).change.first slot ≡ Some ms → FirstIs v F (all_accesses opened sc body) slot ms
      row_first end_of-Stmt ts sc site T tie same fits slot ms e = not_some e
      row_first (more_of-Stmt first rest) ts sc site T tie same fits slot ms e =
          let (f, r) = and_parts (stmt_fits ts first) (body_fits ts rest) fits in
          two ((taken site T (done_by tcalls site T first)).change.first slot) ((all_done tcalls site ((taken site T (done_by tcalls site T first)).change.now) rest).change.first slot) (accesses opened sc first) (all_accesses opened sc rest) slot ms e
          (λ g. stmt_first first ts sc site T tie same f slot ms (taken_first site T (done_by tcalls site T first) slot ms g))
          (λ g. row_first rest ts sc site ((taken site T (done_by tcalls site T first)).change.now) tie same r slot ms g)

      arms_first : {n : _} (arms : Row_of-Arm n) (ts : Typing) (sc : Scope) (site : Site) (T : Terms) (otherwise : Done) → Tie v F ts sc site → ts.routines ≡ routines → arms_fit ts arms ≡ true → (slot : Slot) (ms : Marks) → first_of_branches slot (arms_done tcalls site T arms otherwise).branches (arms_done tcalls site T arms otherwise).otherwise ≡ Some ms → FirstIs v F (arm_accesses opened sc arms) slot ms ⊎ (otherwise.change.first slot ≡ Some ms)
      arms_first end_of-Arm ts sc site T otherwise tie same fits slot ms e = inr e
      arms_first (more_of-Arm test _ body rest) ts sc site T otherwise tie same fits slot ms e =
          let (t, more) = and_parts (is_of simple.Truth (type_of ts test)) (body_fits ts body && arms_fit ts rest) fits in
          let (b, r) = and_parts (body_fits ts body) (arms_fit ts rest) more in
          one_arm (either_some ((all_done tcalls site T body).change.first slot) (first_of_branches slot (arms_done tcalls site T rest otherwise).branches (arms_done tcalls site T rest otherwise).otherwise) ms e)
          (reads opened sc test) (all_accesses opened sc body) (arm_accesses opened sc rest) slot ms (otherwise.change.first slot ≡ Some ms)
          (λ g. row_first body ts sc site T tie same b slot ms g) (λ g. arms_first rest ts sc site T otherwise tie same r slot ms g)

      cases_first : {n : _} (cases : Row_of-Case n) (ts : Typing) (sc : Scope) (site : Site) (T : Terms) (on : Term) (u : Option Simple) (otherwise : Done) → Tie v F ts sc site → ts.routines ≡ routines → cases_fit ts u cases ≡ true → (slot : Slot) (ms : Marks) → first_of_branches slot (cases_done tcalls site T on cases otherwise).branches (cases_done tcalls site T on cases otherwise).otherwise ≡ Some ms → FirstIs v F (case_accesses opened sc cases) slot ms ⊎ (otherwise.change.first slot ≡ Some ms)
      cases_first end_of-Case ts sc site T on u otherwise tie same fits slot ms e = inr e
      cases_first (more_of-Case labels _ body rest) ts sc site T on u otherwise tie same fits slot ms e =
          let (l, more) = and_parts (labels_fit ts u labels) (body_fits ts body && cases_fit ts u rest) fits in
          let (b, r) = and_parts (body_fits ts body) (cases_fit ts u rest) more in
          one_arm (either_some ((all_done tcalls site T body).change.first slot) (first_of_branches slot (cases_done tcalls site T on rest otherwise).branches (cases_done tcalls site T on rest otherwise).otherwise) ms e)
          (flat_map (reads opened sc) labels) (all_accesses opened sc body) (case_accesses opened sc rest) slot ms (otherwise.change.first slot ≡ Some ms)
          (λ g. row_first body ts sc site T tie same b slot ms g) (λ g. cases_first rest ts sc site T on u otherwise tie same r slot ms g)

  -- the tie at the entry of a routine
  entry_tie : (P : Typed) (earlier : List Routine) (r : Routine) (sc : Scope) (stands : List Stand) (site : Site) (result : Option Simple) (gifts : List Gift) → v.depth ≤ sc.depth → site.depth ≡ sc.depth → F < site.frame → GiftTies v F gifts stands
      → ((j : ℕ) → is_it v (stand_mark (slice_get stands j)) ≡ true → formal_type false (slice_get r.formals j) ≡ Some (type.Simple simple.Node))
      → Tie v F (routine_scope P earlier r) (called_scope sc stands) (called_site site result gifts)
  entry_tie P earlier r sc stands site result gifts near depth below ties nodes = record {
    depth = ap suc depth;
    near = omega (arith, near);
    before = λ e. absurd (omega (arith, near, e));
    below = below;
    long = refl;
    bound = λ k. sym (deeper k);
    node = λ k is. absurd_false (sym (deeper k) ∙ is);
    formals = ties;
    nodes = nodes;
  }
    where
      deeper : (k : ℕ) → (nat_eq v.depth (suc sc.depth) && nat_eq v.number k) ≡ false
      deeper k = go (nat_eq v.depth (suc sc.depth)) refl
        where
          go : (b : Bool) → nat_eq v.depth (suc sc.depth) ≡ b → (b && nat_eq v.number k) ≡ false
          go true was = absurd (grind (arith, was, near))
          go false was = refl

  pub calls_first : (P : Typed) (tail : List Routine) → LatestFit P tail → CallsFirst (calls_in tail) (opened_in tail) (reverse tail)
  calls_first P [] known k r sc stands site T gifts found near depth below ties nodes slot ms e = not_some found
  calls_first P (r0 ∷ earlier) (fits, known) k r sc stands site T gifts found near depth below ties nodes slot ms e =
      found_in r0 r earlier k found
      (λ here same. at_this (nat_eq k (length earlier)) here same e (calls_first P earlier known))
      (λ there found'. at_earlier (nat_eq k (length earlier)) there e (calls_first P earlier known k r sc stands site T gifts found' near depth below ties nodes slot ms))
    where
      at_this : (b : Bool) → b ≡ true → r0 ≡ r → (if b then called (calls_in earlier) r0 site T gifts else calls_in earlier k site T gifts).change.first slot ≡ Some ms → CallsFirst (calls_in earlier) (opened_in earlier) (reverse earlier) → FirstIs v F (if b then accesses (opened_in earlier) (called_scope sc stands) r0.body else opened_in earlier k (called_scope sc stands)) slot ms
      at_this false is same e inner = absurd_false is
      at_this true is same e inner =
          stmt_first (calls_in earlier) (opened_in earlier) (reverse earlier) inner r0.body (routine_scope P (reverse earlier) r0) (called_scope sc stands) (called_site site r0.result gifts) _
          (entry_tie P (reverse earlier) r0 sc stands site r0.result gifts near depth below ties (λ j is. ap (λ (q : Routine). formal_type false (slice_get q.formals j)) same ∙ nodes j is)) refl (body_fits_in P (reverse earlier) r0 fits) slot ms e

      at_earlier : (b : Bool) → b ≡ false → (if b then called (calls_in earlier) r0 site T gifts else calls_in earlier k site T gifts).change.first slot ≡ Some ms → ((calls_in earlier k site T gifts).change.first slot ≡ Some ms → FirstIs v F (opened_in earlier k (called_scope sc stands)) slot ms) → FirstIs v F (if b then accesses (opened_in earlier) (called_scope sc stands) r0.body else opened_in earlier k (called_scope sc stands)) slot ms
      at_earlier true is e again = absurd_false (sym is)
      at_earlier false is e again = again e

-- One step of N nodes is one of the abstract machine.
use Rattle.std.proofs.Common.{◌≡◌, ℕ, zero, suc, ◌-◌, Bool, true, false, ◌&&◌, cond, List, [], ◌∷◌, ◌++◌, length, map, Option, Some, None, refl, sym, ap, ◌∙◌, subst, arith}
use Rattle.std.specs.Prelude.{nat_eq, slice_get}
use Rattle.std.specs.List.{list_all, All}
use Rattle.std.specs.Option.{option_map_or}
use Rattle.std.proofs.lemmas.Bool.{and_parts}
use Rattle.std.proofs.lemmas.List.{length-map, map-append}
use Rattle.std.proofs.lemmas.List.Elements.{All-head, All-tail}
use Rattle.term_core.specs.declared.term.Term.{Term}
use Rattle.term_core.specs.declared.machine.CellFamily.{CellFamily}
use Rattle.term_core.specs.declared.machine.Update.{Update}
use Rattle.term_core.specs.declared.machine.TermRule.{TermRule}
use Rattle.term_core.specs.Nodes.{is_node}
use Rattle.term_core.specs.Variables.{fits}
use Rattle.term_core.specs.Values as values
use Rattle.term_core.specs.Cells.{State, IsState, is_cell, cell_value}
use Rattle.term_core.specs.Meaning.{value_of}
use Rattle.term_core.specs.Firing as firing
use Rattle.term_core.specs.Firing.{IsStep, Fires, update_for, new_value}
use Rattle.term_core.specs.Whole.{IsWhole, ReadsCells}
use Rattle.other_abstract.proofs.CellLemmas.{Known, cell_nodes}
use Rattle.other_abstract.specs.declared.node.AbsNode.{AbsNode}
use Rattle.other_abstract.specs.declared.value.AbsValue.TheVariants as a
use Rattle.other_abstract.specs.Windows.{is_in_window}
use Rattle.term_core.specs.Cells.{table, table_value}
use Rattle.other_abstract.specs.May.{value_at, May, MayBe}
use Rattle.lemma_strengthen.specs.Opening.{HoldsForAll}
use Rattle.lemma_strengthen.specs.declared.formula.Formula.{Formula}
use Rattle.other_abstract.specs.declared.machine.AbstractMachine.{AbstractMachine}
use Rattle.other_abstract.specs.Machines.{window, fired_of, IsPattern, FitsWindow, read_kept, kept_part, MayHold, MayBecome, IsAbsStep, AbsFires, AllHold, FormulasFit}
use Rattle.other_abstract.specs.Images.{are_distinct, IsChoice, node_at, renamed_node, renamed, window_of, image, extended, pattern_of}
use Rattle.other_abstract.proofs.ImageLemmas.{chosen_node, table_there, image_value, names_chosen}
use Rattle.other_abstract.proofs.CoverLemmas.{covers, truth_renamed}
use Rattle.other_abstract.proofs.ChoiceLemmas.{kept_renamed, extends, numbered}
use Rattle.other_abstract.proofs.WindowLemmas.{image_fits, kept_image, kept_names, cell_of_nodes}

some_is : {X : Type 0} {a b : X} → Some a ≡ Some b → a ≡ b
some_is e = cc

pub all_get : {X : Type 0} (P : X → Type 0) (xs : List X) (k : ℕ) (x : X) → All P xs → slice_get xs k ≡ Some x → P x
all_get P [] k x all e = cc
all_get P (y ∷ ys) zero x all e = subst P (some_is e) (All-head P y ys all)
all_get P (y ∷ ys) (suc k) x all e = all_get P ys k x (All-tail P y ys all) e

pub update_fits : (families : List CellFamily) (us : List Update) (f : ℕ) (body : Term) → All (λ u. fits families u.body ≡ true) us → update_for us f ≡ Some body → fits families body ≡ true
update_fits families [] f body all e = cc
update_fits families (u ∷ us) f body all e = go (nat_eq u.family f) e (λ q. update_fits families us f body (All-tail (λ u. fits families u.body ≡ true) u us all) q)
  where
    go : (b : Bool) → cond b (Some u.body) (update_for us f) ≡ Some body → (update_for us f ≡ Some body → fits families body ≡ true) → fits families body ≡ true
    go true q rest = ap (fits families) (sym (some_is q)) ∙ All-head (λ u. fits families u.body ≡ true) u us all
    go false q rest = rest q

-- nodes of the window name nodes of the choice
pub record Named (N m : ℕ) (c : List ℕ) (ns : List AbsNode) : Type 0 where
  pub nodes : List ℕ
  pub names : map (renamed_node m c) nodes ≡ ns
  pub are : list_all (is_node N) nodes ≡ true

pub named_list : (N m : ℕ) (families : List CellFamily) (c : List ℕ) (ns : List AbsNode) → IsChoice N m c → list_all (is_in_window (window_of m families c)) ns ≡ true → Named N m c ns
named_list N m families c [] choice all = record { nodes = []; names = refl; are = refl }
named_list N m families c (n ∷ ns) choice all =
    let p = and_parts (is_in_window (window_of m families c) n) (list_all (is_in_window (window_of m families c)) ns) all in
    let x = names_chosen m families c n choice.once choice.kept p.0 in
    let r = named_list N m families c ns choice p.1 in
    record {
      nodes = x.node ∷ r.nodes;
      names = ap (λ y. y ∷ map (renamed_node m c) r.nodes) x.named ∙ ap (λ ys. n ∷ ys) r.names;
      are = ap (λ b. b && list_all (is_node N) r.nodes) (chosen_node N c x.node choice.nodes x.chosen) ∙ r.are;
    }

module _ (laws : Known) where
  -- the truth of a term may be had
  pub truth_covers : (N m : ℕ) (families : List CellFamily) (c : List ℕ) (s : State) (frame : List ℕ) (env : List AbsNode) (x : Term) (b : Bool) → IsChoice N m c → IsState N families s → fits families x ≡ true → map (renamed_node m c) frame ≡ env → values.truth (value_of N (cell_value N families s) frame x) ≡ b
      → MayBe b (May (window_of m families c) (image m families c (cell_value N families s)) env x)
  truth_covers N m families c s frame env x b choice state fit names was = (
    renamed m c (value_of N (cell_value N families s) frame x),
    subst (λ e. May (window_of m families c) (image m families c (cell_value N families s)) e x (renamed m c (value_of N (cell_value N families s) frame x))) names (covers laws N m families c s choice state frame x fit),
    truth_renamed m c (value_of N (cell_value N families s) frame x) ∙ was,
  )

  -- where a formula holds for all nodes, it may hold in each image
  pub hold_covers : (N m : ℕ) (families : List CellFamily) (c : List ℕ) (s : State) (f : Formula) → IsChoice N m c → IsState N families s → fits families f.body ≡ true → HoldsForAll N (cell_value N families s) f.prefix f.body
      → MayHold (window_of m families c) (image m families c (cell_value N families s)) f
  hold_covers N m families c s f choice state fit all ns count are =
      let n = named_list N m families c ns choice are in
      truth_covers N m families c s n.nodes ns f.body true choice state fit n.names (all n.nodes (sym (length-map n.nodes (renamed_node m c)) ∙ ap length n.names ∙ count) n.are)

  -- what a cell becomes
  becomes_covers : (N m : ℕ) (families : List CellFamily) (c more : List ℕ) (s : State) (p : List ℕ) (u : Option Term) (f : ℕ) (at : List ℕ) → IsChoice N m (c ++ more) → IsState N families s → length c ≡ m → are_distinct c ≡ true
      → ((body : Term) → u ≡ Some body → fits families body ≡ true) → list_all (is_node m) at ≡ true
      → MayBecome (window_of m families (c ++ more)) (image m families (c ++ more) (cell_value N families s)) (map (renamed_node m (c ++ more)) p) u f at
      (renamed m c (option_map_or (λ body. value_of N (cell_value N families s) (p ++ map (node_at c) at) body) u (cell_value N families s f (map (node_at c) at))))
  becomes_covers N m families c more s p (Some body) f at choice state long once fit within =
      let k = kept_names laws N m c more at choice long once within in
      let x = value_of N (cell_value N families s) (p ++ map (node_at c) at) body in (
        renamed m (c ++ more) x,
        subst (λ e. May (window_of m families (c ++ more)) (image m families (c ++ more) (cell_value N families s)) e body (renamed m (c ++ more) x))
            (map-append (renamed_node m (c ++ more)) p (map (node_at c) at) ∙ ap (λ ns. map (renamed_node m (c ++ more)) p ++ ns) (sym k.0))
            (covers laws N m families (c ++ more) s choice state (p ++ map (node_at c) at) body (fit body refl)),
        sym (kept_renamed c more m x long),
      )
  becomes_covers N m families c more s p None f at choice state long once fit within =
      let k = kept_names laws N m c more at choice long once within in
      sym (kept_renamed c more m (cell_value N families s f (map (node_at c) at)) long)
      ∙ ap read_kept (sym (image_value laws N m families (c ++ more) s f (map (node_at c) at) choice.kept k.1))
      ∙ ap (λ ns. read_kept (value_at (window_of m families (c ++ more)) (image m families (c ++ more) (cell_value N families s)) f ns)) (sym k.0)

  -- a cell of an image
  pub image_there : (N m : ℕ) (families : List CellFamily) (c : List ℕ) (t : State) (f : ℕ) (at : List ℕ) → length c ≡ m → is_cell m families f at ≡ true → table_value m families a.Undefined (image m families c (cell_value N families t)) f at ≡ renamed m c (cell_value N families t f (map (node_at c) at))
  image_there N m families c t f at long is =
      ap (λ k. table_value m families a.Undefined (table k families (λ f at. renamed m c (cell_value N families t f (map (node_at c) at)))) f at) long
      ∙ table_there laws m families a.Undefined (λ f at. renamed m c (cell_value N families t f (map (node_at c) at))) f at is

  step_in : (N : ℕ) (M : AbstractMachine) (c more p : List ℕ) (s t : State) (r : TermRule) (k : ℕ) → IsWhole M.machine → FormulasFit M → IsChoice N M.kept c → length c ≡ M.kept → IsState N M.machine.families s → AllHold N M s
      → slice_get M.machine.rules k ≡ Some r → firing.IsChoice N r p → IsStep N M.machine.families s r p t
      → IsChoice N M.kept (c ++ more) → IsPattern M.kept r (map (renamed_node M.kept (c ++ more)) p) → fired_of (map (renamed_node M.kept (c ++ more)) p) ≡ length (c ++ more) - M.kept
      → IsAbsStep M (image M.kept M.machine.families c (cell_value N M.machine.families s)) r (map (renamed_node M.kept (c ++ more)) p) (image M.kept M.machine.families (c ++ more) (cell_value N M.machine.families s)) (image M.kept M.machine.families c (cell_value N M.machine.families t))
  step_in N M c more p s t r k whole fit choice long state all at nodes step wider pattern fired =
      let m = M.kept in
      let families = M.machine.families in
      let reads : ReadsCells families r = all_get (λ r. ReadsCells families r) M.machine.rules k r whole.reads.1 at in
      let w = image m families (c ++ more) (cell_value N families s) in
      let q = map (renamed_node m (c ++ more)) p in
      record {
        pattern = pattern;
        wide = subst (λ k. FitsWindow (window M k) w) (sym fired) (image_fits laws N m families (c ++ more) s wider state);
        next = subst (λ k. FitsWindow (window M k) (image m families c (cell_value N families t))) (let e : length c - m ≡ 0 = omega (arith, long) in e) (image_fits laws N m families c t choice (laws.next N families s r p t state step));
        before = subst (λ k. image m families c (cell_value N families s) ≡ kept_part (window M k) w) (sym fired) (sym (kept_image laws N m families c more s wider long choice.once));
        assumed = λ j f is. subst (λ k. MayHold (window M k) w f) (sym fired) (hold_covers N m families (c ++ more) s f wider state (fit j f is) (all j f is));
        guard = subst (λ k. MayBe true (May (window M k) w q r.guard)) (sym fired) (truth_covers N m families (c ++ more) s p q r.guard true wider state reads.guard refl step.enabled);
        becomes = λ f at is. subst (λ k. MayBecome (window M k) w q (update_for r.updates f) f at (table_value m families a.Undefined (image m families c (cell_value N families t)) f at)) (sym fired)
            (subst (λ y. MayBecome (window_of m families (c ++ more)) w q (update_for r.updates f) f at y)
            (ap (renamed m c) (sym (laws.stepped N families s r p t f (map (node_at c) at) step (cell_of_nodes laws N families c f at choice.nodes (subst (λ j. is_cell j families f at ≡ true) (sym long) is)))) ∙ sym (image_there N m families c t f at long is))
            (becomes_covers N m families c more s p (update_for r.updates f) f at wider state long choice.once (λ body e. update_fits families r.updates f body reads.updates e) (cell_nodes m families f at is)));
      }

  -- a step of N nodes, seen through any choice of kept nodes
  pub step_covered : (N : ℕ) (M : AbstractMachine) (c p : List ℕ) (s t : State) (k : ℕ) → IsWhole M.machine → FormulasFit M → IsChoice N M.kept c → length c ≡ M.kept → IsState N M.machine.families s → AllHold N M s → Fires N M.machine s k p t
      → AbsFires M (image M.kept M.machine.families c (cell_value N M.machine.families s)) k (pattern_of M.kept c p) (image M.kept M.machine.families (extended c p) (cell_value N M.machine.families s)) (image M.kept M.machine.families c (cell_value N M.machine.families t))
  step_covered N M c p s t k whole fit choice long state all (r, at, nodes, step) =
      let m = M.kept in
      let e = extends N m c p choice nodes.nodes in
      let n = numbered N m 0 c p choice nodes.nodes (omega (arith, long)) in
      let q : IsPattern m r (pattern_of m c p) = record { count = length-map p (renamed_node m (extended c p)) ∙ nodes.count; numbered = n.numbered } in (
        r,
        at,
        subst (λ d. IsAbsStep M (image m M.machine.families c (cell_value N M.machine.families s)) r (map (renamed_node m d) p) (image m M.machine.families d (cell_value N M.machine.families s)) (image m M.machine.families c (cell_value N M.machine.families t))) (sym e.is)
            (step_in N M c e.more p s t r k whole fit choice long state all at nodes step (subst (λ d. IsChoice N m d) e.is e.choice) (subst (λ d. IsPattern m r (map (renamed_node m d) p)) e.is q) (subst (λ d. fired_of (map (renamed_node m d) p) ≡ length d - m) e.is n.fired_is)),
      )

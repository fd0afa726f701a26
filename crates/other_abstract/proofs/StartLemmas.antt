-- Starts of N nodes are starts of the abstract machine.
use Rattle.std.proofs.Common.{◌≡◌, ℕ, ◌+◌, ◌-◌, ◌<◌, Bool, true, false, ◌&&◌, cond, List, [], ◌∷◌, ◌++◌, length, map, Option, Some, None, refl, sym, ap, ◌∙◌, subst, arith}
use Rattle.std.specs.Prelude.{nat_lt, slice_get}
use Rattle.std.specs.List.{list_all}
use Rattle.std.specs.Option.{option_map_or}
use Rattle.std.proofs.lemmas.Bool.{and_parts}
use Rattle.std.proofs.lemmas.List.{length-map, map-append}
use Rattle.std.proofs.lemmas.List.Folds.{list_all-append}
use Rattle.term_core.specs.declared.value.Value.{Value}
use Rattle.term_core.specs.declared.value.Value.TheVariants as v
use Rattle.term_core.specs.declared.value.Sort.{Sort}
use Rattle.term_core.specs.declared.value.Sort.TheVariants as sort
use Rattle.term_core.specs.declared.term.Term as t
use Rattle.term_core.specs.declared.term.Term.{Term, Row_of-Term, end_of-Term, more_of-Term}
use Rattle.term_core.specs.Forms.{NotForm, IfForm, SameForm, LessForm, ArithForm, QuantifiedForm}
use Rattle.term_core.specs.declared.machine.CellFamily.{CellFamily}
use Rattle.term_core.specs.declared.machine.TermRule.{TermRule}
use Rattle.term_core.specs.declared.machine.Piece.{Piece}
use Rattle.term_core.specs.Nodes.{is_node}
use Rattle.term_core.specs.Variables.{fits, is_no_node}
use Rattle.term_core.specs.Values as values
use Rattle.term_core.specs.Cells.{State, IsState, is_cell, cell_value, blank_state}
use Rattle.term_core.specs.Cells as cells
use Rattle.term_core.specs.Meaning.{value_of, row_indices, cell_at, bound_node}
use Rattle.term_core.specs.Firing as firing
use Rattle.term_core.specs.Firing.{Starts, update_for, new_value, start_state, start_value, IsFalseFor}
use Rattle.term_core.specs.Whole.{IsWhole, ReadsCells}
use Rattle.other_abstract.proofs.CellLemmas.{Known, cell_nodes, no_cell_value}
use Rattle.other_abstract.specs.declared.node.AbsNode.TheVariants.{Kept}
use Rattle.other_abstract.specs.declared.value.AbsValue.TheVariants as a
use Rattle.other_abstract.specs.Windows.{numbered_node, is_in_window, is_of_sort, may_have, family_may_have}
use Rattle.term_core.specs.Cells.{table, table_value}
use Rattle.other_abstract.specs.May.{May, MayBe}
use Rattle.other_abstract.specs.declared.machine.AbstractMachine.{AbstractMachine}
use Rattle.other_abstract.specs.Machines.{window, fired_of, IsPattern, FitsWindow, blank, blank_of, settled, MayStart, IsAbsStart, AbsStarts, MayFault}
use Rattle.other_abstract.specs.Images.{is_chosen, place_in, IsChoice, node_at, renamed_node, renamed, window_of, image, extended, pattern_of}
use Rattle.other_abstract.proofs.ImageLemmas.{table_there, named_in, place_bound}
use Rattle.other_abstract.proofs.NodeLemmas.{frame_node, get_some_below}
use Rattle.other_abstract.proofs.CoverLemmas.{covers}
use Rattle.other_abstract.proofs.ChoiceLemmas.{kept_renamed, extends, numbered, place_first}
use Rattle.other_abstract.proofs.WindowLemmas.{image_fits, kept_names, cell_of_nodes, may_have_renamed, blank_image}
use Rattle.other_abstract.proofs.SimulationLemmas.{all_get, update_fits, image_there, truth_covers}

-- a value is no foreign node
abbrev pub is_home : ℕ → Value → Bool
is_home N (v.Node n) = is_node N n
is_home N x = true

home_if : (N : ℕ) (b : Bool) (x y : Value) → is_home N x ≡ true → is_home N y ≡ true → is_home N (cond b x y) ≡ true
home_if N true x y f g = f
home_if N false x y f g = g

home_allowed : (N : ℕ) (families : List CellFamily) (f : ℕ) (x : Value) → cells.may_have N families f x ≡ true → is_home N x ≡ true
home_allowed N families f x h = go (slice_get families f) x h
  where
    of_sort : (q : Sort) (n : ℕ) → values.is_of_sort N q (v.Node n) ≡ true → is_node N n ≡ true
    of_sort sort.Node n h = h
    of_sort sort.Truth n h = cc
    of_sort (sort.Range low high) n h = cc
    of_sort (sort.Members k c) n h = cc

    go : (o : Option CellFamily) (x : Value) → option_map_or (λ family. cells.family_may_have N family x) o false ≡ true → is_home N x ≡ true
    go None x h = cc
    go (Some family) v.Undefined h = refl
    go (Some family) (v.Truth b) h = refl
    go (Some family) (v.Number z) h = refl
    go (Some family) (v.Member k i) h = refl
    go (Some family) (v.Node n) h = of_sort family.sort n h

home_known : (N : ℕ) (x : Value) → is_no_node x ≡ true → is_home N x ≡ true
home_known N v.Undefined h = refl
home_known N (v.Truth b) h = refl
home_known N (v.Number z) h = refl
home_known N (v.Member k i) h = refl
home_known N (v.Node n) h = cc

home_variable : (N : ℕ) (frame : List ℕ) (k : ℕ) → list_all (is_node N) frame ≡ true → is_home N (bound_node frame k) ≡ true
home_variable N frame k are = go (slice_get frame k) refl
  where
    some_is : {a b : ℕ} → Some a ≡ Some b → a ≡ b
    some_is e = cc

    go : (o : Option ℕ) → slice_get frame k ≡ o → is_home N (option_map_or v.Node o v.Undefined) ≡ true
    go None e = refl
    go (Some n) e = let r = frame_node N frame k are (get_some_below frame k n e) in ap (is_node N) (some_is (sym e ∙ r.there)) ∙ r.is

-- a term that fits has no foreign node as value
pub value_home : (N : ℕ) (families : List CellFamily) (s : State) (frame : List ℕ) (x : Term) → IsState N families s → list_all (is_node N) frame ≡ true → fits families x ≡ true → is_home N (value_of N (cell_value N families s) frame x) ≡ true
unfolding value_of fits
value_home N families s frame (t.Known x) state are fit = home_known N x fit
value_home N families s frame (t.Var k) state are fit = home_variable N frame k are
value_home N families s frame (t.Read' f _ at) state are fit = go (row_indices N (cell_value N families s) frame at)
  where
    go : (o : Option (List ℕ)) → is_home N (cell_at (cell_value N families s) f o) ≡ true
    go None = refl
    go (Some ns) = at_cell (is_cell N families f ns) refl
      where
        at_cell : (b : Bool) → is_cell N families f ns ≡ b → is_home N (cell_value N families s f ns) ≡ true
        at_cell true was = home_allowed N families f (cell_value N families s f ns) (state.values f ns was)
        at_cell false was = ap (is_home N) (sym (no_cell_value N families s f ns was))
value_home N families s frame (NotForm b) state are fit = refl
value_home N families s frame (t.And' _ parts) state are fit = refl
value_home N families s frame (t.Or' _ parts) state are fit = refl
value_home N families s frame (IfForm b d e) state are fit =
    let p = and_parts (fits families b) (fits families d && fits families e) fit in
    let q = and_parts (fits families d) (fits families e) p.1 in
    home_if N (values.truth (value_of N (cell_value N families s) frame b)) (value_of N (cell_value N families s) frame d) (value_of N (cell_value N families s) frame e) (value_home N families s frame d state are q.0) (value_home N families s frame e state are q.1)
value_home N families s frame (SameForm b d) state are fit = refl
value_home N families s frame (LessForm b d) state are fit = refl
value_home N families s frame (ArithForm op b d) state are fit = refl
value_home N families s frame (QuantifiedForm all b) state are fit = refl

-- a value that is no foreign node may be had in the window only where a cell may have it
sort_back : (N m : ℕ) (families : List CellFamily) (c : List ℕ) (q : Sort) (x : Value) → is_home N x ≡ true → is_of_sort (window_of m families c) q (renamed m c x) ≡ true → values.is_of_sort N q x ≡ true
sort_back N m families c sort.Truth (v.Truth b) home h = h
sort_back N m families c (sort.Range low high) (v.Number z) home h = h
sort_back N m families c (sort.Members k n) (v.Member l i) home h = h
sort_back N m families c sort.Node (v.Node n) home h = home
sort_back N m families c q x home h = absurd cc

may_have_back : (N m : ℕ) (families : List CellFamily) (c : List ℕ) (f : ℕ) (x : Value) → is_home N x ≡ true → may_have (window_of m families c) f (renamed m c x) ≡ true → cells.may_have N families f x ≡ true
may_have_back N m families c f x home h = go (slice_get families f) x home h
  where
    go : (o : Option CellFamily) (x : Value) → is_home N x ≡ true → option_map_or (λ family. family_may_have (window_of m families c) family (renamed m c x)) o false ≡ true → option_map_or (λ family. cells.family_may_have N family x) o false ≡ true
    go None x home h = cc
    go (Some family) v.Undefined home h = h
    go (Some family) (v.Truth b) home h = sort_back N m families c family.sort (v.Truth b) home h
    go (Some family) (v.Number z) home h = sort_back N m families c family.sort (v.Number z) home h
    go (Some family) (v.Member k i) home h = sort_back N m families c family.sort (v.Member k i) home h
    go (Some family) (v.Node n) home h = sort_back N m families c family.sort (v.Node n) home h

module _ (laws : Known) where
  settled_renamed : (N m : ℕ) (families : List CellFamily) (c : List ℕ) (f : ℕ) (x : Value) → is_home N x ≡ true → renamed m c (firing.settled N families f x) ≡ settled (window_of m families c) f (renamed m c x)
  settled_renamed N m families c f x home = go (cells.may_have N families f x) refl (may_have (window_of m families c) f (renamed m c x)) refl
    where
      go : (b : Bool) → cells.may_have N families f x ≡ b → (d : Bool) → may_have (window_of m families c) f (renamed m c x) ≡ d → renamed m c (cond b x v.Undefined) ≡ cond d (renamed m c x) a.Undefined
      go true was true is = refl
      go false was false is = refl
      go true was false is = absurd (let z : may_have (window_of m families c) f (renamed m c x) ≡ true = may_have_renamed laws N m families c f x was in cc)
      go false was true is = absurd (let z : cells.may_have N families f x ≡ true = may_have_back N m families c f x home is in cc)

  -- what a start makes of a cell
  starts_covers : (N m : ℕ) (families : List CellFamily) (c more : List ℕ) (p : List ℕ) (u : Option Term) (f : ℕ) (at : List ℕ) → IsChoice N m (c ++ more) → IsChoice N m c → IsState N families (blank_state N families) → length c ≡ m → list_all (is_node N) p ≡ true
      → ((body : Term) → u ≡ Some body → fits families body ≡ true) → is_cell m families f at ≡ true
      → MayStart (window_of m families c) (window_of m families (c ++ more)) (map (renamed_node m (c ++ more)) p) u f at
      (renamed m c (firing.settled N families f (option_map_or (λ body. value_of N (cell_value N families (blank_state N families)) (p ++ map (node_at c) at) body) u (cell_value N families (blank_state N families) f (map (node_at c) at)))))
  starts_covers N m families c more p (Some body) f at wider choice state long are fit is =
      let s = blank_state N families in
      let within = cell_nodes m families f at is in
      let k = kept_names laws N m c more at wider long choice.once within in
      let x = value_of N (cell_value N families s) (p ++ map (node_at c) at) body in
      let cell = cell_of_nodes laws N families c f at choice.nodes (subst (λ j. is_cell j families f at ≡ true) (sym long) is) in
      let nodes : list_all (is_node N) (p ++ map (node_at c) at) ≡ true = list_all-append (is_node N) p (map (node_at c) at) ∙ ap (λ b. b && list_all (is_node N) (map (node_at c) at)) are ∙ cell_nodes N families f (map (node_at c) at) cell in (
        renamed m (c ++ more) x,
        subst (λ w. May (window_of m families (c ++ more)) w (map (renamed_node m (c ++ more)) p ++ map Kept at) body (renamed m (c ++ more) x)) (blank_image laws N m families (c ++ more) wider)
            (subst (λ e. May (window_of m families (c ++ more)) (image m families (c ++ more) (cell_value N families s)) e body (renamed m (c ++ more) x))
            (map-append (renamed_node m (c ++ more)) p (map (node_at c) at) ∙ ap (λ ns. map (renamed_node m (c ++ more)) p ++ ns) (sym k.0))
            (covers laws N m families (c ++ more) s wider state (p ++ map (node_at c) at) body (fit body refl))),
        settled_renamed N m families c f x (value_home N families s (p ++ map (node_at c) at) body state nodes (fit body refl))
            ∙ ap (settled (window_of m families c) f) (sym (kept_renamed c more m x long)),
      )
  starts_covers N m families c more p None f at wider choice state long are fit is =
      let s = blank_state N families in
      let cell = cell_of_nodes laws N families c f at choice.nodes (subst (λ j. is_cell j families f at ≡ true) (sym long) is) in
      ap (λ b. renamed m c (cond b (cell_value N families s f (map (node_at c) at)) v.Undefined)) (state.values f (map (node_at c) at) cell)
      ∙ sym (image_there laws N m families c s f at long is)
      ∙ ap (λ w. table_value m families a.Undefined w f at) (blank_image laws N m families c choice)
      ∙ ap (λ k. table_value m families a.Undefined (table k families (λ f at. blank_of families f)) f at) (let e : m + (length c - m) ≡ m = omega (arith, long) in e)
      ∙ table_there laws m families a.Undefined (λ f at. blank_of families f) f at is

  start_in : (N : ℕ) (M : AbstractMachine) (c more p : List ℕ) (s : State) (r : TermRule) (k : ℕ) → IsWhole M.machine → IsChoice N M.kept c → length c ≡ M.kept → IsState N M.machine.families s
      → slice_get M.machine.starts k ≡ Some r → firing.IsChoice N r p → s ≡ start_state N M.machine.families r p
      → IsChoice N M.kept (c ++ more) → IsPattern M.kept r (map (renamed_node M.kept (c ++ more)) p) → fired_of (map (renamed_node M.kept (c ++ more)) p) ≡ length (c ++ more) - M.kept
      → IsAbsStart M r (map (renamed_node M.kept (c ++ more)) p) (image M.kept M.machine.families c (cell_value N M.machine.families s))
  start_in N M c more p s r k whole choice long state there nodes is_start wider pattern fired =
      let m = M.kept in
      let families = M.machine.families in
      let reads : ReadsCells families r = all_get (λ r. ReadsCells families r) M.machine.starts k r whole.reads.0 there in
      let q = map (renamed_node m (c ++ more)) p in
      let none : length c - m ≡ 0 = omega (arith, long) in
      record {
        pattern = pattern;
        next = subst (λ k. FitsWindow (window M k) (image m families c (cell_value N families s))) none (image_fits laws N m families c s choice state);
        becomes = λ f at is.
            let cell = cell_of_nodes laws N families c f at choice.nodes (subst (λ j. is_cell j families f at ≡ true) (sym long) is) in
            subst (λ k. MayStart (window M 0) (window M k) q (update_for r.updates f) f at (table_value m families a.Undefined (image m families c (cell_value N families s)) f at)) (sym fired)
            (subst (λ k. MayStart (window M k) (window_of m families (c ++ more)) q (update_for r.updates f) f at (table_value m families a.Undefined (image m families c (cell_value N families s)) f at)) none
            (subst (λ y. MayStart (window_of m families c) (window_of m families (c ++ more)) q (update_for r.updates f) f at y)
            (ap (renamed m c) (sym (ap (λ t. cell_value N families t f (map (node_at c) at)) is_start ∙ laws.filled N families (start_value N families r p) f (map (node_at c) at) cell)) ∙ sym (image_there laws N m families c s f at long is))
            (starts_covers N m families c more p (update_for r.updates f) f at wider choice (laws.blank_state N families whole.blanks.0) long nodes.nodes (λ body e. update_fits families r.updates f body reads.updates e) is)));
      }

  -- the same for starts
  pub start_covered : (N : ℕ) (M : AbstractMachine) (c p : List ℕ) (s : State) (k : ℕ) → IsWhole M.machine → IsChoice N M.kept c → length c ≡ M.kept → Starts N M.machine k p s
      → AbsStarts M k (pattern_of M.kept c p) (image M.kept M.machine.families c (cell_value N M.machine.families s))
  start_covered N M c p s k whole choice long (r, at, nodes, is) =
      let m = M.kept in
      let e = extends N m c p choice nodes.nodes in
      let n = numbered N m 0 c p choice nodes.nodes (omega (arith, long)) in
      let q : IsPattern m r (pattern_of m c p) = record { count = length-map p (renamed_node m (extended c p)) ∙ nodes.count; numbered = n.numbered } in (
        r,
        at,
        subst (λ d. IsAbsStart M r (map (renamed_node m d) p) (image m M.machine.families c (cell_value N M.machine.families s))) (sym e.is)
            (start_in N M c e.more p s r k whole choice long (laws.started N M.machine k p s whole (r, at, nodes, is)) at nodes is (subst (λ d. IsChoice N m d) e.is e.choice) (subst (λ d. IsPattern m r (map (renamed_node m d) p)) e.is q) (subst (λ d. fired_of (map (renamed_node m d) p) ≡ length d - m) e.is n.fired_is)),
      )

  -- chosen nodes are of the window of the choice
  pub names_in : (N m : ℕ) (families : List CellFamily) (c ns : List ℕ) → list_all (is_chosen c) ns ≡ true → list_all (is_in_window (window_of m families c)) (map (renamed_node m c) ns) ≡ true
  names_in N m families c [] chosen = refl
  names_in N m families c (n ∷ ns) chosen =
      let p = and_parts (is_chosen c n) (list_all (is_chosen c) ns) chosen in
      let low : 0 < place_in c n = (let h : nat_lt 0 (place_in c n) ≡ true = p.0 in grind (arith, h)) in
      ap (λ b. b && list_all (is_in_window (window_of m families c)) (map (renamed_node m c) ns)) (named_in m families c (place_in c n) low (place_bound c n)) ∙ names_in N m families c ns p.1

  -- chosen nodes keep their names
  names_keep : (m : ℕ) (c more ns : List ℕ) → list_all (is_chosen c) ns ≡ true → map (renamed_node m (c ++ more)) ns ≡ map (renamed_node m c) ns
  names_keep m c more [] chosen = refl
  names_keep m c more (n ∷ ns) chosen =
      let p = and_parts (is_chosen c n) (list_all (is_chosen c) ns) chosen in
      ap (λ k. numbered_node m k ∷ map (renamed_node m (c ++ more)) ns) (place_first c more n p.0) ∙ ap (λ xs. renamed_node m c n ∷ xs) (names_keep m c more ns p.1)

  -- a false piece of a start, seen through a choice that has the nodes of its binders
  pub fault_covered : (N : ℕ) (M : AbstractMachine) (c p : List ℕ) (k : ℕ) (r : TermRule) (j : ℕ) (piece : Piece) (bound : List ℕ) → IsWhole M.machine → IsChoice N M.kept c → length c ≡ M.kept → slice_get M.machine.starts k ≡ Some r → firing.IsChoice N r p
      → slice_get r.ok j ≡ Some piece → IsFalseFor N (cell_value N M.machine.families (blank_state N M.machine.families)) p piece bound → list_all (is_chosen c) bound ≡ true → MayFault M r (pattern_of M.kept c p)
  fault_covered N M c p k r j piece bound whole choice long there nodes at wrong chosen =
      let m = M.kept in
      let families = M.machine.families in
      let s = blank_state N families in
      let e = extends N m c p choice nodes.nodes in
      let n = numbered N m 0 c p choice nodes.nodes (omega (arith, long)) in
      let reads : ReadsCells families r = all_get (λ r. ReadsCells families r) M.machine.starts k r whole.reads.0 there in
      let fit : fits families piece.body ≡ true = all_get (λ (piece : Piece). fits families piece.body ≡ true) r.ok j piece reads.pieces at in
      let none : length c - m ≡ 0 = omega (arith, long) in
      record {
        index = j;
        piece = piece;
        there = at;
        nodes = map (renamed_node m c) bound;
        count = length-map bound (renamed_node m c) ∙ wrong.count;
        are = subst (λ k. list_all (is_in_window (window M k)) (map (renamed_node m c) bound) ≡ true) none (names_in N m families c bound chosen);
        false_there = subst (λ k. MayBe false (May (window M k) (blank (window M k)) (pattern_of m c p ++ map (renamed_node m c) bound) piece.body)) (sym n.fired_is)
            (subst (λ w. MayBe false (May (window_of m families (extended c p)) w (pattern_of m c p ++ map (renamed_node m c) bound) piece.body)) (blank_image laws N m families (extended c p) e.choice)
            (truth_covers laws N m families (extended c p) s (p ++ bound) (pattern_of m c p ++ map (renamed_node m c) bound) piece.body false e.choice (laws.blank_state N families whole.blanks.0) fit
            (map-append (renamed_node m (extended c p)) p bound ∙ ap (λ xs. pattern_of m c p ++ xs) (ap (λ d. map (renamed_node m d) bound) e.is ∙ names_keep m c e.more bound chosen)) wrong.false_there));
      }

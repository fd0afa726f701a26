-- Images as states of windows: they fit, their kept parts are images, and so are blank states.
use Rattle.std.proofs.Common.{◌≡◌, ℕ, zero, suc, ◌+◌, ◌-◌, ◌<◌, ◌≤◌, Bool, true, false, ◌&&◌, cond, List, [], ◌∷◌, ◌++◌, length, map, get_or, Option, Some, None, refl, sym, ap, ◌∙◌, subst, arith}
use Rattle.std.specs.Prelude.{nat_lt, nat_eq, pos, slice_get}
use Rattle.std.specs.List.{list_all}
use Rattle.std.specs.Option.{option_map_or}
use Rattle.std.proofs.lemmas.Bool.{and_parts}
use Rattle.std.proofs.lemmas.List.{length-map}
use Rattle.term_core.specs.declared.value.Value.{Value}
use Rattle.term_core.specs.declared.value.Value.TheVariants as v
use Rattle.term_core.specs.declared.machine.CellFamily.{CellFamily}
use Rattle.term_core.specs.Nodes.{is_node}
use Rattle.term_core.specs.Variables.{has_axes}
use Rattle.term_core.specs.Cells.{State, Cell, IsState, cells, is_cell, place_of, cell_value, blank_value, blank_state}
use Rattle.term_core.specs.Cells as cells
use Rattle.other_abstract.proofs.CellLemmas.{Known, is_cell_is, cell_nodes, cell_axes}
use Rattle.other_abstract.specs.declared.node.AbsNode.TheVariants.{Kept, Fired}
use Rattle.other_abstract.specs.declared.value.AbsValue.TheVariants as a
use Rattle.other_abstract.specs.Windows.{numbered_node, may_have, family_may_have}
use Rattle.term_core.specs.Cells.{table, table_value}
use Rattle.other_abstract.specs.May.{value_at}
use Rattle.other_abstract.specs.Machines.{FitsWindow, read_kept, kept_part, blank, blank_of}
use Rattle.other_abstract.specs.Images.{is_chosen, place_in, are_distinct, IsChoice, node_at, renamed_node, renamed, window_of, image}
use Rattle.other_abstract.proofs.ImageLemmas.{place_back, table_there, image_value}
use Rattle.other_abstract.proofs.CoverLemmas.{sort_renamed}
use Rattle.other_abstract.proofs.ChoiceLemmas.{kept_renamed, place_first, still_chosen}

-- functions that agree on what stands in a list map it alike
map_same : {X Y : Type 0} (g h : X → Y) (xs : List X) → ((i : ℕ) (x : X) → slice_get xs i ≡ Some x → g x ≡ h x) → map g xs ≡ map h xs
map_same g h [] same = refl
map_same g h (x ∷ xs) same = ap (λ y. y ∷ map g xs) (same 0 x refl) ∙ ap (λ ys. h x ∷ ys) (map_same g h xs (λ i y e. same (suc i) y e))

pub length-table : {X : Type 0} (n : ℕ) (fs : List CellFamily) (g : ℕ → List ℕ → X) → length (table n fs g) ≡ length (cells n fs)
length-table n fs g = length-map (cells n fs) (λ c. g c.family c.at)

module _ (laws : Known) where
  -- functions with one value at each cell make one table
  pub table_same : {X : Type 0} (n : ℕ) (fs : List CellFamily) (g h : ℕ → List ℕ → X) → ((f : ℕ) (at : List ℕ) → is_cell n fs f at ≡ true → g f at ≡ h f at) → table n fs g ≡ table n fs h
  table_same n fs g h same = map_same (λ c. g c.family c.at) (λ c. h c.family c.at) (cells n fs) (λ i c e. same c.family c.at (laws.cells_there n fs i c e).0)

  -- node indices of the window, as nodes of the state
  get_node : (N : ℕ) (c : List ℕ) (j : ℕ) → list_all (is_node N) c ≡ true → j < length c → is_node N (get_or c j 0) ≡ true
  get_node N [] j are h = absurd (omega (arith, h))
  get_node N (x ∷ xs) zero are h = (and_parts (is_node N x) (list_all (is_node N) xs) are).0
  get_node N (x ∷ xs) (suc j) are h = get_node N xs j (and_parts (is_node N x) (list_all (is_node N) xs) are).1 (omega (arith, h))

  number_below : (n k : ℕ) → is_node n k ≡ true → (1 ≤ k) × (k ≤ n)
  number_below n k h = (grind (arith, h), grind (arith, h))

  pub nodes_of : (N : ℕ) (c at : List ℕ) → list_all (is_node N) c ≡ true → list_all (is_node (length c)) at ≡ true → list_all (is_node N) (map (node_at c) at) ≡ true
  nodes_of N c [] are within = refl
  nodes_of N c (k ∷ ks) are within =
      let p = and_parts (is_node (length c) k) (list_all (is_node (length c)) ks) within in
      let b = number_below (length c) k p.0 in
      ap (λ q. q && list_all (is_node N) (map (node_at c) ks)) (get_node N c (k - 1) are (omega (arith, b.0, b.1))) ∙ nodes_of N c ks are p.1

  pub cell_of_nodes : (N : ℕ) (families : List CellFamily) (c : List ℕ) (f : ℕ) (at : List ℕ) → list_all (is_node N) c ≡ true → is_cell (length c) families f at ≡ true → is_cell N families f (map (node_at c) at) ≡ true
  cell_of_nodes N families c f at are is =
      is_cell_is N families f (map (node_at c) at)
      ∙ ap (λ b. has_axes families f (length (map (node_at c) at)) && b) (nodes_of N c at are (cell_nodes (length c) families f at is))
      ∙ ap (λ k. has_axes families f k && true) (length-map at (node_at c))
      ∙ ap (λ b. b && true) (cell_axes (length c) families f at is)

  -- kept nodes are those at their numbers
  pub kept_names : (N m : ℕ) (c more at : List ℕ) → IsChoice N m (c ++ more) → length c ≡ m → are_distinct c ≡ true → list_all (is_node m) at ≡ true
      → (map Kept at ≡ map (renamed_node m (c ++ more)) (map (node_at c) at)) × (list_all (is_chosen (c ++ more)) (map (node_at c) at) ≡ true)
  kept_names N m c more [] choice long once within = (refl, refl)
  kept_names N m c more (k ∷ ks) choice long once within =
      let p = and_parts (is_node m k) (list_all (is_node m) ks) within in
      let b = number_below m k p.0 in
      let rest = kept_names N m c more ks choice long once p.1 in
      let e : suc (k - 1) ≡ k = omega (arith, b.0) in
      let f : place_in c (node_at c k) ≡ k = place_back c (k - 1) once (omega (arith, b.0, b.1, long)) ∙ e in
      let h : is_chosen c (node_at c k) ≡ true = ap (nat_lt 0) f ∙ (let low : 1 ≤ k = b.0 in grind (arith, low)) in
      let g : place_in (c ++ more) (node_at c k) ≡ k = place_first c more (node_at c k) h ∙ f in
      let l : k - 1 < m = omega (arith, b.0, b.1) in
      let w : nat_lt (k - 1) m ≡ true = grind (arith, l) in
      let n : numbered_node m k ≡ Kept k = ap (numbered_node m) (sym e) ∙ ap (λ b. cond b (Kept (suc (k - 1))) (Fired (suc (k - 1) - m))) w ∙ ap Kept e in (
        ap (λ x. x ∷ map Kept ks) (sym (ap (numbered_node m) g ∙ n)) ∙ ap (λ xs. renamed_node m (c ++ more) (node_at c k) ∷ xs) rest.0,
        ap (λ b. b && list_all (is_chosen (c ++ more)) (map (node_at c) ks)) (still_chosen c more (node_at c k) h) ∙ rest.1,
      )

  -- a value that a cell may have is one that it may have in the window
  pub may_have_renamed : (N m : ℕ) (families : List CellFamily) (c : List ℕ) (f : ℕ) (x : Value) → cells.may_have N families f x ≡ true → may_have (window_of m families c) f (renamed m c x) ≡ true
  may_have_renamed N m families c f x h = go (slice_get families f) x h
    where
      go : (o : Option CellFamily) (x : Value) → option_map_or (λ family. cells.family_may_have N family x) o false ≡ true → option_map_or (λ family. family_may_have (window_of m families c) family (renamed m c x)) o false ≡ true
      go None x h = cc
      go (Some family) v.Undefined h = h
      go (Some family) (v.Truth b) h = sort_renamed N m families c family.sort (v.Truth b) h
      go (Some family) (v.Number z) h = sort_renamed N m families c family.sort (v.Number z) h
      go (Some family) (v.Member k i) h = sort_renamed N m families c family.sort (v.Member k i) h
      go (Some family) (v.Node n) h = sort_renamed N m families c family.sort (v.Node n) h

  -- the image of a state fits the window
  pub image_fits : (N m : ℕ) (families : List CellFamily) (c : List ℕ) (s : State) → IsChoice N m c → IsState N families s → FitsWindow (window_of m families c) (image m families c (cell_value N families s))
  image_fits N m families c s choice state = record {
    count = length-table (length c) families (λ f at. renamed m c (cell_value N families s f (map (node_at c) at))) ∙ ap (λ k. length (cells k families)) (sym e);
    values = λ f at is. subst (λ k. (is_cell k families f at ≡ true) → may_have (window_of m families c) f (table_value k families a.Undefined (image m families c (cell_value N families s)) f at) ≡ true) (sym e) (there f at) is;
  }
    where
      e : m + (length c - m) ≡ length c
      e = omega (arith, choice.kept)

      there : (f : ℕ) (at : List ℕ) → is_cell (length c) families f at ≡ true → may_have (window_of m families c) f (table_value (length c) families a.Undefined (image m families c (cell_value N families s)) f at) ≡ true
      there f at is =
          ap (may_have (window_of m families c) f) (table_there laws (length c) families a.Undefined (λ f at. renamed m c (cell_value N families s f (map (node_at c) at))) f at is)
          ∙ may_have_renamed N m families c f (cell_value N families s f (map (node_at c) at)) (state.values f (map (node_at c) at) (cell_of_nodes N families c f at choice.nodes is))

  -- the kept part of an image is the image under the kept nodes
  pub kept_image : (N m : ℕ) (families : List CellFamily) (c more : List ℕ) (s : State) → IsChoice N m (c ++ more) → length c ≡ m → are_distinct c ≡ true
      → kept_part (window_of m families (c ++ more)) (image m families (c ++ more) (cell_value N families s)) ≡ image m families c (cell_value N families s)
  kept_image N m families c more s choice long once =
      table_same m families _ (λ f at. renamed m c (cell_value N families s f (map (node_at c) at))) (λ f at is.
      let k = kept_names N m c more at choice long once (cell_nodes m families f at is) in
      ap (λ ns. read_kept (value_at (window_of m families (c ++ more)) (image m families (c ++ more) (cell_value N families s)) f ns)) k.0
      ∙ ap read_kept (image_value laws N m families (c ++ more) s f (map (node_at c) at) choice.kept k.1)
      ∙ kept_renamed c more m (cell_value N families s f (map (node_at c) at)) long)
      ∙ ap (λ k. table k families (λ f at. renamed m c (cell_value N families s f (map (node_at c) at)))) (sym long)

  -- the image of the state before anything is written
  pub blank_image : (N m : ℕ) (families : List CellFamily) (c : List ℕ) → IsChoice N m c → image m families c (cell_value N families (blank_state N families)) ≡ blank (window_of m families c)
  blank_image N m families c choice =
      table_same (length c) families _ (λ f at. blank_of families f) (λ f at is. go f at is (slice_get families f) refl)
      ∙ ap (λ k. table k families (λ f at. blank_of families f)) (let e : length c ≡ m + (length c - m) = omega (arith, choice.kept) in e)
    where
      blank_named : (family : CellFamily) → renamed m c (blank_value family) ≡ cond family.undefined a.Undefined (a.Number (pos 0))
      blank_named family = pick family.undefined
        where
          pick : (b : Bool) → renamed m c (cond b v.Undefined (v.Number (pos 0))) ≡ cond b a.Undefined (a.Number (pos 0))
          pick true = refl
          pick false = refl

      go : (f : ℕ) (at : List ℕ) → is_cell (length c) families f at ≡ true → (o : Option CellFamily) → slice_get families f ≡ o → renamed m c (cell_value N families (blank_state N families) f (map (node_at c) at)) ≡ blank_of families f
      go f at is (Some family) e =
          ap (renamed m c) (laws.blank N families family f (map (node_at c) at) e (cell_of_nodes N families c f at choice.nodes is)) ∙ blank_named family
          ∙ sym (ap (λ o. option_map_or (λ (family : CellFamily). cond family.undefined a.Undefined (a.Number (pos 0))) o a.Undefined) e)
      go f at is None e = absurd (let q : false ≡ true = sym (ap (λ o. option_map_or (λ (family : CellFamily). nat_eq (length at) family.axes && list_all (is_node (length c)) at) o false) e) ∙ is in cc)

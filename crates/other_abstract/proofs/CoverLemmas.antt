-- What a term may be in the image of a state covers its value in the state.
use Rattle.std.proofs.Common.{◌≡◌, ◌⊎◌, ℕ, zero, suc, ◌<◌, Bool, true, false, not, ◌&&◌, ◌||◌, cond, List, [], ◌∷◌, ◌++◌, map, Option, Some, None, inl, inr, refl, sym, ap, ◌∙◌, subst, arith}
use Rattle.std.specs.Prelude.{nat_lt, nat_eq, int_lt, slice_get}
use Rattle.std.specs.List.{list_all, list_any}
use Rattle.std.specs.Option.{option_map, option_map_or}
use Rattle.std.proofs.lemmas.Bool.{and_parts}
use Rattle.std.proofs.lemmas.Option.{slice_get-map}
use Rattle.std.proofs.lemmas.List.{map-append}
use Rattle.term_core.specs.declared.value.Value.{Value}
use Rattle.term_core.specs.declared.value.Value.TheVariants as v
use Rattle.term_core.specs.declared.value.Sort.{Sort}
use Rattle.term_core.specs.declared.value.Sort.TheVariants as sort
use Rattle.term_core.specs.declared.machine.CellFamily.{CellFamily}
use Rattle.term_core.specs.declared.term.Term as t
use Rattle.term_core.specs.declared.term.Term.{Term, Row_of-Term, end_of-Term, more_of-Term}
use Rattle.term_core.specs.Forms.{NotForm, IfForm, SameForm, LessForm, ArithForm, QuantifiedForm}
use Rattle.term_core.specs.Nodes.{nodes, is_node}
use Rattle.term_core.specs.Values as values
use Rattle.term_core.specs.Variables.{has_axes, is_no_node, fits, row_fits, row_count}
use Rattle.term_core.specs.Cells.{State, IsState, is_cell, cell_value}
use Rattle.term_core.specs.Cells as cells
use Rattle.term_core.specs.Meaning.{value_of, row_all, row_any, row_indices, index_of, with_index, cell_at, holds_at}
use Rattle.other_abstract.proofs.CellLemmas.{Known, no_cell_value}
use Rattle.other_abstract.specs.declared.node.AbsNode.{AbsNode}
use Rattle.other_abstract.specs.declared.node.AbsNode.TheVariants.{Kept, Fired, Other}
use Rattle.other_abstract.specs.declared.value.AbsValue.{AbsValue}
use Rattle.other_abstract.specs.declared.value.AbsValue.TheVariants as a
use Rattle.other_abstract.specs.Windows.{numbered_node, node_number, is_in_window, is_abs_node, truth, number, same_node, constant, is_of_sort, is_any_value}
use Rattle.other_abstract.specs.May.{value_at, led_to, MayRead, MaySame, MayBe, May, MayLead, MayEach, MaySome}
use Rattle.other_abstract.specs.declared.lead.Lead.{Lead}
use Rattle.other_abstract.specs.declared.lead.Lead.TheVariants.{At, Anywhere, Nowhere}
use Rattle.other_abstract.specs.Images.{is_chosen, place_in, IsChoice, renamed_node, renamed, window_of, image}
use Rattle.other_abstract.proofs.NodeLemmas.{same_node_self, same_node_is, all_at, all_fails, any_is, not_not}
use Rattle.other_abstract.proofs.ImageLemmas.{number_of, chosen_node, named_abs, names_chosen, place_same, named_place, image_value}

pub truth_renamed : (m : ℕ) (c : List ℕ) (x : Value) → truth (renamed m c x) ≡ values.truth x
truth_renamed m c v.Undefined = refl
truth_renamed m c (v.Truth b) = refl
truth_renamed m c (v.Number z) = refl
truth_renamed m c (v.Member k i) = refl
truth_renamed m c (v.Node n) = refl

number_renamed : (m : ℕ) (c : List ℕ) (x : Value) → number (renamed m c x) ≡ values.number x
number_renamed m c v.Undefined = refl
number_renamed m c (v.Truth b) = refl
number_renamed m c (v.Number z) = refl
number_renamed m c (v.Member k i) = refl
number_renamed m c (v.Node n) = refl

constant_renamed : (m : ℕ) (c : List ℕ) (x : Value) → is_no_node x ≡ true → renamed m c x ≡ constant x
constant_renamed m c v.Undefined h = refl
constant_renamed m c (v.Truth b) h = refl
constant_renamed m c (v.Number z) h = refl
constant_renamed m c (v.Member k i) h = refl
constant_renamed m c (v.Node n) h = cc

-- a value that a cell may have is one of the values of its family in the window
pub sort_renamed : (N m : ℕ) (families : List CellFamily) (c : List ℕ) (q : Sort) (x : Value) → values.is_of_sort N q x ≡ true → is_of_sort (window_of m families c) q (renamed m c x) ≡ true
sort_renamed N m families c sort.Truth (v.Truth b) h = h
sort_renamed N m families c (sort.Range low high) (v.Number z) h = h
sort_renamed N m families c (sort.Members k n) (v.Member l i) h = h
sort_renamed N m families c sort.Node (v.Node n) h = named_abs m families c n
sort_renamed N m families c q x h = absurd cc

any_renamed : (N m : ℕ) (families : List CellFamily) (c : List ℕ) (f : ℕ) (x : Value) → cells.may_have N families f x ≡ true → is_any_value (window_of m families c) f (renamed m c x) ≡ true
any_renamed N m families c f v.Undefined h = refl
any_renamed N m families c f (v.Truth b) h = go (slice_get families f) h
  where
    go : (o : Option CellFamily) → option_map_or (λ family. values.is_of_sort N family.sort (v.Truth b)) o false ≡ true → option_map_or (λ family. is_of_sort (window_of m families c) family.sort (renamed m c (v.Truth b))) o false ≡ true
    go (Some family) h = sort_renamed N m families c family.sort (v.Truth b) h
    go None h = cc
any_renamed N m families c f (v.Number z) h = go (slice_get families f) h
  where
    go : (o : Option CellFamily) → option_map_or (λ family. values.is_of_sort N family.sort (v.Number z)) o false ≡ true → option_map_or (λ family. is_of_sort (window_of m families c) family.sort (renamed m c (v.Number z))) o false ≡ true
    go (Some family) h = sort_renamed N m families c family.sort (v.Number z) h
    go None h = cc
any_renamed N m families c f (v.Member k i) h = go (slice_get families f) h
  where
    go : (o : Option CellFamily) → option_map_or (λ family. values.is_of_sort N family.sort (v.Member k i)) o false ≡ true → option_map_or (λ family. is_of_sort (window_of m families c) family.sort (renamed m c (v.Member k i))) o false ≡ true
    go (Some family) h = sort_renamed N m families c family.sort (v.Member k i) h
    go None h = cc
any_renamed N m families c f (v.Node n) h = go (slice_get families f) h
  where
    go : (o : Option CellFamily) → option_map_or (λ family. values.is_of_sort N family.sort (v.Node n)) o false ≡ true → option_map_or (λ family. is_of_sort (window_of m families c) family.sort (renamed m c (v.Node n))) o false ≡ true
    go (Some family) h = sort_renamed N m families c family.sort (v.Node n) h
    go None h = cc

-- comparing
is_other : AbsNode → Bool
is_other Other = true
is_other x = false

same_names : (m : ℕ) (c : List ℕ) (n k : ℕ) (x y : AbsNode) → renamed_node m c n ≡ x → renamed_node m c k ≡ y → 0 < node_number m x → nat_eq n k ≡ same_node x y
same_names m c n k x y e f low = go (nat_eq n k) refl (same_node x y) refl
  where
    go : (b : Bool) → nat_eq n k ≡ b → (d : Bool) → same_node x y ≡ d → nat_eq n k ≡ d
    go true was true is = was
    go false was false is = was
    go true was false is =
        let w : n ≡ k = grind (arith, was) in
        let q : x ≡ y = sym e ∙ ap (renamed_node m c) w ∙ f in
        absurd (let z : same_node x y ≡ true = ap (same_node x) (sym q) ∙ same_node_self x in cc)
    go false was true is =
        let q : x ≡ y = same_node_is x y is in
        let p : place_in c n ≡ place_in c k = named_place m c n x e ∙ ap (node_number m) q ∙ sym (named_place m c k y f) in
        let h : is_chosen c n ≡ true = ap (nat_lt 0) (named_place m c n x e) ∙ (grind (arith, low)) in
        let w : n ≡ k = place_same c n k h p in
        absurd (grind (arith, w, was))

-- a name that is not Other has a number above 0
named_low : (m : ℕ) (p : ℕ) (x : AbsNode) → numbered_node m p ≡ x → (x ≡ Other → ⊥) → 0 < node_number m x
named_low m zero x e h = absurd (h (sym e))
named_low m (suc p) x e h = let q : node_number m x ≡ suc p = sym (ap (node_number m) e) ∙ number_of m (suc p) in omega (arith, q)

either : (b : Bool) → (a.Truth b ≡ a.Truth true) ⊎ (a.Truth b ≡ a.Truth false)
either true = inl refl
either false = inr refl

other_name : (m : ℕ) (c : List ℕ) (n k : ℕ) (y : AbsNode) → renamed_node m c n ≡ Other → renamed_node m c k ≡ y → 0 < node_number m y → nat_eq n k ≡ false
other_name m c n k y e f low = go (nat_eq n k) refl
  where
    go : (b : Bool) → nat_eq n k ≡ b → nat_eq n k ≡ false
    go true was =
        let w : n ≡ k = grind (arith, was) in
        let q : node_number m Other ≡ node_number m y = ap (node_number m) (sym e ∙ ap (renamed_node m c) w ∙ f) in
        absurd (omega (arith, q, low))
    go false was = was

nodes_same : (m : ℕ) (c : List ℕ) (n k : ℕ) (x y : AbsNode) → renamed_node m c n ≡ x → renamed_node m c k ≡ y → MaySame (a.Node x) (a.Node y) (a.Truth (nat_eq n k))
nodes_same m c n k Other Other e f = either (nat_eq n k)
nodes_same m c n k (Kept i) y e f = ap a.Truth (same_names m c n k (Kept i) y e f (named_low m (place_in c n) (Kept i) e (λ q. cc)))
nodes_same m c n k (Fired i) y e f = ap a.Truth (same_names m c n k (Fired i) y e f (named_low m (place_in c n) (Fired i) e (λ q. cc)))
nodes_same m c n k Other (Kept i) e f = ap a.Truth (other_name m c n k (Kept i) e f (named_low m (place_in c k) (Kept i) f (λ q. cc)))
nodes_same m c n k Other (Fired i) e f = ap a.Truth (other_name m c n k (Fired i) e f (named_low m (place_in c k) (Fired i) f (λ q. cc)))

node_left : (x : AbsNode) (y : Value) → is_no_node y ≡ true → MaySame (a.Node x) (constant y) (a.Truth false)
node_left (Kept i) v.Undefined h = refl
node_left (Kept i) (v.Truth b) h = refl
node_left (Kept i) (v.Number z) h = refl
node_left (Kept i) (v.Member k j) h = refl
node_left (Fired i) v.Undefined h = refl
node_left (Fired i) (v.Truth b) h = refl
node_left (Fired i) (v.Number z) h = refl
node_left (Fired i) (v.Member k j) h = refl
node_left Other v.Undefined h = refl
node_left Other (v.Truth b) h = refl
node_left Other (v.Number z) h = refl
node_left Other (v.Member k j) h = refl
node_left x (v.Node n) h = absurd cc

same_covers : (m : ℕ) (c : List ℕ) (x y : Value) → MaySame (renamed m c x) (renamed m c y) (a.Truth (values.same_value x y))
same_covers m c (v.Node n) (v.Node k) = nodes_same m c n k (renamed_node m c n) (renamed_node m c k) refl refl
same_covers m c (v.Node n) v.Undefined = node_left (renamed_node m c n) v.Undefined refl
same_covers m c (v.Node n) (v.Truth b) = node_left (renamed_node m c n) (v.Truth b) refl
same_covers m c (v.Node n) (v.Number z) = node_left (renamed_node m c n) (v.Number z) refl
same_covers m c (v.Node n) (v.Member k i) = node_left (renamed_node m c n) (v.Member k i) refl
same_covers m c v.Undefined v.Undefined = refl
same_covers m c v.Undefined (v.Truth b) = refl
same_covers m c v.Undefined (v.Number z) = refl
same_covers m c v.Undefined (v.Member k i) = refl
same_covers m c v.Undefined (v.Node n) = refl
same_covers m c (v.Truth b) v.Undefined = refl
same_covers m c (v.Truth b) (v.Truth d) = refl
same_covers m c (v.Truth b) (v.Number z) = refl
same_covers m c (v.Truth b) (v.Member k i) = refl
same_covers m c (v.Truth b) (v.Node n) = refl
same_covers m c (v.Number z) v.Undefined = refl
same_covers m c (v.Number z) (v.Truth d) = refl
same_covers m c (v.Number z) (v.Number y) = refl
same_covers m c (v.Number z) (v.Member k i) = refl
same_covers m c (v.Number z) (v.Node n) = refl
same_covers m c (v.Member k i) v.Undefined = refl
same_covers m c (v.Member k i) (v.Truth d) = refl
same_covers m c (v.Member k i) (v.Number z) = refl
same_covers m c (v.Member k i) (v.Member l j) = refl
same_covers m c (v.Member k i) (v.Node n) = refl

-- where abstract indices lead against the indices of the state
abbrev FitsReached : ℕ → List ℕ → Lead → Option (List ℕ) → Type 0
FitsReached m c (At ns') o = (ns : List ℕ) × (o ≡ Some ns) × (ns' ≡ map (renamed_node m c) ns) × (list_all (is_chosen c) ns ≡ true)
FitsReached m c Anywhere o = Unit {0}
FitsReached m c Nowhere o = o ≡ None

with_none : (x : Option ℕ) → with_index x None ≡ None
with_none (Some n) = refl
with_none None = refl

led_in : (N m : ℕ) (c : List ℕ) (n : ℕ) (x : AbsNode) (ns' : List AbsNode) (ns : List ℕ) (o : Option (List ℕ)) → list_all (is_node N) c ≡ true → renamed_node m c n ≡ x → 0 < node_number m x → o ≡ Some ns → ns' ≡ map (renamed_node m c) ns → list_all (is_chosen c) ns ≡ true
    → FitsReached m c (At (x ∷ ns')) (with_index (index_of N (v.Node n)) o)
led_in N m c n x ns' ns o are e low at names chosen =
    let h : is_chosen c n ≡ true = ap (nat_lt 0) (named_place m c n x e) ∙ (grind (arith, low)) in (
      n ∷ ns,
      ap (with_index (index_of N (v.Node n))) at ∙ ap (λ b. with_index (cond b (Some n) None) (Some ns)) (chosen_node N c n are h),
      ap (λ y. y ∷ ns') (sym e) ∙ ap (λ ys. renamed_node m c n ∷ ys) names,
      ap (λ b. b && list_all (is_chosen c) ns) h ∙ chosen,
    )

led_node : (N m : ℕ) (c : List ℕ) (n : ℕ) (x : AbsNode) (r : Lead) (o : Option (List ℕ)) → list_all (is_node N) c ≡ true → renamed_node m c n ≡ x → FitsReached m c r o → FitsReached m c (led_to (a.Node x) r) (with_index (index_of N (v.Node n)) o)
led_node N m c n Other Nowhere o are e fit = ap (with_index (index_of N (v.Node n))) fit ∙ with_none _
led_node N m c n Other Anywhere o are e fit = tt
led_node N m c n Other (At ns) o are e fit = tt
led_node N m c n (Kept i) Nowhere o are e fit = ap (with_index (index_of N (v.Node n))) fit ∙ with_none _
led_node N m c n (Kept i) Anywhere o are e fit = tt
led_node N m c n (Kept i) (At ns') o are e (ns, at, names, chosen) = led_in N m c n (Kept i) ns' ns o are e (named_low m (place_in c n) (Kept i) e (λ q. cc)) at names chosen
led_node N m c n (Fired i) Nowhere o are e fit = ap (with_index (index_of N (v.Node n))) fit ∙ with_none _
led_node N m c n (Fired i) Anywhere o are e fit = tt
led_node N m c n (Fired i) (At ns') o are e (ns, at, names, chosen) = led_in N m c n (Fired i) ns' ns o are e (named_low m (place_in c n) (Fired i) e (λ q. cc)) at names chosen

led_fits : (N m : ℕ) (c : List ℕ) (x : Value) (r : Lead) (o : Option (List ℕ)) → list_all (is_node N) c ≡ true → FitsReached m c r o → FitsReached m c (led_to (renamed m c x) r) (with_index (index_of N x) o)
led_fits N m c v.Undefined r o are fit = refl
led_fits N m c (v.Truth b) r o are fit = refl
led_fits N m c (v.Number z) r o are fit = refl
led_fits N m c (v.Member k i) r o are fit = refl
led_fits N m c (v.Node n) r o are fit = led_node N m c n (renamed_node m c n) r o are refl fit

-- what holds of a quantifier, by what holds at each node
quantified_covers : (N m : ℕ) (families : List CellFamily) (c : List ℕ) (all : Bool) (p : ℕ → Bool) (M : AbsNode → AbsValue → Type 0) → IsChoice N m c
    → ((n : ℕ) → MayBe (p n) (M (renamed_node m c n)))
    → ((a.Truth (holds_at all p (nodes N)) ≡ a.Truth all) × ((n : AbsNode) → is_in_window (window_of m families c) n ≡ true → MayBe all (M n)))
    ⊎ ((a.Truth (holds_at all p (nodes N)) ≡ a.Truth (not all)) × (n : AbsNode) × (is_abs_node (window_of m families c) n ≡ true) × MayBe (not all) (M n))
quantified_covers N m families c true p M choice at = go (list_all p (nodes N)) refl
  where
    go : (b : Bool) → list_all p (nodes N) ≡ b → ((a.Truth b ≡ a.Truth true) × ((n : AbsNode) → is_in_window (window_of m families c) n ≡ true → MayBe true (M n))) ⊎ ((a.Truth b ≡ a.Truth false) × (n : AbsNode) × (is_abs_node (window_of m families c) n ≡ true) × MayBe false (M n))
    go true was = inl (
      refl,
      λ n h.
          let k = names_chosen m families c n choice.once choice.kept h in
          subst (λ x. MayBe true (M x)) k.named (subst (λ b. MayBe b (M (renamed_node m c k.node))) (all_at N p k.node was (chosen_node N c k.node choice.nodes k.chosen)) (at k.node)),
    )
    go false was = let f = all_fails N p was in inr (refl, renamed_node m c f.at, named_abs m families c f.at, subst (λ b. MayBe b (M (renamed_node m c f.at))) f.fails (at f.at))
quantified_covers N m families c false p M choice at = go (list_any p (nodes N)) refl
  where
    go : (b : Bool) → list_any p (nodes N) ≡ b → ((a.Truth b ≡ a.Truth false) × ((n : AbsNode) → is_in_window (window_of m families c) n ≡ true → MayBe false (M n))) ⊎ ((a.Truth b ≡ a.Truth true) × (n : AbsNode) × (is_abs_node (window_of m families c) n ≡ true) × MayBe true (M n))
    go false was = inl (
      refl,
      λ n h.
          let k = names_chosen m families c n choice.once choice.kept h in
          let q : list_all (λ x. not (p x)) (nodes N) ≡ true = sym (not_not _) ∙ ap not (sym (any_is p (nodes N)) ∙ was) in
          let z : p k.node ≡ false = sym (not_not _) ∙ ap not (all_at N (λ x. not (p x)) k.node q (chosen_node N c k.node choice.nodes k.chosen)) in
          subst (λ x. MayBe false (M x)) k.named (subst (λ b. MayBe b (M (renamed_node m c k.node))) z (at k.node)),
    )
    go true was =
        let q : list_all (λ x. not (p x)) (nodes N) ≡ false = sym (not_not _) ∙ ap not (sym (any_is p (nodes N)) ∙ was) in
        let f = all_fails N (λ x. not (p x)) q in
        let z : p f.at ≡ true = sym (not_not _) ∙ ap not f.fails in
        inr (refl, renamed_node m c f.at, named_abs m families c f.at, subst (λ b. MayBe b (M (renamed_node m c f.at))) z (at f.at))

part_all : (x r b : Bool) (T F E S : Type 0) → (x && r) ≡ b → (x ≡ true → T) → (x ≡ false → F) → ((a.Truth r ≡ a.Truth true) × E) ⊎ ((a.Truth r ≡ a.Truth false) × S)
    → ((a.Truth b ≡ a.Truth true) × (T × E)) ⊎ ((a.Truth b ≡ a.Truth false) × (F ⊎ S))
part_all true r b T F E S was f g (inl (e, h)) = inl (ap a.Truth (sym was) ∙ e, (f refl, h))
part_all true r b T F E S was f g (inr (e, h)) = inr (ap a.Truth (sym was) ∙ e, inr h)
part_all false r b T F E S was f g q = inr (ap a.Truth (sym was), inl (g refl))

part_any : (x r b : Bool) (T F E S : Type 0) → (x || r) ≡ b → (x ≡ true → T) → (x ≡ false → F) → ((a.Truth r ≡ a.Truth false) × E) ⊎ ((a.Truth r ≡ a.Truth true) × S)
    → ((a.Truth b ≡ a.Truth false) × (F × E)) ⊎ ((a.Truth b ≡ a.Truth true) × (T ⊎ S))
part_any true r b T F E S was f g q = inr (ap a.Truth (sym was), inl (f refl))
part_any false r b T F E S was f g (inl (e, h)) = inl (ap a.Truth (sym was) ∙ e, (g refl, h))
part_any false r b T F E S was f g (inr (e, h)) = inr (ap a.Truth (sym was) ∙ e, inr h)

if_covers : (b : Bool) (m : ℕ) (c : List ℕ) (x y : Value) (T Y Z : AbsValue → Type 0) → MayBe b T → Y (renamed m c x) → Z (renamed m c y) → (MayBe true T × Y (renamed m c (cond b x y))) ⊎ (MayBe false T × Z (renamed m c (cond b x y)))
if_covers true m c x y T Y Z test h g = inl (test, h)
if_covers false m c x y T Y Z test h g = inr (test, g)

module _ (laws : Known) (N m : ℕ) (families : List CellFamily) (c : List ℕ) (s : State) (choice : IsChoice N m c) (state : IsState N families s) where
  -- a read
  read_covers : (f : ℕ) (r : Lead) (o : Option (List ℕ)) → FitsReached m c r o → MayRead (window_of m families c) (image m families c (cell_value N families s)) f r (renamed m c (cell_at (cell_value N families s) f o))
  read_covers f (At ns') o (ns, at, names, chosen) =
      ap (λ q. renamed m c (cell_at (cell_value N families s) f q)) at
      ∙ sym (image_value laws N m families c s f ns choice.kept chosen)
      ∙ ap (value_at (window_of m families c) (image m families c (cell_value N families s)) f) (sym names)
  read_covers f Anywhere None fit = refl
  read_covers f Anywhere (Some ns) fit = go (is_cell N families f ns) refl
    where
      go : (b : Bool) → is_cell N families f ns ≡ b → is_any_value (window_of m families c) f (renamed m c (cell_value N families s f ns)) ≡ true
      go true was = any_renamed N m families c f (cell_value N families s f ns) (state.values f ns was)
      go false was = ap (λ x. is_any_value (window_of m families c) f (renamed m c x)) (sym (no_cell_value N families s f ns was))
  read_covers f Nowhere o fit = ap (λ q. renamed m c (cell_at (cell_value N families s) f q)) fit

  mutual
    unfolding value_of fits May

    pub covers : (frame : List ℕ) (x : Term) → fits families x ≡ true → May (window_of m families c) (image m families c (cell_value N families s)) (map (renamed_node m c) frame) x (renamed m c (value_of N (cell_value N families s) frame x))
    covers frame (t.Known x) fit = constant_renamed m c x fit
    covers frame (t.Var k) fit = go (slice_get frame k) ∙ ap (λ o. option_map_or a.Node o a.Undefined) (sym (slice_get-map (renamed_node m c) frame k))
      where
        go : (o : Option ℕ) → renamed m c (option_map_or v.Node o v.Undefined) ≡ option_map_or a.Node (option_map (renamed_node m c) o) a.Undefined
        go (Some n) = refl
        go None = refl
    covers frame (t.Read' f _ at) fit = let l = leads frame at (and_parts (has_axes families f (row_count at)) (row_fits families at) fit).1 in (l.0, l.1, read_covers f l.0 _ l.2)
    covers frame (NotForm b) fit = (renamed m c (value_of N (cell_value N families s) frame b), covers frame b fit, ap (λ q. a.Truth (not q)) (sym (truth_renamed m c (value_of N (cell_value N families s) frame b))))
    covers frame (t.And' _ parts) fit = covers_all frame parts fit (row_all N (cell_value N families s) frame parts) refl
    covers frame (t.Or' _ parts) fit = covers_any frame parts fit (row_any N (cell_value N families s) frame parts) refl
    covers frame (IfForm b d e) fit =
        let p = and_parts (fits families b) (fits families d && fits families e) fit in
        let q = and_parts (fits families d) (fits families e) p.1 in
        if_covers (values.truth (value_of N (cell_value N families s) frame b)) m c (value_of N (cell_value N families s) frame d) (value_of N (cell_value N families s) frame e) (May (window_of m families c) (image m families c (cell_value N families s)) (map (renamed_node m c) frame) b) (May (window_of m families c) (image m families c (cell_value N families s)) (map (renamed_node m c) frame) d) (May (window_of m families c) (image m families c (cell_value N families s)) (map (renamed_node m c) frame) e) (renamed m c (value_of N (cell_value N families s) frame b), covers frame b p.0, truth_renamed m c (value_of N (cell_value N families s) frame b)) (covers frame d q.0) (covers frame e q.1)
    covers frame (SameForm b d) fit =
        let p = and_parts (fits families b) (fits families d) fit in
        (renamed m c (value_of N (cell_value N families s) frame b), renamed m c (value_of N (cell_value N families s) frame d), covers frame b p.0, covers frame d p.1, same_covers m c (value_of N (cell_value N families s) frame b) (value_of N (cell_value N families s) frame d))
    covers frame (LessForm b d) fit =
        let p = and_parts (fits families b) (fits families d) fit in (
          renamed m c (value_of N (cell_value N families s) frame b),
          renamed m c (value_of N (cell_value N families s) frame d),
          covers frame b p.0,
          covers frame d p.1,
          ap (λ z. a.Truth (int_lt z (values.number (value_of N (cell_value N families s) frame d)))) (sym (number_renamed m c (value_of N (cell_value N families s) frame b)))
              ∙ ap (λ z. a.Truth (int_lt (number (renamed m c (value_of N (cell_value N families s) frame b))) z)) (sym (number_renamed m c (value_of N (cell_value N families s) frame d))),
        )
    covers frame (ArithForm op b d) fit =
        let p = and_parts (fits families b) (fits families d) fit in (
          renamed m c (value_of N (cell_value N families s) frame b),
          renamed m c (value_of N (cell_value N families s) frame d),
          covers frame b p.0,
          covers frame d p.1,
          ap (λ z. a.Number (values.arith op z (values.number (value_of N (cell_value N families s) frame d)))) (sym (number_renamed m c (value_of N (cell_value N families s) frame b)))
              ∙ ap (λ z. a.Number (values.arith op (number (renamed m c (value_of N (cell_value N families s) frame b))) z)) (sym (number_renamed m c (value_of N (cell_value N families s) frame d))),
        )
    covers frame (QuantifiedForm all b) fit =
        quantified_covers N m families c all (λ n. values.truth (value_of N (cell_value N families s) (frame ++ n ∷ []) b)) (λ n x. May (window_of m families c) (image m families c (cell_value N families s)) (map (renamed_node m c) frame ++ n ∷ []) b x) choice
        (λ n. (
          renamed m c (value_of N (cell_value N families s) (frame ++ n ∷ []) b),
          subst (λ env. May (window_of m families c) (image m families c (cell_value N families s)) env b (renamed m c (value_of N (cell_value N families s) (frame ++ n ∷ []) b))) (map-append (renamed_node m c) frame (n ∷ [])) (covers (frame ++ n ∷ []) b fit),
          truth_renamed m c (value_of N (cell_value N families s) (frame ++ n ∷ []) b),
        ))

    leads : {n : _} (frame : List ℕ) (row : Row_of-Term n) → row_fits families row ≡ true → (r : Lead) × MayLead (window_of m families c) (image m families c (cell_value N families s)) (map (renamed_node m c) frame) row r × FitsReached m c r (row_indices N (cell_value N families s) frame row)
    leads frame end_of-Term fit = (At [], refl, ([], refl, refl, refl))
    leads frame (more_of-Term x rest) fit =
        let p = and_parts (fits families x) (row_fits families rest) fit in
        let l = leads frame rest p.1 in
        (led_to (renamed m c (value_of N (cell_value N families s) frame x)) l.0, (renamed m c (value_of N (cell_value N families s) frame x), l.0, covers frame x p.0, l.1, refl), led_fits N m c (value_of N (cell_value N families s) frame x) l.0 _ choice.nodes l.2)

    covers_all : {n : _} (frame : List ℕ) (row : Row_of-Term n) → row_fits families row ≡ true → (b : Bool) → row_all N (cell_value N families s) frame row ≡ b
        → ((a.Truth b ≡ a.Truth true) × MayEach (window_of m families c) (image m families c (cell_value N families s)) (map (renamed_node m c) frame) row true) ⊎ ((a.Truth b ≡ a.Truth false) × MaySome (window_of m families c) (image m families c (cell_value N families s)) (map (renamed_node m c) frame) row false)
    covers_all frame end_of-Term fit true was = inl (refl, tt)
    covers_all frame end_of-Term fit false was = cc
    covers_all frame (more_of-Term x rest) fit b was =
        let p = and_parts (fits families x) (row_fits families rest) fit in
        part_all _ _ b (MayBe true (May (window_of m families c) (image m families c (cell_value N families s)) (map (renamed_node m c) frame) x)) (MayBe false (May (window_of m families c) (image m families c (cell_value N families s)) (map (renamed_node m c) frame) x)) (MayEach (window_of m families c) (image m families c (cell_value N families s)) (map (renamed_node m c) frame) rest true) (MaySome (window_of m families c) (image m families c (cell_value N families s)) (map (renamed_node m c) frame) rest false) was (λ e. (renamed m c (value_of N (cell_value N families s) frame x), covers frame x p.0, truth_renamed m c (value_of N (cell_value N families s) frame x) ∙ e)) (λ e. (renamed m c (value_of N (cell_value N families s) frame x), covers frame x p.0, truth_renamed m c (value_of N (cell_value N families s) frame x) ∙ e)) (covers_all frame rest p.1 (row_all N (cell_value N families s) frame rest) refl)

    covers_any : {n : _} (frame : List ℕ) (row : Row_of-Term n) → row_fits families row ≡ true → (b : Bool) → row_any N (cell_value N families s) frame row ≡ b
        → ((a.Truth b ≡ a.Truth false) × MayEach (window_of m families c) (image m families c (cell_value N families s)) (map (renamed_node m c) frame) row false) ⊎ ((a.Truth b ≡ a.Truth true) × MaySome (window_of m families c) (image m families c (cell_value N families s)) (map (renamed_node m c) frame) row true)
    covers_any frame end_of-Term fit true was = cc
    covers_any frame end_of-Term fit false was = inl (refl, tt)
    covers_any frame (more_of-Term x rest) fit b was =
        let p = and_parts (fits families x) (row_fits families rest) fit in
        part_any _ _ b (MayBe true (May (window_of m families c) (image m families c (cell_value N families s)) (map (renamed_node m c) frame) x)) (MayBe false (May (window_of m families c) (image m families c (cell_value N families s)) (map (renamed_node m c) frame) x)) (MayEach (window_of m families c) (image m families c (cell_value N families s)) (map (renamed_node m c) frame) rest false) (MaySome (window_of m families c) (image m families c (cell_value N families s)) (map (renamed_node m c) frame) rest true) was (λ e. (renamed m c (value_of N (cell_value N families s) frame x), covers frame x p.0, truth_renamed m c (value_of N (cell_value N families s) frame x) ∙ e)) (λ e. (renamed m c (value_of N (cell_value N families s) frame x), covers frame x p.0, truth_renamed m c (value_of N (cell_value N families s) frame x) ∙ e)) (covers_any frame rest p.1 (row_any N (cell_value N families s) frame rest) refl)

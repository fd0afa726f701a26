-- The computed test agrees with the relation.
use Rattle.std.proofs.Common.{◌≡◌, ◌⊎◌, ℕ, zero, suc, ◌+◌, ◌<◌, ◌≤◌, Bool, true, false, not, ◌&&◌, ◌||◌, List, [], ◌∷◌, ◌++◌, map, Option, Some, None, inl, inr, refl, sym, ap, ◌∙◌, arith}
use Rattle.std.specs.Prelude.{nat_lt, nat_eq, int_lt, int_le, ℤ, pos, negsuc, ◌+ℤ◌, ◌-ℤ◌, slice_get}
use Rattle.std.specs.List.{list_all, list_any}
use Rattle.std.specs.Option.{option_map_or}
use Rattle.std.proofs.lemmas.Bool.{and_parts, or_cases}
use Rattle.term_core.specs.declared.term.Term as t
use Rattle.term_core.specs.declared.term.Term.{Term, Row_of-Term, end_of-Term, more_of-Term}
use Rattle.term_core.specs.declared.value.Sort.{Sort}
use Rattle.term_core.specs.declared.value.Sort.TheVariants as sort
use Rattle.term_core.specs.declared.machine.CellFamily.{CellFamily}
use Rattle.term_core.specs.Nodes.{nodes, nodes_from, is_node}
use Rattle.term_core.specs.Values.{same_truth}
use Rattle.term_core.specs.Values as values
use Rattle.term_core.specs.Forms.{NotForm, IfForm, SameForm, LessForm, ArithForm, QuantifiedForm}
use Rattle.other_abstract.specs.declared.node.AbsNode.{AbsNode}
use Rattle.other_abstract.specs.declared.node.AbsNode.TheVariants.{Kept, Fired, Other}
use Rattle.other_abstract.specs.declared.value.AbsValue.{AbsValue}
use Rattle.other_abstract.specs.declared.value.AbsValue.TheVariants.{Undefined, Truth, Number, Member, Node}
use Rattle.other_abstract.specs.Windows.{Window, truth, number, same_value, constant, is_in_window, is_abs_node, is_of_sort, is_any_value}
use Rattle.other_abstract.specs.May.{AbsCells, value_at, bound, led_to, MayRead, MaySame, MayBe, May, MayLead, MayEach, MaySome}
use Rattle.other_abstract.specs.declared.lead.Lead.{Lead}
use Rattle.other_abstract.specs.declared.lead.Lead.TheVariants.{At, Anywhere, Nowhere}
use Rattle.other_abstract.specs.Tests.{window_nodes, ints_from, count_of, values_of, any_values, passes, read_passes, same_passes, either_way, may, may_lead, may_each, may_some}
use Rattle.other_abstract.proofs.NodeLemmas.{all_at, all_fails, any_is, not_not}
use Rattle.other_abstract.proofs.ImageLemmas.{in_is_abs}

-- an element that passes
pub record Passing {X : Type 0} (M : X → Type 0) (p : X → Bool) : Type 0 where
  pub value : X
  pub may : M value
  pub passes : p value ≡ true

pub any_map : {X Y : Type 0} (p : Y → Bool) (g : X → Y) (xs : List X) → list_any p (map g xs) ≡ list_any (λ x. p (g x)) xs
any_map p g [] = refl
any_map p g (x ∷ xs) = ap (λ b. p (g x) || b) (any_map p g xs)

pub any_append : {X : Type 0} (p : X → Bool) (xs ys : List X) → list_any p (xs ++ ys) ≡ (list_any p xs || list_any p ys)
any_append p [] ys = refl
any_append p (x ∷ xs) ys = go (p x) (any_append p xs ys)
  where
    go : (b : Bool) → list_any p (xs ++ ys) ≡ (list_any p xs || list_any p ys) → (b || list_any p (xs ++ ys)) ≡ ((b || list_any p xs) || list_any p ys)
    go true e = refl
    go false e = e

pub or_first : (a b : Bool) → a ≡ true → (a || b) ≡ true
or_first true b e = refl
or_first false b e = cc

pub or_second : (a b : Bool) → b ≡ true → (a || b) ≡ true
or_second true b e = refl
or_second false b e = e

pub and_both : (a b : Bool) → a ≡ true → b ≡ true → (a && b) ≡ true
and_both true b e f = f
and_both false b e f = cc

-- nodes
pub any_nodes : (N : ℕ) (q : ℕ → Bool) → list_any q (nodes N) ≡ true → Passing (λ n. is_node N n ≡ true) q
any_nodes N q h =
    let f = all_fails N (λ n. not (q n)) (sym (not_not _) ∙ ap not (sym (any_is q (nodes N)) ∙ h)) in
    record { value = f.at; may = f.node; passes = sym (not_not _) ∙ ap not f.fails }

pub any_node : (N : ℕ) (q : ℕ → Bool) (n : ℕ) → is_node N n ≡ true → q n ≡ true → list_any q (nodes N) ≡ true
any_node N q n node h = go (list_any q (nodes N)) refl
  where
    go : (b : Bool) → list_any q (nodes N) ≡ b → list_any q (nodes N) ≡ true
    go true was = was
    go false was =
        let a : list_all (λ n. not (q n)) (nodes N) ≡ true = sym (not_not _) ∙ ap not (sym (any_is q (nodes N)) ∙ was) in
        let z : not (q n) ≡ true = all_at N (λ n. not (q n)) n a node in
        absurd (let w : false ≡ true = sym (ap not h) ∙ z in cc)

-- nodes of the window
pub in_window : (W : Window) (q : AbsNode → Bool) → list_any q (window_nodes W) ≡ true → Passing (λ n. is_in_window W n ≡ true) q
in_window W q h = elim (or_cases (list_any q (map Kept (nodes W.kept))) (list_any q (map Fired (nodes W.fired))) (sym (any_append q (map Kept (nodes W.kept)) (map Fired (nodes W.fired))) ∙ h)) [
  | inl l ↦ let r = any_nodes W.kept (λ k. q (Kept k)) (sym (any_map q Kept (nodes W.kept)) ∙ l) in record { value = Kept r.value; may = r.may; passes = r.passes }
  | inr l ↦ let r = any_nodes W.fired (λ k. q (Fired k)) (sym (any_map q Fired (nodes W.fired)) ∙ l) in record { value = Fired r.value; may = r.may; passes = r.passes }
]

pub window_has : (W : Window) (q : AbsNode → Bool) (n : AbsNode) → is_in_window W n ≡ true → q n ≡ true → list_any q (window_nodes W) ≡ true
window_has W q (Kept k) is h = any_append q (map Kept (nodes W.kept)) (map Fired (nodes W.fired)) ∙ or_first _ _ (any_map q Kept (nodes W.kept) ∙ any_node W.kept (λ k. q (Kept k)) k is h)
window_has W q (Fired k) is h = any_append q (map Kept (nodes W.kept)) (map Fired (nodes W.fired)) ∙ or_second (list_any q (map Kept (nodes W.kept))) _ (any_map q Fired (nodes W.fired) ∙ any_node W.fired (λ k. q (Fired k)) k is h)
window_has W q Other is h = absurd cc

abs_any : (W : Window) (q : AbsNode → Bool) → list_any q (window_nodes W ++ Other ∷ []) ≡ true → Passing (λ n. is_abs_node W n ≡ true) q
abs_any W q h = elim (or_cases (list_any q (window_nodes W)) (q Other || false) (sym (any_append q (window_nodes W) (Other ∷ [])) ∙ h)) [
  | inl l ↦ let r = in_window W q l in record { value = r.value; may = in_is_abs W r.value r.may; passes = r.passes }
  | inr l ↦ record { value = Other; may = refl; passes = elim (or_cases (q Other) false l) [ inl e ↦ e | inr e ↦ absurd cc ] }
]

abs_has : (W : Window) (q : AbsNode → Bool) (n : AbsNode) → is_abs_node W n ≡ true → q n ≡ true → list_any q (window_nodes W ++ Other ∷ []) ≡ true
abs_has W q (Kept k) is h = any_append q (window_nodes W) (Other ∷ []) ∙ or_first _ _ (window_has W q (Kept k) is h)
abs_has W q (Fired k) is h = any_append q (window_nodes W) (Other ∷ []) ∙ or_first _ _ (window_has W q (Fired k) is h)
abs_has W q Other is h = any_append q (window_nodes W) (Other ∷ []) ∙ or_second (list_any q (window_nodes W)) _ (or_first (q Other) false h)

pub all_by : {X : Type 0} (q : X → Bool) (xs : List X) → list_any (λ x. not (q x)) xs ≡ true → list_all q xs ≡ false
all_by q [] h = cc
all_by q (x ∷ xs) h = go (q x) (or_cases (not (q x)) _ h) (λ e. all_by q xs e)
  where
    go : (b : Bool) → (not b ≡ true) ⊎ (list_any (λ x. not (q x)) xs ≡ true) → (list_any (λ x. not (q x)) xs ≡ true → list_all q xs ≡ false) → (b && list_all q xs) ≡ false
    go true (inl e) rest = absurd cc
    go true (inr e) rest = rest e
    go false e rest = refl

pub any_by : {X : Type 0} (q : X → Bool) (xs : List X) → list_all q xs ≡ false → list_any (λ x. not (q x)) xs ≡ true
any_by q [] h = cc
any_by q (x ∷ xs) h = go (q x) h (λ e. any_by q xs e)
  where
    go : (b : Bool) → (b && list_all q xs) ≡ false → (list_all q xs ≡ false → list_any (λ x. not (q x)) xs ≡ true) → (not b || list_any (λ x. not (q x)) xs) ≡ true
    go true e rest = rest e
    go false e rest = refl

pub window_all : (W : Window) (q : AbsNode → Bool) → list_all q (window_nodes W) ≡ true → (n : AbsNode) → is_in_window W n ≡ true → q n ≡ true
window_all W q all n is = go (q n) refl
  where
    go : (b : Bool) → q n ≡ b → q n ≡ true
    go true was = was
    go false was =
        let z : list_any (λ n. not (q n)) (window_nodes W) ≡ true = window_has W (λ n. not (q n)) n is (ap not was) in
        let y : list_all q (window_nodes W) ≡ false = all_by q (window_nodes W) z in
        absurd cc

all_by_window : (W : Window) (q : AbsNode → Bool) → ((n : AbsNode) → is_in_window W n ≡ true → q n ≡ true) → list_all q (window_nodes W) ≡ true
all_by_window W q each = go (list_all q (window_nodes W)) refl
  where
    go : (b : Bool) → list_all q (window_nodes W) ≡ b → list_all q (window_nodes W) ≡ true
    go true was = was
    go false was =
        let r = in_window W (λ n. not (q n)) (any_by q (window_nodes W) was) in
        absurd (let w : false ≡ true = sym (ap not (each r.value r.may)) ∙ r.passes in cc)

-- numbers of a range
ints_in : (q : ℤ → Bool) (low : ℤ) (n : ℕ) → list_any q (ints_from low n) ≡ true → Passing (λ z. (int_le low z ≡ true) × (int_lt z (low +ℤ pos n) ≡ true)) q
ints_in q low zero h = cc
ints_in q low (suc n) h = go (or_cases (q low) (list_any q (ints_from (low +ℤ pos 1) n)) h) (λ l. ints_in q (low +ℤ pos 1) n l)
  where
    go : (q low ≡ true) ⊎ (list_any q (ints_from (low +ℤ pos 1) n) ≡ true) → (list_any q (ints_from (low +ℤ pos 1) n) ≡ true → Passing (λ z. (int_le (low +ℤ pos 1) z ≡ true) × (int_lt z (low +ℤ pos 1 +ℤ pos n) ≡ true)) q)
        → Passing (λ z. (int_le low z ≡ true) × (int_lt z (low +ℤ pos (suc n)) ≡ true)) q
    go (inl e) rest = record { value = low; may = (grind arith, grind arith); passes = e }
    go (inr l) rest =
        let r = rest l in
        let z = r.value in
        let a : int_le (low +ℤ pos 1) z ≡ true = r.may.0 in
        let b : int_lt z (low +ℤ pos 1 +ℤ pos n) ≡ true = r.may.1 in
        record { value = z; may = (grind (arith, a), grind (arith, b)); passes = r.passes }

next_bound : (low z : ℤ) (n : ℕ) → int_lt z (low +ℤ pos (suc n)) ≡ true → int_lt z (low +ℤ pos 1 +ℤ pos n) ≡ true
next_bound low z n b = grind (arith, b)

at_low : (low z : ℤ) → int_le low z ≡ true → int_le (low +ℤ pos 1) z ≡ false → low ≡ z
at_low low z a b = grind (arith, a, b)

past_none : (low z : ℤ) → int_le low z ≡ true → int_lt z (low +ℤ pos 0) ≡ false
past_none low z a = grind (arith, a)

ints_has : (q : ℤ → Bool) (low z : ℤ) (n : ℕ) → int_le low z ≡ true → int_lt z (low +ℤ pos n) ≡ true → q z ≡ true → list_any q (ints_from low n) ≡ true
ints_has q low z zero a b h = absurd (let f : false ≡ true = sym (past_none low z a) ∙ b in cc)
ints_has q low z (suc n) a b h = go (int_le (low +ℤ pos 1) z) refl (λ l m. ints_has q (low +ℤ pos 1) z n l m h)
  where
    go : (d : Bool) → int_le (low +ℤ pos 1) z ≡ d → (int_le (low +ℤ pos 1) z ≡ true → int_lt z (low +ℤ pos 1 +ℤ pos n) ≡ true → list_any q (ints_from (low +ℤ pos 1) n) ≡ true) → (q low || list_any q (ints_from (low +ℤ pos 1) n)) ≡ true
    go true was rest = or_second (q low) _ (rest was (next_bound low z n b))
    go false was rest = or_first (q low) _ (ap q (at_low low z a was) ∙ h)

range_end : (low high z : ℤ) → int_le low z ≡ true → int_lt z (low +ℤ pos (count_of (high -ℤ low +ℤ pos 1))) ≡ int_le z high
range_end low high z a = go (high -ℤ low +ℤ pos 1) refl
  where
    go : (d : ℤ) → high -ℤ low +ℤ pos 1 ≡ d → int_lt z (low +ℤ pos (count_of d)) ≡ int_le z high
    go (pos n) e = grind (arith, e, a)
    go (negsuc n) e = grind (arith, e, a)

members_in : (q : ℕ → Bool) (first count : ℕ) → list_any q (nodes_from first count) ≡ true → Passing (λ i. (first ≤ i) × (i < first + count)) q
members_in q first zero h = cc
members_in q first (suc count) h = elim (or_cases (q first) (list_any q (nodes_from (suc first) count)) h) [
  | inl e ↦ record { value = first; may = (omega arith, omega arith); passes = e }
  | inr l ↦ let r = members_in q (suc first) count l in let m = r.may in record { value = r.value; may = (omega (arith, m.0), omega (arith, m.1)); passes = r.passes }
]

members_has : (q : ℕ → Bool) (first count i : ℕ) → first ≤ i → i < first + count → q i ≡ true → list_any q (nodes_from first count) ≡ true
members_has q first zero i low high h = absurd (omega (arith, low, high))
members_has q first (suc count) i low high h = go (nat_eq first i) refl (λ l. members_has q (suc first) count i l (omega (arith, high)) h)
  where
    go : (b : Bool) → nat_eq first i ≡ b → (suc first ≤ i → list_any q (nodes_from (suc first) count) ≡ true) → (q first || list_any q (nodes_from (suc first) count)) ≡ true
    go true was rest = let e : first ≡ i = grind (arith, was) in or_first (q first) _ (ap q e ∙ h)
    go false was rest = let l : suc first ≤ i = grind (arith, was, low) in or_second (q first) _ (rest l)

-- the values that a cell may have
values_in : (W : Window) (q : Sort) (p : AbsValue → Bool) → list_any p (values_of W q) ≡ true → Passing (λ x. is_of_sort W q x ≡ true) p
values_in W sort.Truth p h = go (or_cases (p (Truth false)) (p (Truth true) || false) h)
  where
    go : (p (Truth false) ≡ true) ⊎ ((p (Truth true) || false) ≡ true) → Passing (λ x. is_of_sort W sort.Truth x ≡ true) p
    go (inl e) = record { value = Truth false; may = refl; passes = e }
    go (inr e) = elim (or_cases (p (Truth true)) false e) [ inl f ↦ record { value = Truth true; may = refl; passes = f } | inr f ↦ absurd cc ]
values_in W (sort.Range low high) p h =
    let r = ints_in (λ z. p (Number z)) low (count_of (high -ℤ low +ℤ pos 1)) (sym (any_map p Number (ints_from low (count_of (high -ℤ low +ℤ pos 1)))) ∙ h) in
    record { value = Number r.value; may = and_both _ _ r.may.0 (sym (range_end low high r.value r.may.0) ∙ r.may.1); passes = r.passes }
values_in W (sort.Members kind count) p h =
    let r = members_in (λ i. p (Member kind i)) 0 count (sym (any_map p (λ i. Member kind i) (nodes_from 0 count)) ∙ h) in
    let l = r.may in let high = l.1 in
    record { value = Member kind r.value; may = and_both _ _ (let e : nat_eq kind kind ≡ true = grind arith in e) (let b : r.value < count = omega (arith, high) in grind (arith, b)); passes = r.passes }
values_in W sort.Node p h = let r = abs_any W (λ n. p (Node n)) (sym (any_map p Node (window_nodes W ++ Other ∷ [])) ∙ h) in record { value = Node r.value; may = r.may; passes = r.passes }

values_has : (W : Window) (q : Sort) (p : AbsValue → Bool) (x : AbsValue) → is_of_sort W q x ≡ true → p x ≡ true → list_any p (values_of W q) ≡ true
values_has W sort.Truth p (Truth false) is h = or_first (p (Truth false)) _ h
values_has W sort.Truth p (Truth true) is h = or_second (p (Truth false)) _ (or_first (p (Truth true)) false h)
values_has W (sort.Range low high) p (Number z) is h =
    let l = and_parts (int_le low z) (int_le z high) is in
    any_map p Number (ints_from low (count_of (high -ℤ low +ℤ pos 1))) ∙ ints_has (λ z. p (Number z)) low z (count_of (high -ℤ low +ℤ pos 1)) l.0 (range_end low high z l.0 ∙ l.1) h
values_has W (sort.Members kind count) p (Member other i) is h =
    let l = and_parts (nat_eq kind other) (nat_lt i count) is in
    let e : kind ≡ other = (let f : nat_eq kind other ≡ true = l.0 in grind (arith, f)) in
    let b : i < 0 + count = (let f : nat_lt i count ≡ true = l.1 in let g : i < count = grind (arith, f) in omega (arith, g)) in
    any_map p (λ i. Member kind i) (nodes_from 0 count) ∙ members_has (λ i. p (Member kind i)) 0 count i (omega arith) b (ap (λ k. p (Member k i)) e ∙ h)
values_has W sort.Node p (Node n) is h = any_map p Node (window_nodes W ++ Other ∷ []) ∙ abs_has W (λ n. p (Node n)) n is h
values_has W q p x is h = absurd cc

sorted_has : (W : Window) (p : AbsValue → Bool) (x : AbsValue) (o : Option CellFamily) → option_map_or (λ (family : CellFamily). is_of_sort W family.sort x) o false ≡ true → p x ≡ true → list_any p (option_map_or (λ (family : CellFamily). values_of W family.sort) o []) ≡ true
sorted_has W p x (Some family) is h = values_has W family.sort p x is h
sorted_has W p x None is h = cc

any_in : (W : Window) (f : ℕ) (p : AbsValue → Bool) → list_any p (any_values W f) ≡ true → Passing (λ x. is_any_value W f x ≡ true) p
any_in W f p h = go (slice_get W.families f) refl (or_cases (p Undefined) _ h)
  where
    lift : (o : Option CellFamily) (family : CellFamily) → slice_get W.families f ≡ Some family → (x : AbsValue) → is_of_sort W family.sort x ≡ true → is_any_value W f x ≡ true
    lift o family e Undefined is = refl
    lift o family e (Truth b) is = ap (λ o. option_map_or (λ (family : CellFamily). is_of_sort W family.sort (Truth b)) o false) e ∙ is
    lift o family e (Number z) is = ap (λ o. option_map_or (λ (family : CellFamily). is_of_sort W family.sort (Number z)) o false) e ∙ is
    lift o family e (Member k i) is = ap (λ o. option_map_or (λ (family : CellFamily). is_of_sort W family.sort (Member k i)) o false) e ∙ is
    lift o family e (Node n) is = ap (λ o. option_map_or (λ (family : CellFamily). is_of_sort W family.sort (Node n)) o false) e ∙ is

    go : (o : Option CellFamily) → slice_get W.families f ≡ o → (p Undefined ≡ true) ⊎ (list_any p (option_map_or (λ (family : CellFamily). values_of W family.sort) o []) ≡ true) → Passing (λ x. is_any_value W f x ≡ true) p
    go o e (inl l) = record { value = Undefined; may = refl; passes = l }
    go None e (inr l) = absurd cc
    go (Some family) e (inr l) = let r = values_in W family.sort p l in record { value = r.value; may = lift (Some family) family e r.value r.may; passes = r.passes }

any_has : (W : Window) (f : ℕ) (p : AbsValue → Bool) (x : AbsValue) → is_any_value W f x ≡ true → p x ≡ true → list_any p (any_values W f) ≡ true
any_has W f p Undefined is h = or_first (p Undefined) _ h
any_has W f p (Truth b) is h = or_second (p Undefined) _ (sorted_has W p (Truth b) (slice_get W.families f) is h)
any_has W f p (Number z) is h = or_second (p Undefined) _ (sorted_has W p (Number z) (slice_get W.families f) is h)
any_has W f p (Member k i) is h = or_second (p Undefined) _ (sorted_has W p (Member k i) (slice_get W.families f) is h)
any_has W f p (Node n) is h = or_second (p Undefined) _ (sorted_has W p (Node n) (slice_get W.families f) is h)

-- reads and comparisons
read_in : (W : Window) (w : AbsCells) (f : ℕ) (p : AbsValue → Bool) (r : Lead) → read_passes W w f p r ≡ true → Passing (MayRead W w f r) p
read_in W w f p (At ns) h = record { value = value_at W w f ns; may = refl; passes = h }
read_in W w f p Anywhere h = any_in W f p h
read_in W w f p Nowhere h = record { value = Undefined; may = refl; passes = h }

read_has : (W : Window) (w : AbsCells) (f : ℕ) (p : AbsValue → Bool) (r : Lead) (x : AbsValue) → MayRead W w f r x → p x ≡ true → read_passes W w f p r ≡ true
read_has W w f p (At ns) x may h = ap p (sym may) ∙ h
read_has W w f p Anywhere x may h = any_has W f p x may h
read_has W w f p Nowhere x may h = ap p (sym may) ∙ h

is_other : AbsValue → Bool
is_other (Node Other) = true
is_other x = false

same_in : (p : AbsValue → Bool) (a b : AbsValue) → same_passes p a b ≡ true → Passing (MaySame a b) p
same_in p (Node Other) (Node Other) h = elim (or_cases (p (Truth true)) (p (Truth false)) h) [
  | inl e ↦ record { value = Truth true; may = inl refl; passes = e }
  | inr e ↦ record { value = Truth false; may = inr refl; passes = e }
]
same_in p a b h = record { value = Truth (same_value a b); may = refl; passes = h }

same_has : (p : AbsValue → Bool) (a b x : AbsValue) → MaySame a b x → p x ≡ true → same_passes p a b ≡ true
same_has p (Node Other) (Node Other) x (inl e) h = or_first (p (Truth true)) _ (ap p (sym e) ∙ h)
same_has p (Node Other) (Node Other) x (inr e) h = or_second (p (Truth true)) _ (ap p (sym e) ∙ h)
same_has p a b x may h = ap p (sym may) ∙ h

passes_is : (b : Bool) (x : AbsValue) → passes b x ≡ true → truth x ≡ b
passes_is true x h = h
passes_is false x h = sym (not_not _) ∙ ap not h

pub is_passes : (b : Bool) (x : AbsValue) → truth x ≡ b → passes b x ≡ true
is_passes true x h = h
is_passes false x h = ap not h

verdict_in : (p : AbsValue → Bool) (all each some : Bool) (E S : Type 0) → either_way p all each some ≡ true → (each ≡ true → E) → (some ≡ true → S) → Passing (λ x. ((x ≡ Truth all) × E) ⊎ ((x ≡ Truth (not all)) × S)) p
verdict_in p all each some E S h f g = elim (or_cases (p (Truth all) && each) (p (Truth (not all)) && some) h) [
  | inl e ↦ let q = and_parts (p (Truth all)) each e in record { value = Truth all; may = inl (refl, f q.1); passes = q.0 }
  | inr e ↦ let q = and_parts (p (Truth (not all))) some e in record { value = Truth (not all); may = inr (refl, g q.1); passes = q.0 }
]

verdict_has : (p : AbsValue → Bool) (all each some : Bool) (E S : Type 0) (x : AbsValue) → ((x ≡ Truth all) × E) ⊎ ((x ≡ Truth (not all)) × S) → p x ≡ true → (E → each ≡ true) → (S → some ≡ true) → either_way p all each some ≡ true
verdict_has p all each some E S x (inl (e, h)) pass f g = or_first (p (Truth all) && each) _ (and_both (p (Truth all)) each (ap p (sym e) ∙ pass) (f h))
verdict_has p all each some E S x (inr (e, h)) pass f g = or_second (p (Truth all) && each) _ (and_both (p (Truth (not all))) some (ap p (sym e) ∙ pass) (g h))

module _ (W : Window) (w : AbsCells) where
  pub maybe : (b : Bool) (M : AbsValue → Type 0) → Passing M (passes b) → MayBe b M
  maybe b M r = (r.value, r.may, passes_is b r.value r.passes)

  quantified_in : (p : AbsValue → Bool) (all : Bool) (m : AbsNode → (AbsValue → Bool) → Bool) (M : AbsNode → AbsValue → Type 0) → either_way p all (list_all (λ n. m n (passes all)) (window_nodes W)) (list_any (λ n. m n (passes (not all))) (window_nodes W ++ Other ∷ [])) ≡ true
      → ((n : AbsNode) (q : AbsValue → Bool) → m n q ≡ true → Passing (M n) q)
      → Passing (λ x. ((x ≡ Truth all) × ((n : AbsNode) → is_in_window W n ≡ true → MayBe all (M n))) ⊎ ((x ≡ Truth (not all)) × (n : AbsNode) × (is_abs_node W n ≡ true) × MayBe (not all) (M n))) p
  quantified_in p all m M h at = elim (or_cases (p (Truth all) && list_all (λ n. m n (passes all)) (window_nodes W)) (p (Truth (not all)) && list_any (λ n. m n (passes (not all))) (window_nodes W ++ Other ∷ [])) h) [
    | inl e ↦ let q = and_parts (p (Truth all)) (list_all (λ n. m n (passes all)) (window_nodes W)) e in record { value = Truth all; may = inl (refl, λ n is. maybe all (M n) (at n (passes all) (window_all W (λ n. m n (passes all)) q.1 n is))); passes = q.0 }
    | inr e ↦ let q = and_parts (p (Truth (not all))) (list_any (λ n. m n (passes (not all))) (window_nodes W ++ Other ∷ [])) e in let r = abs_any W (λ n. m n (passes (not all))) q.1 in
        record { value = Truth (not all); may = inr (refl, r.value, r.may, maybe (not all) (M r.value) (at r.value (passes (not all)) r.passes)); passes = q.0 }
  ]

  quantified_has : (p : AbsValue → Bool) (all : Bool) (m : AbsNode → (AbsValue → Bool) → Bool) (M : AbsNode → AbsValue → Type 0) (x : AbsValue)
      → ((x ≡ Truth all) × ((n : AbsNode) → is_in_window W n ≡ true → MayBe all (M n))) ⊎ ((x ≡ Truth (not all)) × (n : AbsNode) × (is_abs_node W n ≡ true) × MayBe (not all) (M n)) → p x ≡ true
      → ((n : AbsNode) (q : AbsValue → Bool) (v : AbsValue) → M n v → q v ≡ true → m n q ≡ true)
      → either_way p all (list_all (λ n. m n (passes all)) (window_nodes W)) (list_any (λ n. m n (passes (not all))) (window_nodes W ++ Other ∷ [])) ≡ true
  quantified_has p all m M x (inl (e, each)) h at = or_first _ _ (and_both _ _ (ap p (sym e) ∙ h) (all_by_window W (λ n. m n (passes all)) (λ n is. let r = each n is in at n (passes all) r.0 r.1 (is_passes all r.0 r.2))))
  quantified_has p all m M x (inr (e, n, is, (v, mv, b))) h at = or_second (p (Truth all) && list_all (λ n. m n (passes all)) (window_nodes W)) _ (and_both _ _ (ap p (sym e) ∙ h) (abs_has W (λ n. m n (passes (not all))) n is (at n (passes (not all)) v mv (is_passes (not all) v b))))

  mutual
    unfolding May may

    -- what the test says has a value
    pub may_in : (env : List AbsNode) (x : Term) (p : AbsValue → Bool) → may W w env x p ≡ true → Passing (May W w env x) p
    may_in env (t.Known x) p h = record { value = constant x; may = refl; passes = h }
    may_in env (t.Var k) p h = record { value = bound env k; may = refl; passes = h }
    may_in env (t.Read' f _ at) p h = let l = lead_in env at (read_passes W w f p) h in let r = read_in W w f p l.value l.passes in record { value = r.value; may = (l.value, l.may, r.may); passes = r.passes }
    may_in env (NotForm b) p h = let r = may_in env b (λ x. p (Truth (not (truth x)))) h in record { value = Truth (not (truth r.value)); may = (r.value, r.may, refl); passes = r.passes }
    may_in env (t.And' _ parts) p h = verdict_in p true (may_each W w env parts true) (may_some W w env parts false) (MayEach W w env parts true) (MaySome W w env parts false) h (each_in env parts true) (some_in env parts false)
    may_in env (t.Or' _ parts) p h = verdict_in p false (may_each W w env parts false) (may_some W w env parts true) (MayEach W w env parts false) (MaySome W w env parts true) h (each_in env parts false) (some_in env parts true)
    may_in env (IfForm b d e) p h = elim (or_cases (may W w env b (passes true) && may W w env d p) (may W w env b (passes false) && may W w env e p) h) [
      | inl l ↦ let q = and_parts (may W w env b (passes true)) (may W w env d p) l in let r = may_in env d p q.1 in record { value = r.value; may = inl (maybe true (May W w env b) (may_in env b (passes true) q.0), r.may); passes = r.passes }
      | inr l ↦ let q = and_parts (may W w env b (passes false)) (may W w env e p) l in let r = may_in env e p q.1 in record { value = r.value; may = inr (maybe false (May W w env b) (may_in env b (passes false) q.0), r.may); passes = r.passes }
    ]
    may_in env (SameForm b d) p h =
        let r = may_in env b (λ x. may W w env d (same_passes p x)) h in let q = may_in env d (same_passes p r.value) r.passes in let z = same_in p r.value q.value q.passes in
        record { value = z.value; may = (r.value, q.value, r.may, q.may, z.may); passes = z.passes }
    may_in env (LessForm b d) p h =
        let r = may_in env b (λ x. may W w env d (λ y. p (Truth (int_lt (number x) (number y))))) h in let q = may_in env d (λ y. p (Truth (int_lt (number r.value) (number y)))) r.passes in
        record { value = Truth (int_lt (number r.value) (number q.value)); may = (r.value, q.value, r.may, q.may, refl); passes = q.passes }
    may_in env (ArithForm op b d) p h =
        let r = may_in env b (λ x. may W w env d (λ y. p (Number (values.arith op (number x) (number y))))) h in let q = may_in env d (λ y. p (Number (values.arith op (number r.value) (number y)))) r.passes in
        record { value = Number (values.arith op (number r.value) (number q.value)); may = (r.value, q.value, r.may, q.may, refl); passes = q.passes }
    may_in env (QuantifiedForm all b) p h =
        quantified_in p all (λ n q. may W w (env ++ n ∷ []) b q) (λ n x. May W w (env ++ n ∷ []) b x) h (λ n q e. may_in (env ++ n ∷ []) b q e)

    lead_in : {n : _} (env : List AbsNode) (row : Row_of-Term n) (q : Lead → Bool) → may_lead W w env row q ≡ true → Passing (MayLead W w env row) q
    lead_in env end_of-Term q h = record { value = At []; may = refl; passes = h }
    lead_in env (more_of-Term x rest) q h =
        let r = may_in env x (λ x. may_lead W w env rest (λ r. q (led_to x r))) h in let l = lead_in env rest (λ z. q (led_to r.value z)) r.passes in
        record { value = led_to r.value l.value; may = (r.value, l.value, r.may, l.may, refl); passes = l.passes }

    each_in : {n : _} (env : List AbsNode) (row : Row_of-Term n) (b : Bool) → may_each W w env row b ≡ true → MayEach W w env row b
    each_in env end_of-Term b h = tt
    each_in env (more_of-Term x rest) b h = let q = and_parts (may W w env x (passes b)) (may_each W w env rest b) h in (maybe b (May W w env x) (may_in env x (passes b) q.0), each_in env rest b q.1)

    some_in : {n : _} (env : List AbsNode) (row : Row_of-Term n) (b : Bool) → may_some W w env row b ≡ true → MaySome W w env row b
    some_in env end_of-Term b h = cc
    some_in env (more_of-Term x rest) b h = elim (or_cases (may W w env x (passes b)) (may_some W w env rest b) h) [ inl l ↦ inl (maybe b (May W w env x) (may_in env x (passes b) l)) | inr l ↦ inr (some_in env rest b l) ]

  mutual
    unfolding May may

    -- a value that passes makes the test true
    pub may_has : (env : List AbsNode) (x : Term) (p : AbsValue → Bool) (v : AbsValue) → May W w env x v → p v ≡ true → may W w env x p ≡ true
    may_has env (t.Known x) p v m h = ap p (sym m) ∙ h
    may_has env (t.Var k) p v m h = ap p (sym m) ∙ h
    may_has env (t.Read' f _ at) p v (r, l, m) h = lead_has env at (read_passes W w f p) r l (read_has W w f p r v m h)
    may_has env (NotForm b) p v (x, m, e) h = may_has env b (λ x. p (Truth (not (truth x)))) x m (ap p (sym e) ∙ h)
    may_has env (t.And' _ parts) p v m h = verdict_has p true _ _ (MayEach W w env parts true) (MaySome W w env parts false) v m h (each_has env parts true) (some_has env parts false)
    may_has env (t.Or' _ parts) p v m h = verdict_has p false _ _ (MayEach W w env parts false) (MaySome W w env parts true) v m h (each_has env parts false) (some_has env parts true)
    may_has env (IfForm b d e) p v (inl ((x, m, is), n)) h = or_first _ _ (and_both _ _ (may_has env b (passes true) x m is) (may_has env d p v n h))
    may_has env (IfForm b d e) p v (inr ((x, m, is), n)) h = or_second (may W w env b (passes true) && may W w env d p) _ (and_both _ _ (may_has env b (passes false) x m (is_passes false x is)) (may_has env e p v n h))
    may_has env (SameForm b d) p v (x, y, m, n, s) h = may_has env b (λ x. may W w env d (same_passes p x)) x m (may_has env d (same_passes p x) y n (same_has p x y v s h))
    may_has env (LessForm b d) p v (x, y, m, n, e) h = may_has env b (λ x. may W w env d (λ y. p (Truth (int_lt (number x) (number y))))) x m (may_has env d (λ y. p (Truth (int_lt (number x) (number y)))) y n (ap p (sym e) ∙ h))
    may_has env (ArithForm op b d) p v (x, y, m, n, e) h = may_has env b (λ x. may W w env d (λ y. p (Number (values.arith op (number x) (number y))))) x m (may_has env d (λ y. p (Number (values.arith op (number x) (number y)))) y n (ap p (sym e) ∙ h))
    may_has env (QuantifiedForm all b) p v m h = quantified_has p all (λ n q. may W w (env ++ n ∷ []) b q) (λ n x. May W w (env ++ n ∷ []) b x) v m h (λ n q x m e. may_has (env ++ n ∷ []) b q x m e)

    lead_has : {n : _} (env : List AbsNode) (row : Row_of-Term n) (q : Lead → Bool) (r : Lead) → MayLead W w env row r → q r ≡ true → may_lead W w env row q ≡ true
    lead_has env end_of-Term q r m h = ap q (sym m) ∙ h
    lead_has env (more_of-Term x rest) q r (v, l, m, n, e) h = may_has env x (λ x. may_lead W w env rest (λ r. q (led_to x r))) v m (lead_has env rest (λ z. q (led_to v z)) l n (ap q (sym e) ∙ h))

    each_has : {n : _} (env : List AbsNode) (row : Row_of-Term n) (b : Bool) → MayEach W w env row b → may_each W w env row b ≡ true
    each_has env end_of-Term b m = refl
    each_has env (more_of-Term x rest) b ((v, m, is), n) = and_both _ _ (may_has env x (passes b) v m (is_passes b v is)) (each_has env rest b n)

    some_has : {n : _} (env : List AbsNode) (row : Row_of-Term n) (b : Bool) → MaySome W w env row b → may_some W w env row b ≡ true
    some_has env end_of-Term b m = absurd m
    some_has env (more_of-Term x rest) b (inl (v, m, is)) = or_first _ _ (may_has env x (passes b) v m (is_passes b v is))
    some_has env (more_of-Term x rest) b (inr m) = or_second (may W w env x (passes b)) _ (some_has env rest b m)

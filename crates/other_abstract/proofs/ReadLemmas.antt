-- Places of cells, and what reads give.
use Rattle.std.proofs.Common.{◌≡◌, ℕ, zero, suc, ◌+◌, ◌-◌, ◌*◌, ◌^◌, ◌<◌, ◌≤◌, Bool, true, false, cond, List, [], ◌∷◌, length, map, drop, Some, refl, sym, ap, ◌∙◌, subst, arith}
use Rattle.std.specs.Prelude.{nat_le, ℤ, pos, negsuc, ◌+ℤ◌, ◌-ℤ◌, ◌≤ℤ◌, ◌<ℤ◌, unsigned_abs, min, slice_get, unwrap_or}
use Rattle.std.proofs.Math.Nat.{pow-zero, pow-suc}
use Rattle.term_core.specs.declared.machine.CellFamily.{CellFamily}
use Rattle.term_core.specs.Nodes.{nodes_from}
use Rattle.term_core.specs.Cells.{is_cell, first_place, choice_place, place_of}
use Rattle.other_abstract.specs.declared.node.AbsNode.{AbsNode}
use Rattle.other_abstract.specs.declared.value.AbsValue.TheVariants.{Undefined}
use Rattle.other_abstract.specs.Windows.{Window, size, node_number}
use Rattle.other_abstract.specs.May.{AbsCells, value_at}
use Rattle.other_abstract.specs.Tests.{count_of, ints_from}
use Rattle.other_abstract.specs.Lists.{choices_before}

-- the families before one
first_zero : (N : ℕ) (gs : List CellFamily) → first_place N gs 0 ≡ 0
first_zero N [] = refl
first_zero N (g ∷ gs) = refl

first_all : (N : ℕ) (fs : List CellFamily) (k f : ℕ) → length fs ≤ k → first_place N (drop k fs) f ≡ 0
first_all N [] zero f h = refl
first_all N [] (suc k) f h = refl
first_all N (g ∷ gs) zero f h = absurd (omega (arith, h))
first_all N (g ∷ gs) (suc k) f h = first_all N gs k f (omega (arith, h))

-- none is left where all families, or all before this one, are counted
pub first_end : (N : ℕ) (fs : List CellFamily) (f k count : ℕ) → count ≡ min (length fs) f → count ≤ k → first_place N (drop k fs) (f - k) ≡ 0
first_end N fs f k count is past = go (nat_le (length fs) k) refl
  where
    go : (b : Bool) → nat_le (length fs) k ≡ b → first_place N (drop k fs) (f - k) ≡ 0
    go true was = first_all N fs k (f - k) (grind (arith, was))
    go false was =
        let l : f - k ≡ 0 = grind (arith, was, is, past) in
        ap (first_place N (drop k fs)) l ∙ first_zero N (drop k fs)

first_step : (N : ℕ) (fs : List CellFamily) (k d : ℕ) (g : CellFamily) → slice_get fs k ≡ Some g → first_place N (drop k fs) (suc d) ≡ N ^ g.axes + first_place N (drop (suc k) fs) d
first_step N [] k d g e = cc
first_step N (x ∷ xs) zero d g e = let w : x ≡ g = cc in ap (λ (y : CellFamily). N ^ y.axes + first_place N xs d) w
first_step N (x ∷ xs) (suc k) d g e = first_step N xs k d g e

pub first_more : (N : ℕ) (fs : List CellFamily) (k f : ℕ) (g : CellFamily) → k < f → slice_get fs k ≡ Some g → first_place N (drop k fs) (f - k) ≡ N ^ g.axes + first_place N (drop (k + 1) fs) (f - (k + 1))
first_more N fs k f g h e =
    let a : f - k ≡ suc (f - (k + 1)) = omega (arith, h) in
    let b : suc k ≡ k + 1 = omega arith in
    ap (first_place N (drop k fs)) a ∙ first_step N fs k (f - (k + 1)) g e ∙ ap (λ j. N ^ g.axes + first_place N (drop j fs) (f - (k + 1))) b

-- the choices before one
pub choices_are : (N m before : ℕ) (ns : List AbsNode) → choices_before N m before ns ≡ before * N ^ length (map (node_number m) ns) + choice_place N (map (node_number m) ns)
choices_are N m before [] = let e : N ^ length {A = ℕ} [] ≡ 1 = pow-zero N in subst (λ k. before ≡ before * k + 0) (sym e) (omega arith)
choices_are N m before (n ∷ ns) =
    let more : N ^ suc (length (map (node_number m) ns)) ≡ N ^ length (map (node_number m) ns) * N = pow-suc N (length (map (node_number m) ns)) in
    choices_are N m (before * N + (node_number m n - 1)) ns ∙ grind (arith, more)

pub choices_from_0 : (N m : ℕ) (ns : List AbsNode) → choices_before N m 0 ns ≡ choice_place N (map (node_number m) ns)
choices_from_0 N m ns = choices_are N m 0 ns ∙ omega arith

-- the value of a cell, where there is one and where there is none
pub cell_there : (W : Window) (w : AbsCells) (f : ℕ) (ns : List AbsNode) → is_cell (size W) W.families f (map (node_number W.kept) ns) ≡ true
    → unwrap_or (slice_get w (first_place (size W) W.families f + choices_before (size W) W.kept 0 ns)) Undefined ≡ value_at W w f ns
cell_there W w f ns is =
    ap (λ k. unwrap_or (slice_get w (first_place (size W) W.families f + k)) Undefined) (choices_from_0 (size W) W.kept ns)
    ∙ sym (ap (λ b. cond b (unwrap_or (slice_get w (place_of (size W) W.families f (map (node_number W.kept) ns))) Undefined) Undefined) is)

pub cell_nowhere : (W : Window) (w : AbsCells) (f : ℕ) (ns : List AbsNode) → is_cell (size W) W.families f (map (node_number W.kept) ns) ≡ false → Undefined ≡ value_at W w f ns
cell_nowhere W w f ns is = sym (ap (λ b. cond b (unwrap_or (slice_get w (place_of (size W) W.families f (map (node_number W.kept) ns))) Undefined) Undefined) is)

le_product : (b N : ℕ) → 1 ≤ N → b ≤ b * N
le_product b zero h = absurd (omega (arith, h))
le_product b (suc n) h = let e : b * suc n ≡ b * n + b = grind arith in omega (arith, e)

pub choices_grow : (N m before : ℕ) (ns : List AbsNode) → 1 ≤ N → before ≤ choices_before N m before ns
choices_grow N m before [] some = omega arith
choices_grow N m before (n ∷ ns) some =
    let h = choices_grow N m (before * N + (node_number m n - 1)) ns some in
    let e : before ≤ before * N = le_product before N some in
    omega (arith, h, e)

pub drop_more : {X : Type 0} (xs : List X) (i : ℕ) (x : X) → slice_get xs i ≡ Some x → drop i xs ≡ x ∷ drop (suc i) xs
drop_more [] i x e = cc
drop_more (y ∷ ys) zero x e = let w : y ≡ x = cc in ap (λ z. z ∷ ys) w
drop_more (y ∷ ys) (suc i) x e = drop_more ys i x e

-- where the next place would pass a word, so does the last
pub choices_lost : (N m before : ℕ) (ns : List AbsNode) (i : ℕ) (n : AbsNode) (total : ℕ) → choices_before N m before (drop i ns) ≡ total → slice_get ns i ≡ Some n → 1 ≤ N
    → (before * N + (node_number m n - 1) < 2 ^ 64 → ⊥) → total < 2 ^ 64 → ⊥
choices_lost N m before ns i n total is there some past less =
    let e : choices_before N m (before * N + (node_number m n - 1)) (drop (suc i) ns) ≡ total = sym (ap (choices_before N m before) (drop_more ns i n there)) ∙ is in
    let g = choices_grow N m (before * N + (node_number m n - 1)) (drop (suc i) ns) some in
    past (omega (arith, e, g, less))

-- numbers in order
pub nodes_more : (i count : ℕ) → i < count → nodes_from i (count - i) ≡ i ∷ nodes_from (i + 1) (count - (i + 1))
nodes_more i count h =
    let e : count - i ≡ suc (count - (i + 1)) = omega (arith, h) in
    let f : suc i ≡ i + 1 = omega arith in
    ap (nodes_from i) e ∙ ap (λ k. i ∷ nodes_from k (count - (i + 1))) f

pub nodes_none : (i count : ℕ) → count ≤ i → nodes_from i (count - i) ≡ []
nodes_none i count h = let e : count - i ≡ 0 = omega (arith, h) in ap (nodes_from i) e

pub ints_first : (low : ℤ) (count : ℕ) → ints_from (low +ℤ pos 0) (count - 0) ≡ ints_from low count
ints_first low count = let e : low +ℤ pos 0 ≡ low = grind arith in let f : count - 0 ≡ count = omega arith in ap (λ z. ints_from z (count - 0)) e ∙ ap (ints_from low) f

pub ints_more : (low : ℤ) (k count : ℕ) → k < count → ints_from (low +ℤ pos k) (count - k) ≡ (low +ℤ pos k) ∷ ints_from (low +ℤ pos (k + 1)) (count - (k + 1))
ints_more low k count h =
    let e : count - k ≡ suc (count - (k + 1)) = omega (arith, h) in
    let f : low +ℤ pos k +ℤ pos 1 ≡ low +ℤ pos (k + 1) = grind arith in
    ap (ints_from (low +ℤ pos k)) e ∙ ap (λ z. (low +ℤ pos k) ∷ ints_from z (count - (k + 1))) f

pub ints_none : (z : ℤ) (k count : ℕ) → count ≤ k → ints_from z (count - k) ≡ []
ints_none z k count h = let e : count - k ≡ 0 = omega (arith, h) in ap (ints_from z) e

-- a range counted by how far its end is from its first number
pub count_made : (low high : ℤ) → low ≤ℤ high → low +ℤ pos (unsigned_abs (high -ℤ low) + 1) ≡ high +ℤ pos 1
count_made low high h = go (high -ℤ low) refl
  where
    go : (d : ℤ) → high -ℤ low ≡ d → low +ℤ pos (unsigned_abs d + 1) ≡ high +ℤ pos 1
    go (pos n) e = grind (arith, e)
    go (negsuc n) e = absurd (grind (arith, e, h))

pub count_is : (low high : ℤ) (count : ℕ) → low +ℤ pos count ≡ high +ℤ pos 1 → count_of (high -ℤ low +ℤ pos 1) ≡ count
count_is low high count h = go (high -ℤ low +ℤ pos 1) refl
  where
    go : (d : ℤ) → high -ℤ low +ℤ pos 1 ≡ d → count_of d ≡ count
    go (pos n) e = grind (arith, e, h)
    go (negsuc n) e = absurd (grind (arith, e, h))

pub none_counted : (low high : ℤ) → high <ℤ low → count_of (high -ℤ low +ℤ pos 1) ≡ 0
none_counted low high h = go (high -ℤ low +ℤ pos 1) refl
  where
    go : (d : ℤ) → high -ℤ low +ℤ pos 1 ≡ d → count_of d ≡ 0
    go (pos zero) e = refl
    go (pos (suc n)) e = absurd (grind (arith, e, h))
    go (negsuc n) e = refl

-- the numbers so counted are in the range
pub within_range : (low high : ℤ) (k count : ℕ) → k < count → low +ℤ pos count ≡ high +ℤ pos 1 → (low +ℤ pos k) ≤ℤ high
within_range low high k count h e = grind (arith, h, e)

pub ruleset reads = (first_end, first_more, choices_lost, cell_there, cell_nowhere, nodes_more, nodes_none, ints_more, ints_none, count_made, count_is, none_counted, ints_first, within_range)

-- Each place of a state is that of a cell, and each place among the choices that of a choice.
use Rattle.std.proofs.Common.{◌≡◌, ℕ, zero, suc, ◌+◌, ◌-◌, ◌*◌, ◌^◌, ◌<◌, ◌≤◌, Bool, true, false, ◌&&◌, List, [], ◌∷◌, length, map, Some, refl, sym, ap, ◌∙◌, subst, arith}
use Rattle.std.specs.Prelude.{nat_lt, nat_eq, slice_get}
use Rattle.std.specs.List.{list_all}
use Rattle.std.proofs.lemmas.Option.{slice_get_within}
use Rattle.std.proofs.lemmas.List.{length-append, length-map}
use Rattle.std.proofs.Math.Nat.{pow-zero, pow-succ'}
use Rattle.term_core.specs.declared.machine.CellFamily.{CellFamily}
use Rattle.term_core.specs.Nodes.{is_node, choices}
use Rattle.term_core.specs.Cells.{Cell, cells, cells_from, is_cell, choice_place, place_of}
use Rattle.term_core.specs.Views.{cell_count}
use Rattle.term_core.proofs.CellLemmas.{length-choices, choice_at, places}

-- a number below so many blocks lies in one of them
record InBlock (count len i : ℕ) : Type 0 where
  block : ℕ
  within : ℕ
  is_block : block < count
  is_within : within < len
  sum : block * len + within ≡ i

in_block : (count len i : ℕ) → i < count * len → InBlock count len i
in_block zero len i h = absurd (omega (arith, h))
in_block (suc count) len i h = go (nat_lt i len) refl (λ less. in_block count len (i - len) less)
  where
    go : (b : Bool) → nat_lt i len ≡ b → (i - len < count * len → InBlock count len (i - len)) → InBlock (suc count) len i
    go true was again = record { block = 0; within = i; is_block = omega arith; is_within = grind (arith, was); sum = omega arith }
    go false was again =
        let past : len ≤ i = grind (arith, was) in
        let rest = again (omega (arith, h, past)) in
        let whole = rest.sum in
        record { block = suc rest.block; within = rest.within; is_block = let b = rest.is_block in omega (arith, b); is_within = rest.is_within; sum = omega (arith, whole, past) }

-- each place below so many axes is that of some nodes
record Choice (N axes i : ℕ) : Type 0 where
  at : List ℕ
  count : length at ≡ axes
  nodes : list_all (is_node N) at ≡ true
  place : choice_place N at ≡ i

choice_of : (N count i : ℕ) → i < N ^ count → Choice N count i
choice_of N zero i h =
    let one : i < 1 = subst (λ m. i < m) (pow-zero N) h in
    record { at = []; count = refl; nodes = refl; place = omega (arith, one) }
choice_of N (suc count) i h =
    let b = in_block N (N ^ count) i (subst (λ m. i < m) (pow-succ' N count) h) in
    let rest = choice_of N count b.within b.is_within in
    let less = b.is_block in
    let node : is_node N (suc b.block) ≡ true = grind (arith, less) in
    record {
      at = suc b.block ∷ rest.at;
      count = ap suc rest.count;
      nodes = ap (λ x. x && list_all (is_node N) rest.at) node ∙ rest.nodes;
      place = ap (λ m. m * N ^ length rest.at + choice_place N rest.at) (let e : suc b.block - 1 ≡ b.block = omega arith in e)
          ∙ ap (λ m. b.block * N ^ m + choice_place N rest.at) rest.count
          ∙ ap (λ m. b.block * N ^ count + m) rest.place
          ∙ b.sum;
    }

-- each place below the number of cells is that of a cell
pub record Stands (N : ℕ) (fs : List CellFamily) (i : ℕ) : Type 0 where
  pub family : ℕ
  pub at : List ℕ
  pub cell : is_cell N fs family at ≡ true
  pub place : place_of N fs family at ≡ i

pub cell_of : (N : ℕ) (fs : List CellFamily) (i : ℕ) → i < cell_count N fs → Stands N fs i
cell_of N [] i h = absurd (omega (arith, h))
cell_of N (f ∷ fs) i h = go (nat_lt i (N ^ f.axes)) refl (λ less. cell_of N fs (i - N ^ f.axes) less)
  where
    go : (b : Bool) → nat_lt i (N ^ f.axes) ≡ b → (i - N ^ f.axes < cell_count N fs → Stands N fs (i - N ^ f.axes)) → Stands N (f ∷ fs) i
    go true was again =
        let c = choice_of N f.axes i (grind (arith, was)) in
        let count = c.count in
        let axes : nat_eq (length c.at) f.axes ≡ true = grind (arith, count) in
        let place = c.place in
        record { family = 0; at = c.at; cell = ap (λ x. x && list_all (is_node N) c.at) axes ∙ c.nodes; place = omega (arith, place) }
    go false was again =
        let past : N ^ f.axes ≤ i = grind (arith, was) in
        let rest = again (omega (arith, h, past)) in
        let place = rest.place in
        record { family = suc rest.family; at = rest.at; cell = rest.cell; place = omega (arith, place, past) }

-- there are as many cells as places
length-cells_from : (N first : ℕ) (fs : List CellFamily) → length (cells_from N first fs) ≡ cell_count N fs
length-cells_from N first [] = refl
length-cells_from N first (f ∷ fs) =
    let mk : List ℕ → Cell = λ at. record { family = first; at = at } in
    length-append (map mk (choices N f.axes)) (cells_from N (suc first) fs)
    ∙ ap (λ m. m + length (cells_from N (suc first) fs)) (length-map (choices N f.axes) mk ∙ length-choices N f.axes)
    ∙ ap (λ m. N ^ f.axes + m) (length-cells_from N (suc first) fs)

pub length-cells : (N : ℕ) (fs : List CellFamily) → length (cells N fs) ≡ cell_count N fs
length-cells N fs = length-cells_from N 0 fs

-- whatever stands among the choices is one, at its place
pub choices_back : (N count i : ℕ) (ns : List ℕ) → slice_get (choices N count) i ≡ Some ns → (length ns ≡ count) × (list_all (is_node N) ns ≡ true) × (choice_place N ns ≡ i)
choices_back N count i ns e =
    let c = choice_of N count i (subst (λ m. i < m) (length-choices N count) (slice_get_within (choices N count) i ns e)) in
    let same : ns ≡ c.at = some_is (sym e ∙ ap (slice_get (choices N count)) (sym c.place) ∙ ap (λ m. slice_get (choices N m) (choice_place N c.at)) (sym c.count) ∙ choice_at N c.at c.nodes) in
    (ap length same ∙ c.count, ap (list_all (is_node N)) same ∙ c.nodes, ap (choice_place N) same ∙ c.place)
  where
    some_is : {a b : List ℕ} → Some a ≡ Some b → a ≡ b
    some_is e = cc

-- and among the cells
pub cells_back : (N : ℕ) (fs : List CellFamily) (i : ℕ) (d : Cell) → slice_get (cells N fs) i ≡ Some d → (is_cell N fs d.family d.at ≡ true) × (place_of N fs d.family d.at ≡ i)
cells_back N fs i d e =
    let c = cell_of N fs i (subst (λ m. i < m) (length-cells N fs) (slice_get_within (cells N fs) i d e)) in
    let same : d ≡ record { family = c.family; at = c.at } = some_is (sym e ∙ ap (slice_get (cells N fs)) (sym c.place) ∙ places N fs c.family c.at c.cell) in
    (ap (λ (x : Cell). is_cell N fs x.family x.at) same ∙ c.cell, ap (λ (x : Cell). place_of N fs x.family x.at) same ∙ c.place)
  where
    some_is : {a b : Cell} → Some a ≡ Some b → a ≡ b
    some_is e = cc

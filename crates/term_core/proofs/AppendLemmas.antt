-- Families after other families: cells, what they may have, and values.
use Rattle.std.proofs.Common.{◌≡◌, ℕ, zero, suc, ◌+◌, ◌^◌, ◌<◌, Bool, true, false, cond, List, [], ◌∷◌, ◌++◌, length, map, refl, sym, ap, ◌∙◌, append_assoc, arith}
use Rattle.std.specs.Prelude.{nat_eq, slice_get, unwrap_or, ◌&&◌}
use Rattle.std.specs.List.{list_all}
use Rattle.std.specs.Option.{option_map_or}
use Rattle.term_core.specs.declared.value.Value.{Value}
use Rattle.term_core.specs.declared.value.Value.TheVariants as v
use Rattle.term_core.specs.declared.machine.CellFamily.{CellFamily}
use Rattle.term_core.specs.Nodes.{is_node, choices}
use Rattle.term_core.specs.Cells.{Cell, State, cells, cells_from, is_cell, first_place, choice_place, place_of, cell_value, may_have, family_may_have}
use Rattle.term_core.specs.Views.{cell_count}
use Rattle.term_core.proofs.FrameLemmas.{get_first, get_past}
use Rattle.term_core.proofs.OrderLemmas.{length-cells}
use Rattle.term_core.proofs.PlaceLemmas.{cell_place, cell_room}

-- the cells of the later families come after those of the first
cells_append : (N first : ℕ) (fs gs : List CellFamily) → cells_from N first (fs ++ gs) ≡ cells_from N first fs ++ cells_from N (first + length fs) gs
cells_append N first [] gs = ap (λ k. cells_from N k gs) (omega arith)
cells_append N first (f ∷ fs) gs =
    let here : List Cell = map (λ at. record { family = first; at = at }) (choices N f.axes) in
    ap (λ xs. here ++ xs) (cells_append N (suc first) fs gs)
    ∙ ap (λ k. here ++ (cells_from N (suc first) fs ++ cells_from N k gs)) (omega arith)
    ∙ sym (append_assoc here (cells_from N (suc first) fs) (cells_from N (first + suc (length fs)) gs))

pub appended_cells : (N : ℕ) (fs gs : List CellFamily) → cells N (fs ++ gs) ≡ cells N fs ++ cells_from N (length fs) gs
appended_cells N fs gs = cells_append N 0 fs gs ∙ ap (λ k. cells N fs ++ cells_from N k gs) (omega arith)

get_later : {X : Type 0} (xs ys : List X) (k : ℕ) → slice_get (xs ++ ys) (length xs + k) ≡ slice_get ys k
get_later xs ys k = get_past xs ys (length xs + k) (omega arith) ∙ ap (slice_get ys) (omega arith)

place_first : (N : ℕ) (fs gs : List CellFamily) (f : ℕ) → f < length fs → first_place N (fs ++ gs) f ≡ first_place N fs f
place_first N [] gs f h = absurd (omega (arith, h))
place_first N (g ∷ fs) gs zero h = refl
place_first N (g ∷ fs) gs (suc f) h = ap (λ k. N ^ g.axes + k) (place_first N fs gs f (omega (arith, h)))

place_later : (N : ℕ) (fs gs : List CellFamily) (f : ℕ) → first_place N (fs ++ gs) (length fs + f) ≡ cell_count N fs + first_place N gs f
place_later N [] gs f =
    let e : 0 + f ≡ f = omega arith in
    let sum : first_place N gs f ≡ 0 + first_place N gs f = omega arith in
    ap (first_place N gs) e ∙ sum
place_later N (g ∷ fs) gs f =
    let e : suc (length fs) + f ≡ suc (length fs + f) = omega arith in
    let sum : N ^ g.axes + (cell_count N fs + first_place N gs f) ≡ N ^ g.axes + cell_count N fs + first_place N gs f = omega arith in
    ap (first_place N (g ∷ (fs ++ gs))) e ∙ ap (λ k. N ^ g.axes + k) (place_later N fs gs f) ∙ sum

module _ (N : ℕ) (fs gs : List CellFamily) (s t : State) (count : length s ≡ length (cells N fs)) where
  pub first_cell : (f : ℕ) (at : List ℕ) → f < length fs → is_cell N (fs ++ gs) f at ≡ is_cell N fs f at
  first_cell f at h = ap (λ o. option_map_or (λ (family : CellFamily). nat_eq (length at) family.axes && list_all (is_node N) at) o false) (get_first fs gs f h)

  pub later_cell : (f : ℕ) (at : List ℕ) → is_cell N (fs ++ gs) (length fs + f) at ≡ is_cell N gs f at
  later_cell f at = ap (λ o. option_map_or (λ (family : CellFamily). nat_eq (length at) family.axes && list_all (is_node N) at) o false) (get_later fs gs f)

  pub first_may : (f : ℕ) (x : Value) → f < length fs → may_have N (fs ++ gs) f x ≡ may_have N fs f x
  first_may f x h = ap (λ o. option_map_or (λ (family : CellFamily). family_may_have N family x) o false) (get_first fs gs f h)

  pub later_may : (f : ℕ) (x : Value) → may_have N (fs ++ gs) (length fs + f) x ≡ may_have N gs f x
  later_may f x = ap (λ o. option_map_or (λ (family : CellFamily). family_may_have N family x) o false) (get_later fs gs f)

  pub first_value : (f : ℕ) (at : List ℕ) → f < length fs → cell_value N (fs ++ gs) (s ++ t) f at ≡ cell_value N fs s f at
  first_value f at h = ap (λ b. cond b (unwrap_or (slice_get (s ++ t) (place_of N (fs ++ gs) f at)) v.Undefined) v.Undefined) (first_cell f at h) ∙ go (is_cell N fs f at) refl
    where
      go : (b : Bool) → is_cell N fs f at ≡ b → cond b (unwrap_or (slice_get (s ++ t) (place_of N (fs ++ gs) f at)) v.Undefined) v.Undefined ≡ cond b (unwrap_or (slice_get s (place_of N fs f at)) v.Undefined) v.Undefined
      go false was = refl
      go true was =
          let room = cell_room N fs f (length s) at was (count ∙ length-cells N fs) in
          let within = cell_place N fs f (length s) at was room in
          ap (λ k. unwrap_or (slice_get (s ++ t) (k + choice_place N at)) v.Undefined) (place_first N fs gs f h)
          ∙ ap (λ o. unwrap_or o v.Undefined) (get_first s t (place_of N fs f at) within)

  pub later_value : (f : ℕ) (at : List ℕ) → cell_value N (fs ++ gs) (s ++ t) (length fs + f) at ≡ cell_value N gs t f at
  later_value f at =
      ap (λ b. cond b (unwrap_or (slice_get (s ++ t) (place_of N (fs ++ gs) (length fs + f) at)) v.Undefined) v.Undefined) (later_cell f at)
      ∙ ap (λ o. cond (is_cell N gs f at) (unwrap_or o v.Undefined) v.Undefined)
      (ap (slice_get (s ++ t)) (ap (λ k. k + choice_place N at) (place_later N fs gs f ∙ ap (λ k. k + first_place N gs f) (sym (length-cells N fs) ∙ sym count)) ∙ sum)
      ∙ get_later s t (place_of N gs f at))
    where
      sum : length s + first_place N gs f + choice_place N at ≡ length s + (first_place N gs f + choice_place N at)
      sum = omega arith

pub first_families : (N : ℕ) (fs gs : List CellFamily) (s t : State) (f : ℕ) (at : List ℕ) (x : Value) → length s ≡ length (cells N fs) → f < length fs
    → (is_cell N (fs ++ gs) f at ≡ is_cell N fs f at) × (may_have N (fs ++ gs) f x ≡ may_have N fs f x) × (cell_value N (fs ++ gs) (s ++ t) f at ≡ cell_value N fs s f at)
first_families N fs gs s t f at x count h = (first_cell N fs gs s t count f at h, first_may N fs gs s t count f x h, first_value N fs gs s t count f at h)

pub later_families : (N : ℕ) (fs gs : List CellFamily) (s t : State) (f : ℕ) (at : List ℕ) (x : Value) → length s ≡ length (cells N fs)
    → (is_cell N (fs ++ gs) (length fs + f) at ≡ is_cell N gs f at) × (may_have N (fs ++ gs) (length fs + f) x ≡ may_have N gs f x) × (cell_value N (fs ++ gs) (s ++ t) (length fs + f) at ≡ cell_value N gs t f at)
later_families N fs gs s t f at x count = (later_cell N fs gs s t count f at, later_may N fs gs s t count f x, later_value N fs gs s t count f at)

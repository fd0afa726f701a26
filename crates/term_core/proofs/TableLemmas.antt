-- Tables of any type of value: at each cell the value that was put there. States are tables of values.
use Rattle.std.proofs.Common.{◌≡◌, ℕ, suc, ◌<◌, Bool, true, false, cond, List, [], ◌∷◌, length, Some, refl, sym, ap, ◌∙◌, subst, arith}
use Rattle.std.specs.Prelude.{nat_eq, slice_get, unwrap_or}
use Rattle.std.specs.Option.{option_map}
use Rattle.std.proofs.lemmas.Option.{slice_get-map, slice_get_within, slice_get-get_or, unwrap_or-slice_get}
use Rattle.std.proofs.lemmas.List.{length-map}
use Rattle.term_core.specs.declared.value.Value.{Value}
use Rattle.term_core.specs.declared.value.Value.TheVariants as v
use Rattle.term_core.specs.declared.machine.CellFamily.{CellFamily}
use Rattle.term_core.specs.Cells.{Cell, State, cells, is_cell, place_of, table, table_value, table_with, cell_value, with_cell, filled}
use Rattle.term_core.proofs.FrameLemmas.{get_set_same, get_set_other}
use Rattle.term_core.proofs.CellLemmas.{places, one_cell}
use Rattle.term_core.proofs.OrderLemmas.{Stands, cell_of, length-cells}

-- the value at a cell is that at its place
table_value_is : {X : Type 0} (N : ℕ) (fs : List CellFamily) (none : X) (s : List X) (f : ℕ) (at : List ℕ) → is_cell N fs f at ≡ true → table_value N fs none s f at ≡ unwrap_or (slice_get s (place_of N fs f at)) none
table_value_is N fs none s f at h = ap (λ b. cond b (unwrap_or (slice_get s (place_of N fs f at)) none) none) h

-- there is a value for each cell
pub length-table : {X : Type 0} (N : ℕ) (fs : List CellFamily) (g : ℕ → List ℕ → X) → length (table N fs g) ≡ length (cells N fs)
length-table N fs g = length-map (cells N fs) (λ (c : Cell). g c.family c.at)

-- the table of a function has its values
pub table_there : {X : Type 0} (N : ℕ) (fs : List CellFamily) (none : X) (g : ℕ → List ℕ → X) (f : ℕ) (at : List ℕ) → is_cell N fs f at ≡ true → table_value N fs none (table N fs g) f at ≡ g f at
table_there N fs none g f at h =
    table_value_is N fs none (table N fs g) f at h
    ∙ ap (λ o. unwrap_or o none) (slice_get-map (λ (c : Cell). g c.family c.at) (cells N fs) (place_of N fs f at) ∙ ap (option_map (λ (c : Cell). g c.family c.at)) (places N fs f at h))

-- a cell that is written has the new value
pub written_there : {X : Type 0} (N : ℕ) (fs : List CellFamily) (none : X) (s : List X) (f : ℕ) (at : List ℕ) (x : X) → length s ≡ length (cells N fs) → is_cell N fs f at ≡ true → table_value N fs none (table_with N fs s f at x) f at ≡ x
written_there N fs none s f at x count h =
    let within : place_of N fs f at < length s = subst (λ m. place_of N fs f at < m) (sym count) (slice_get_within (cells N fs) (place_of N fs f at) (record { family = f; at = at }) (places N fs f at h)) in
    table_value_is N fs none (table_with N fs s f at x) f at h ∙ ap (λ o. unwrap_or o none) (get_set_same s (place_of N fs f at) x within)

-- the cells at other places keep their values
pub beside_there : {X : Type 0} (N : ℕ) (fs : List CellFamily) (none : X) (s : List X) (f g : ℕ) (at other : List ℕ) (x : X) → is_cell N fs g other ≡ true → nat_eq (place_of N fs g other) (place_of N fs f at) ≡ false → table_value N fs none (table_with N fs s f at x) g other ≡ table_value N fs none s g other
beside_there N fs none s f g at other x k was =
    table_value_is N fs none (table_with N fs s f at x) g other k
    ∙ ap (λ o. unwrap_or o none) (get_set_other s (place_of N fs f at) (place_of N fs g other) x was)
    ∙ sym (table_value_is N fs none s g other k)

-- the others keep theirs
pub others_there : {X : Type 0} (N : ℕ) (fs : List CellFamily) (none : X) (s : List X) (f g : ℕ) (at other : List ℕ) (x : X) → is_cell N fs f at ≡ true → is_cell N fs g other ≡ true → ((f ≡ g) × (at ≡ other) → ⊥) → table_value N fs none (table_with N fs s f at x) g other ≡ table_value N fs none s g other
others_there N fs none s f g at other x h k differ = go (nat_eq (place_of N fs g other) (place_of N fs f at)) refl
  where
    go : (b : Bool) → nat_eq (place_of N fs g other) (place_of N fs f at) ≡ b → table_value N fs none (table_with N fs s f at x) g other ≡ table_value N fs none s g other
    go false was = beside_there N fs none s f g at other x k was
    go true was = absurd (differ (one_cell N fs f g at other h k was))

-- lists of one length that agree at each place are one
pub lists_same : {X : Type 0} (s t : List X) → length s ≡ length t → ((i : ℕ) → i < length s → slice_get s i ≡ slice_get t i) → s ≡ t
lists_same [] [] long same = refl
lists_same [] (y ∷ ys) long same = let e : 0 ≡ suc (length ys) = long in absurd (omega (arith, e))
lists_same (x ∷ xs) [] long same = let e : suc (length xs) ≡ 0 = long in absurd (omega (arith, e))
lists_same {X} (x ∷ xs) (y ∷ ys) long same =
    let head : x ≡ y = some_is (same 0 (omega arith)) in
    let less : length xs ≡ length ys = suc_is long in
    let rest : xs ≡ ys = lists_same xs ys less (λ i l. same (suc i) (omega (arith, l))) in
    ap (λ z. z ∷ xs) head ∙ ap (λ zs. y ∷ zs) rest
  where
    some_is : {a b : X} → Some a ≡ Some b → a ≡ b
    some_is e = cc

    suc_is : {a b : ℕ} → suc a ≡ suc b → a ≡ b
    suc_is e = omega (arith, e)

-- tables with one value at each cell are one
pub tables_same : {X : Type 0} (N : ℕ) (fs : List CellFamily) (none : X) (s t : List X) → length s ≡ length (cells N fs) → length t ≡ length (cells N fs) → ((f : ℕ) (at : List ℕ) → is_cell N fs f at ≡ true → table_value N fs none s f at ≡ table_value N fs none t f at) → s ≡ t
tables_same {X} N fs none s t long long' same = lists_same s t (long ∙ sym long') at_place
  where
    known : (u : List X) (i : ℕ) (c : Stands N fs i) → i < length u → slice_get u i ≡ Some (table_value N fs none u c.family c.at)
    known u i c less =
        slice_get-get_or u i none less
        ∙ ap Some (sym (unwrap_or-slice_get u i none) ∙ ap (λ k. unwrap_or (slice_get u k) none) (sym c.place) ∙ sym (table_value_is N fs none u c.family c.at c.cell))

    at_place : (i : ℕ) → i < length s → slice_get s i ≡ slice_get t i
    at_place i less =
        let c = cell_of N fs i (subst (λ m. i < m) (long ∙ length-cells N fs) less) in
        known s i c less ∙ ap Some (same c.family c.at c.cell) ∙ sym (known t i c (subst (λ m. i < m) (long ∙ sym long') less))

-- the same of states
pub filled_value : (N : ℕ) (fs : List CellFamily) (g : ℕ → List ℕ → Value) (f : ℕ) (at : List ℕ) → is_cell N fs f at ≡ true → cell_value N fs (filled N fs g) f at ≡ g f at
filled_value N fs = table_there N fs v.Undefined

pub written_value : (N : ℕ) (fs : List CellFamily) (s : State) (f : ℕ) (at : List ℕ) (x : Value) → length s ≡ length (cells N fs) → is_cell N fs f at ≡ true → cell_value N fs (with_cell N fs s f at x) f at ≡ x
written_value N fs = written_there N fs v.Undefined

pub beside_value : (N : ℕ) (fs : List CellFamily) (s : State) (f g : ℕ) (at other : List ℕ) (x : Value) → is_cell N fs g other ≡ true → nat_eq (place_of N fs g other) (place_of N fs f at) ≡ false → cell_value N fs (with_cell N fs s f at x) g other ≡ cell_value N fs s g other
beside_value N fs = beside_there N fs v.Undefined

pub other_value : (N : ℕ) (fs : List CellFamily) (s : State) (f g : ℕ) (at other : List ℕ) (x : Value) → is_cell N fs f at ≡ true → is_cell N fs g other ≡ true → ((f ≡ g) × (at ≡ other) → ⊥) → cell_value N fs (with_cell N fs s f at x) g other ≡ cell_value N fs s g other
other_value N fs = others_there N fs v.Undefined

pub states_same : (N : ℕ) (fs : List CellFamily) (s t : State) → length s ≡ length (cells N fs) → length t ≡ length (cells N fs) → ((f : ℕ) (at : List ℕ) → is_cell N fs f at ≡ true → cell_value N fs s f at ≡ cell_value N fs t f at) → s ≡ t
states_same N fs = tables_same N fs v.Undefined

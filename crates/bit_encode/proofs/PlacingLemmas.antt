-- Where cells stand in the list of a window's cells, and what their sets say.
use Rattle.std.proofs.Common.{◌≡◌, ℕ, zero, suc, ◌+◌, ◌*◌, ◌-◌, ◌^◌, ◌<◌, ◌≤◌, Bool, true, false, cond, List, [], ◌∷◌, length, map, get_or, None, Some, refl, sym, ap, ◌∙◌, subst, arith}
use Rattle.std.specs.Prelude.{slice_get, unwrap_or, SomeIff, IsTrue, Option}
use Rattle.std.proofs.Math.Nat.{pow-zero, pow-suc}
use Rattle.circuit_core.specs.declared.edge.Edge.{Edge}
use Rattle.term_core.specs.Cells.{is_cell, first_place, choice_place, place_of}
use Rattle.other_abstract.specs.declared.node.AbsNode.{AbsNode}
use Rattle.other_abstract.specs.declared.value.AbsValue.{AbsValue}
use Rattle.other_abstract.specs.declared.value.AbsValue.TheVariants.{Undefined}
use Rattle.other_abstract.specs.declared.lead.Lead.{Lead}
use Rattle.other_abstract.specs.declared.lead.Lead.TheVariants.{At, Anywhere, Nowhere}
use Rattle.other_abstract.specs.Windows.{Window, size, node_number}
use Rattle.other_abstract.specs.May.{AbsCells, value_at}
use Rattle.other_abstract.specs.Tests.{read_passes}
use Rattle.other_abstract.specs.Lists.{choices_before}
use Rattle.bit_encode.specs.declared.set.Possible.{Possible}
use Rattle.bit_encode.specs.Coding.{Shows, IsExactly}
use Rattle.bit_encode.specs.Leads.{placed_value, placed_set, numbers_of, set_at, set_passes, read_held}

-- the choices before one
choices_are : (N m before : ℕ) (ns : List AbsNode) → choices_before N m before ns ≡ before * N ^ length (map (node_number m) ns) + choice_place N (map (node_number m) ns)
choices_are N m before [] = let e : N ^ length {A = ℕ} [] ≡ 1 = pow-zero N in subst (λ k. before ≡ before * k + 0) (sym e) (omega arith)
choices_are N m before (n ∷ ns) =
    let more : N ^ suc (length (map (node_number m) ns)) ≡ N ^ length (map (node_number m) ns) * N = pow-suc N (length (map (node_number m) ns)) in
    choices_are N m (before * N + (node_number m n - 1)) ns ∙ grind (arith, more)

pub choices_from_0 : (N m : ℕ) (ns : List AbsNode) → choices_before N m 0 ns ≡ choice_place N (map (node_number m) ns)
choices_from_0 N m ns = choices_are N m 0 ns ∙ omega arith

-- the place of a cell, exactly
abbrev pub IsPlace : Window → ℕ → List AbsNode → Option ℕ → Type 0
IsPlace W f ns place = SomeIff place
    (IsTrue (is_cell (size W) W.families f (numbers_of W ns)) × (place_of (size W) W.families f (numbers_of W ns) < 2 ^ 64))
    (place_of (size W) W.families f (numbers_of W ns))

pub place_there : (W : Window) (f : ℕ) (ns : List AbsNode) (place : Option ℕ) → is_cell (size W) W.families f (numbers_of W ns) ≡ true
    → SomeIff place (first_place (size W) W.families f + choices_before (size W) W.kept 0 ns < 2 ^ 64) (first_place (size W) W.families f + choices_before (size W) W.kept 0 ns)
    → IsPlace W f ns place
place_there W f ns place is sum = go place (subst (λ c. SomeIff place (first_place (size W) W.families f + c < 2 ^ 64) (first_place (size W) W.families f + c)) (choices_from_0 (size W) W.kept ns) sum)
  where
    go : (place : Option ℕ) → SomeIff place (place_of (size W) W.families f (numbers_of W ns) < 2 ^ 64) (place_of (size W) W.families f (numbers_of W ns)) → IsPlace W f ns place
    go None h = λ both. h both.1
    go (Some k) h = ((is, h.0), h.1)

pub place_nowhere : (W : Window) (f : ℕ) (ns : List AbsNode) → is_cell (size W) W.families f (numbers_of W ns) ≡ false → IsPlace W f ns None
place_nowhere W f ns is = λ both. differ (sym is ∙ both.0)
  where
    differ : false ≡ true → ⊥
    differ e = cc

pub past_end : {X : Type 0} (xs : List X) (k : ℕ) → length xs ≤ k → slice_get xs k ≡ None
past_end [] k h = refl
past_end (x ∷ xs) zero h = absurd (omega (arith, h))
past_end (x ∷ xs) (suc k) h = past_end xs k (omega (arith, h))

pub found : {X : Type 0} (xs : List X) (k : ℕ) (d : X) → k < length xs → slice_get xs k ≡ Some (get_or xs k d)
found [] k d h = absurd (omega (arith, h))
found (x ∷ xs) zero d h = refl
found (x ∷ xs) (suc k) d h = found xs k d (omega (arith, h))

-- a list without the cell, where it is shorter than 2^64
lost : (W : Window) (f : ℕ) (ns : List AbsNode) {X : Type 0} (xs : List X) → length xs < 2 ^ 64 → IsPlace W f ns None
    → cond (is_cell (size W) W.families f (numbers_of W ns)) (slice_get xs (place_of (size W) W.families f (numbers_of W ns))) None ≡ None
lost W f ns xs short none = go (is_cell (size W) W.families f (numbers_of W ns)) refl
  where
    go : (b : Bool) → is_cell (size W) W.families f (numbers_of W ns) ≡ b → cond b (slice_get xs (place_of (size W) W.families f (numbers_of W ns))) None ≡ None
    go false e = refl
    go true e = past_end xs (place_of (size W) W.families f (numbers_of W ns)) (far (λ less. none (e, less)))
      where
        far : (place_of (size W) W.families f (numbers_of W ns) < 2 ^ 64 → ⊥) → length xs ≤ place_of (size W) W.families f (numbers_of W ns)
        far h = grind (arith, h, short)

-- the value at the place is that of the cell
pub placed_is : (W : Window) (w : AbsCells) (f : ℕ) (ns : List AbsNode) (place : Option ℕ) → length w < 2 ^ 64 → IsPlace W f ns place → placed_value w place ≡ value_at W w f ns
placed_is W w f ns None short is = sym (none_there (lost W f ns w short is))
  where
    none_there : cond (is_cell (size W) W.families f (numbers_of W ns)) (slice_get w (place_of (size W) W.families f (numbers_of W ns))) None ≡ None → value_at W w f ns ≡ Undefined
    none_there = go (is_cell (size W) W.families f (numbers_of W ns))
      where
        go : (b : Bool) → cond b (slice_get w (place_of (size W) W.families f (numbers_of W ns))) None ≡ None → cond b (unwrap_or (slice_get w (place_of (size W) W.families f (numbers_of W ns))) Undefined) Undefined ≡ Undefined
        go true e = ap (λ o. unwrap_or o Undefined) e
        go false e = refl
placed_is W w f ns (Some k) short is =
    ap (λ j. unwrap_or (slice_get w j) Undefined) is.1
    ∙ sym (ap (λ b. cond b (unwrap_or (slice_get w (place_of (size W) W.families f (numbers_of W ns))) Undefined) Undefined) is.0.0)

-- the set at the place is that of the cell
pub set_placed : (W : Window) (cells : List (List Possible)) (f : ℕ) (ns : List AbsNode) (place : Option ℕ) → length cells < 2 ^ 64 → IsPlace W f ns place → placed_set cells place ≡ set_at W cells f ns
set_placed W cells f ns None short is = sym (lost W f ns cells short is)
set_placed W cells f ns (Some k) short is =
    ap (slice_get cells) is.1
    ∙ sym (ap (λ b. cond b (slice_get cells (place_of (size W) W.families f (numbers_of W ns))) None) is.0.0)

-- where the sets show a state, the set of a cell says what its value is
seen_at : (val : Edge → Bool) (cells : List (List Possible)) (w : AbsCells) (k : ℕ) (p : AbsValue → Bool) → length cells ≡ length w
    → ((j : ℕ) → j < length w → IsExactly val (get_or cells j []) (get_or w j Undefined)) → set_passes val p (slice_get cells k) ≡ p (unwrap_or (slice_get w k) Undefined)
seen_at val [] [] k p count cell = refl
seen_at val [] (v ∷ w) k p count cell = absurd (omega (arith, count))
seen_at val (s ∷ ss) [] k p count cell = absurd (omega (arith, count))
seen_at val (s ∷ ss) (v ∷ w) zero p count cell = cell zero (omega arith) p
seen_at val (s ∷ ss) (v ∷ w) (suc k) p count cell = seen_at val ss w k p (omega (arith, count)) (λ j h. cell (suc j) (omega (arith, h)))

pub read_is_seen : (val : Edge → Bool) (cells : List (List Possible)) (W : Window) (w : AbsCells) (f : ℕ) (p : AbsValue → Bool) (r : Lead) → Shows val cells w → read_held val cells W f p r ≡ read_passes W w f p r
read_is_seen val cells W w f p (At ns) shows = go (is_cell (size W) W.families f (numbers_of W ns))
  where
    go : (b : Bool) → set_passes val p (cond b (slice_get cells (place_of (size W) W.families f (numbers_of W ns))) None) ≡ p (cond b (unwrap_or (slice_get w (place_of (size W) W.families f (numbers_of W ns))) Undefined) Undefined)
    go true = seen_at val cells w (place_of (size W) W.families f (numbers_of W ns)) p shows.count shows.cell
    go false = refl
read_is_seen val cells W w f p Anywhere shows = refl
read_is_seen val cells W w f p Nowhere shows = refl

pub ruleset placing = (place_there, place_nowhere, placed_is)

-- What stands under a place.
use Rattle.std.proofs.Common.{◌≡◌, ℕ, ◌+◌, ◌*◌, ◌≤◌, Bool, true, false, ◌&&◌, List, [], ◌∷◌, ◌++◌, None, Some, refl, ap, ◌∙◌, arith}
use Rattle.std.specs.Prelude.{if◌then◌else◌}
use Rattle.std.specs.Str.{bytes_eq}
use Rattle.std.proofs.lemmas.Nat.{row_fits_turned}
use Rattle.term_core.specs.declared.value.Value.{Value}
use Rattle.murphi_typed.specs.declared.types.AnyType as t
use Rattle.murphi_typed.specs.declared.types.AnyType.{AnyType, Row_of-Field, end_of-Field, more_of-Field}
use Rattle.murphi_typed.specs.Forms.{ArrayForm}
use Rattle.murphi_typed.specs.Values.{is_value}
use Rattle.murphi_typed.specs.Families.{Name, Path}
use Rattle.murphi_typed.specs.WellTyped.{row_field}
use Rattle.murphi_run.specs.Layout.{value_count, rank, size, row_size, row_first, has_cell, row_has, offset, row_offset, leads_to, row_leads}
use Rattle.murphi_run.proofs.RankLemmas.{rank_below}
use Rattle.murphi_run.proofs.NumberLemmas.{field_within}

abbrev LeadsOn : ℕ → AnyType → AnyType → Path → Path → List Value → List Value → Type 0
LeadsOn N T U path way at by =
    (offset N T (path ++ way) (at ++ by) ≡ offset N T path at + offset N U way by)
    × (has_cell N T (path ++ way) (at ++ by) ≡ has_cell N U way by)
    × (offset N T path at + size N U ≤ size N T)

abbrev RowLeadsOn : {n : _} → ℕ → Row_of-Field n → AnyType → Name → Path → Path → List Value → List Value → Type 0
RowLeadsOn N row U name path way at by =
    (V : AnyType) × (row_field row name ≡ Some V)
    × (row_offset N row name (path ++ way) (at ++ by) ≡ row_offset N row name path at + offset N U way by)
    × (row_has N row name (path ++ way) (at ++ by) ≡ has_cell N U way by)
    × (row_offset N row name path at + size N U ≤ size N V)

some_one : {A : Type 0} {a b : A} → Some a ≡ Some b → a ≡ b
some_one e = cc

none_some : {A : Type 0} {a : A} → None ≡ Some a → ⊥
none_some e = cc

starts_at_none : (N : ℕ) (T : AnyType) → offset N T [] [] ≡ 0
unfolding offset
starts_at_none N (t.Simple type) = refl
starts_at_none N (t.Record' shape fields) = refl
starts_at_none N (ArrayForm index item) = refl

no_more : (a b c : ℕ) → a ≡ 0 → b ≡ c → b ≡ a + c
no_more a b c e f = omega (arith, e, f)

no_less : (a b c : ℕ) → a ≡ 0 → b ≡ c → a + c ≤ b
no_less a b c e f = omega (arith, e, f)

-- a place leads to itself
itself : (N : ℕ) (T U : AnyType) (way : Path) (by : List Value) → T ≡ U → LeadsOn N T U [] way [] by
itself N T U way by e = (
  no_more (offset N T [] []) (offset N T way by) (offset N U way by) (starts_at_none N T) (ap (λ x. offset N x way by) e),
  ap (λ x. has_cell N x way by) e,
  no_less (offset N T [] []) (size N T) (size N U) (starts_at_none N T) (ap (size N) e),
)

further : (d a b c : ℕ) → a ≡ b + c → d + a ≡ (d + b) + c
further d a b c e = omega (arith, e)

fits_in : (d b u v s : ℕ) → b + u ≤ v → d + v ≤ s → (d + b) + u ≤ s
fits_in d b u v s low high = omega (arith, low, high)

all_of : (n : ℕ) → n ≤ n
all_of n = omega arith

mutual
  unfolding size has_cell offset leads_to

  pub lead_on : (N : ℕ) (T U : AnyType) (path way : Path) (at by : List Value) → leads_to N T path at ≡ Some U → LeadsOn N T U path way at by
  lead_on N (t.Simple type) U [] way [] by e = itself N (t.Simple type) U way by (some_one e)
  lead_on N (t.Simple type) U (name ∷ path) way [] by e = absurd (none_some e)
  lead_on N (t.Simple type) U path way (v ∷ at) by e = absurd (none_some e)
  lead_on N (t.Record' shape fields) U [] way [] by e = itself N (t.Record' shape fields) U way by (some_one e)
  lead_on N (t.Record' shape fields) U [] way (v ∷ at) by e = absurd (none_some e)
  lead_on N (t.Record' shape fields) U (name ∷ path) way at by e =
      let (V, found, first, cell, low) = row_lead_on N fields U name path way at by e in (
        further (row_first N fields name) (row_offset N fields name (path ++ way) (at ++ by)) (row_offset N fields name path at) (offset N U way by) first,
        cell,
        fits_in (row_first N fields name) (row_offset N fields name path at) (size N U) (size N V) (row_size N fields) low (field_within N fields name V found),
      )
  lead_on N (ArrayForm index item) U [] way [] by e = itself N (ArrayForm index item) U way by (some_one e)
  lead_on N (ArrayForm index item) U (name ∷ path) way [] by e = absurd (none_some e)
  lead_on N (ArrayForm index item) U path way (v ∷ at) by e = go (is_value N index v) refl e (λ e. lead_on N item U path way at by e)
    where
      go : (b : Bool) → is_value N index v ≡ b → (if b then leads_to N item path at else None) ≡ Some U → (leads_to N item path at ≡ Some U → LeadsOn N item U path way at by) → LeadsOn N (ArrayForm index item) U path way (v ∷ at) by
      go false was e more = absurd (none_some e)
      go true was e more =
          let (first, cell, low) = more e in (
            further (rank index v * size N item) (offset N item (path ++ way) (at ++ by)) (offset N item path at) (offset N U way by) first,
            ap (λ x. x && has_cell N item (path ++ way) (at ++ by)) was ∙ cell,
            fits_in (rank index v * size N item) (offset N item path at) (size N U) (size N item) (size N item * value_count N index) low (row_fits_turned (rank index v) (size N item) (size N item) (value_count N index) (rank_below N index v was) (all_of (size N item))),
          )

  pub row_lead_on : {n : _} (N : ℕ) (row : Row_of-Field n) (U : AnyType) (name : Name) (path way : Path) (at by : List Value) → row_leads N row name path at ≡ Some U → RowLeadsOn N row U name path way at by
  row_lead_on N end_of-Field U name path way at by e = absurd (none_some e)
  row_lead_on N (more_of-Field field type rest) U name path way at by e = go (bytes_eq field name) e (λ e. lead_on N type U path way at by e) (λ e. row_lead_on N rest U name path way at by e)
    where
      go : (b : Bool) → (if b then leads_to N type path at else row_leads N rest name path at) ≡ Some U → (leads_to N type path at ≡ Some U → LeadsOn N type U path way at by) → (row_leads N rest name path at ≡ Some U → RowLeadsOn N rest U name path way at by) → (V : AnyType) × ((if b then Some type else row_field rest name) ≡ Some V) × ((if b then offset N type (path ++ way) (at ++ by) else row_offset N rest name (path ++ way) (at ++ by)) ≡ (if b then offset N type path at else row_offset N rest name path at) + offset N U way by) × ((if b then has_cell N type (path ++ way) (at ++ by) else row_has N rest name (path ++ way) (at ++ by)) ≡ has_cell N U way by) × ((if b then offset N type path at else row_offset N rest name path at) + size N U ≤ size N V)
      go true e this more = let (first, cell, low) = this e in (type, refl, first, cell, low)
      go false e this more = more e

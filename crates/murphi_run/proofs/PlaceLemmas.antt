-- What stands under a place of the list, step by step.
use Rattle.std.proofs.Common.{◌≡◌, ℕ, ◌+◌, ◌*◌, ◌≤◌, Bool, true, false, List, [], ◌∷◌, ◌++◌, length, take, drop, Option, None, Some, refl, sym, ap, ◌∙◌, subst, arith, append-nil}
use Rattle.std.specs.Prelude.{if◌then◌else◌, option_map, slice_get, slice_set}
use Rattle.std.specs.Str.{bytes_eq}
use Rattle.term_core.specs.declared.value.Value.{Value}
use Rattle.murphi_typed.specs.declared.types.Simple.{Simple}
use Rattle.murphi_typed.specs.declared.types.AnyType as t
use Rattle.murphi_typed.specs.declared.types.AnyType.{AnyType, Row_of-Field, end_of-Field, more_of-Field}
use Rattle.murphi_typed.specs.Forms.{ArrayForm}
use Rattle.murphi_typed.specs.Values.{is_value}
use Rattle.murphi_typed.specs.Families.{Name, Path}
use Rattle.murphi_typed.specs.Store.{Place, Contents, Cells, cell_at, contents_at, written, only}
use Rattle.murphi_typed.specs.WellTyped.{row_field}
use Rattle.murphi_typed.specs.Expressions.{under}
use Rattle.murphi_run.specs.Layout.{rank, size, row_first, has_cell, offset, row_offset, leads_to, row_leads}
use Rattle.murphi_run.specs.Holding.{Block, Layout, Holds, IsLayout}
use Rattle.murphi_run.specs.Stretches.{with_stretch, HoldsAlone}
use Rattle.murphi_run.specs.Places.{IsUnder, IsPlaced, at_number, field_of, item_of}
use Rattle.murphi_run.proofs.LeadLemmas.{lead_on}
use Rattle.murphi_run.proofs.HoldLemmas.{set_holds}
use Rattle.murphi_run.proofs.StretchLemmas.{stretch_holds, stretch_written}

some_one : {A : Type 0} {a b : A} → Some a ≡ Some b → a ≡ b
some_one e = cc

none_some : {A : Type 0} {a : A} → None ≡ Some a → ⊥
none_some e = cc

starts_at_none : (N : ℕ) (T : AnyType) → offset N T [] [] ≡ 0
unfolding offset
starts_at_none N (t.Simple type) = refl
starts_at_none N (t.Record' shape fields) = refl
starts_at_none N (ArrayForm index item) = refl

leads_nowhere : (N : ℕ) (T : AnyType) → leads_to N T [] [] ≡ Some T
unfolding leads_to
leads_nowhere N (t.Simple type) = refl
leads_nowhere N (t.Record' shape fields) = refl
leads_nowhere N (ArrayForm index item) = refl

nothing_more : (a b : ℕ) → b ≡ 0 → a ≡ a + b
nothing_more a b e = omega (arith, e)

pub under_itself : (N : ℕ) (b : Block) → IsUnder N b [] [] b
under_itself N b = record { leads = leads_nowhere N b.of; number = nothing_more b.first (offset N b.of [] []) (starts_at_none N b.of) }

mutual
  unfolding leads_to

  -- what a place leads to leads on
  pub lead_further : (N : ℕ) (T U V : AnyType) (path way : Path) (at by : List Value) → leads_to N T path at ≡ Some U → leads_to N U way by ≡ Some V → leads_to N T (path ++ way) (at ++ by) ≡ Some V
  lead_further N (t.Simple type) U V [] way [] by e f = ap (λ x. leads_to N x way by) (some_one e) ∙ f
  lead_further N (t.Simple type) U V (name ∷ path) way [] by e f = absurd (none_some e)
  lead_further N (t.Simple type) U V path way (v ∷ at) by e f = absurd (none_some e)
  lead_further N (t.Record' shape fields) U V [] way [] by e f = ap (λ x. leads_to N x way by) (some_one e) ∙ f
  lead_further N (t.Record' shape fields) U V [] way (v ∷ at) by e f = absurd (none_some e)
  lead_further N (t.Record' shape fields) U V (name ∷ path) way at by e f = row_further N fields U V name path way at by e f
  lead_further N (ArrayForm index item) U V [] way [] by e f = ap (λ x. leads_to N x way by) (some_one e) ∙ f
  lead_further N (ArrayForm index item) U V (name ∷ path) way [] by e f = absurd (none_some e)
  lead_further N (ArrayForm index item) U V path way (v ∷ at) by e f = go (is_value N index v) e (λ e. lead_further N item U V path way at by e f)
    where
      go : (b : Bool) → (if b then leads_to N item path at else None) ≡ Some U → (leads_to N item path at ≡ Some U → leads_to N item (path ++ way) (at ++ by) ≡ Some V) → (if b then leads_to N item (path ++ way) (at ++ by) else None) ≡ Some V
      go false e more = absurd (none_some e)
      go true e more = more e

  row_further : {n : _} (N : ℕ) (row : Row_of-Field n) (U V : AnyType) (name : Name) (path way : Path) (at by : List Value) → row_leads N row name path at ≡ Some U → leads_to N U way by ≡ Some V → row_leads N row name (path ++ way) (at ++ by) ≡ Some V
  row_further N end_of-Field U V name path way at by e f = absurd (none_some e)
  row_further N (more_of-Field field type rest) U V name path way at by e f = go (bytes_eq field name) e (λ e. lead_further N type U V path way at by e f) (λ e. row_further N rest U V name path way at by e f)
    where
      go : (b : Bool) → (if b then leads_to N type path at else row_leads N rest name path at) ≡ Some U → (leads_to N type path at ≡ Some U → leads_to N type (path ++ way) (at ++ by) ≡ Some V) → (row_leads N rest name path at ≡ Some U → row_leads N rest name (path ++ way) (at ++ by) ≡ Some V) → (if b then leads_to N type (path ++ way) (at ++ by) else row_leads N rest name (path ++ way) (at ++ by)) ≡ Some V
      go true e this more = this e
      go false e this more = more e

further_number : (a b c d o p q : ℕ) → c ≡ b + o → d ≡ c + p → q ≡ o + p → d ≡ b + q
further_number a b c d o p q e f g = omega (arith, e, f, g)

pub under_further : (N : ℕ) (b c d : Block) (path way : Path) (at by : List Value) → IsUnder N b path at c → IsUnder N c way by d → IsUnder N b (path ++ way) (at ++ by) d
under_further N b c d path way at by first next = record {
  leads = lead_further N b.of c.of d.of path way at by first.leads next.leads;
  number = let (place, cell, low) = lead_on N b.of c.of path way at by first.leads in
      further_number 0 b.first c.first d.first (offset N b.of path at) (offset N c.of way by) (offset N b.of (path ++ way) (at ++ by)) first.number next.number place;
}

-- a field of a record
row_led : {n : _} (N : ℕ) (row : Row_of-Field n) (name : Name) (U : AnyType) → row_field row name ≡ Some U → (row_leads N row name [] [] ≡ Some U) × (row_offset N row name [] [] ≡ 0)
unfolding leads_to offset
row_led N end_of-Field name U e = absurd (none_some e)
row_led N (more_of-Field field type rest) name U e = go (bytes_eq field name) e (row_led N rest name U)
  where
    go : (b : Bool) → (if b then Some type else row_field rest name) ≡ Some U → (row_field rest name ≡ Some U → (row_leads N rest name [] [] ≡ Some U) × (row_offset N rest name [] [] ≡ 0)) → ((if b then leads_to N type [] [] else row_leads N rest name [] []) ≡ Some U) × ((if b then offset N type [] [] else row_offset N rest name [] []) ≡ 0)
    go true e more = (leads_nowhere N type ∙ e, starts_at_none N type)
    go false e more = more e

plus_none : (a b c d : ℕ) → c ≡ a + b → d ≡ 0 → c ≡ a + (b + d)
plus_none a b c d e f = omega (arith, e, f)

pub field_under : (N : ℕ) (b c : Block) (name : Name) → field_of N b name ≡ Some c → IsUnder N b (name ∷ []) [] c
unfolding field_of leads_to offset
field_under N b c name e = go b.of refl e
  where
    go : (T : AnyType) → b.of ≡ T → field_of N (record { first = b.first; of = T }) name ≡ Some c → IsUnder N b (name ∷ []) [] c
    go (t.Record' shape fields) is e = in_record (row_field fields name) refl e
      where
        in_record : (o : Option AnyType) → row_field fields name ≡ o → option_map (at_number (b.first + row_first N fields name)) o ≡ Some c → IsUnder N b (name ∷ []) [] c
        in_record None found e = absurd (none_some e)
        in_record (Some U) found e =
            let (leads, none) = row_led N fields name U found in
            let same : record { first = b.first + row_first N fields name; of = U } ≡ c = some_one e in
            subst (λ x. IsUnder N b (name ∷ []) [] x) same (record {
              leads = ap (λ x. leads_to N x (name ∷ []) []) is ∙ leads;
              number = plus_none b.first (row_first N fields name) (b.first + row_first N fields name) (row_offset N fields name [] []) refl none
                  ∙ ap (λ x. b.first + offset N x (name ∷ []) []) (sym is);
            })
    go (t.Simple type) is e = absurd (none_some e)
    go (ArrayForm index item) is e = absurd (none_some e)

-- an item of an array
pub item_under : (N : ℕ) (b c : Block) (v : Value) → item_of N b v ≡ Some c → IsUnder N b [] (v ∷ []) c
unfolding item_of leads_to offset
item_under N b c v e = go b.of refl e
  where
    go : (T : AnyType) → b.of ≡ T → item_of N (record { first = b.first; of = T }) v ≡ Some c → IsUnder N b [] (v ∷ []) c
    go (ArrayForm index item) is e = in_array (is_value N index v) refl e
      where
        in_array : (f : Bool) → is_value N index v ≡ f → (if f then Some (record { first = b.first + rank index v * size N item; of = item }) else None) ≡ Some c → IsUnder N b [] (v ∷ []) c
        in_array false fits e = absurd (none_some e)
        in_array true fits e =
            let same : record { first = b.first + rank index v * size N item; of = item } ≡ c = some_one e in
            subst (λ x. IsUnder N b [] (v ∷ []) x) same (record {
              leads = ap (λ x. leads_to N x [] (v ∷ [])) is ∙ ap (λ f. if f then leads_to N item [] [] else None) fits ∙ leads_nowhere N item;
              number = plus_none b.first (rank index v * size N item) (b.first + rank index v * size N item) (offset N item [] []) refl (starts_at_none N item)
                  ∙ ap (λ x. b.first + offset N x [] (v ∷ [])) (sym is);
            })
    go (t.Simple type) is e = absurd (none_some e)
    go (t.Record' shape fields) is e = absurd (none_some e)

pub field_leads : (N : ℕ) (b c d : Block) (name : Name) (path : Path) (at : List Value) → field_of N b name ≡ Some c → IsUnder N c path at d → IsUnder N b (name ∷ path) at d
field_leads N b c d name path at e below = under_further N b c d (name ∷ []) path [] at (field_under N b c name e) below

pub item_leads : (N : ℕ) (b c d : Block) (v : Value) (path : Path) (at : List Value) → item_of N b v ≡ Some c → IsUnder N c path at d → IsUnder N b path (v ∷ at) d
item_leads N b c d v path at e below = under_further N b c d [] path (v ∷ []) at (item_under N b c v e) below

pub placed_under : (N : ℕ) (layout : Layout) (p : Place) (b c : Block) (path : Path) (at : List Value) → IsPlaced N layout p b → IsUnder N b path at c → IsPlaced N layout (under p path at) c
placed_under N layout p b c path at there below = record {
  whole = there.whole;
  found = there.found;
  below = under_further N there.whole b c p.path path p.at at there.below below;
}

-- the cells under a place are those of its type
low_enough : (a b c d n s : ℕ) → c ≡ a + b → b + d ≤ s → a + s ≤ n → c + d ≤ n
low_enough a b c d n s e f g = omega (arith, e, f, g)

pub placed_within : (N : ℕ) (layout : Layout) (count : ℕ) (p : Place) (b : Block) → IsLayout N layout count → IsPlaced N layout p b → b.first + size N b.of ≤ count
placed_within N layout count p b fits there =
    let (place, cell, low) = lead_on N there.whole.of b.of p.path [] p.at [] there.below.leads in
    low_enough there.whole.first (offset N there.whole.of p.path p.at) b.first (size N b.of) count (size N there.whole.of) there.below.number low (fits.within p.owner there.whole there.found)

-- a place of simple type has a cell
has_simple : (N : ℕ) (type : Simple) → has_cell N (t.Simple type) [] [] ≡ true
unfolding has_cell
has_simple N type = refl

placed_cell : (N : ℕ) (T : AnyType) (U : AnyType) (type : Simple) (path : Path) (at : List Value) → leads_to N T path at ≡ Some U → U ≡ t.Simple type → has_cell N T path at ≡ true
placed_cell N T U type path at leads is =
    let (place, cell, low) = lead_on N T U path [] at [] leads in
    ap (λ x. has_cell N T x at) (sym (append-nil path)) ∙ ap (λ x. has_cell N T (path ++ []) x) (sym (append-nil at)) ∙ cell
    ∙ ap (λ x. has_cell N x [] []) is ∙ has_simple N type

pub value_there : (N : ℕ) (layout : Layout) (values : List Value) (cells : Cells) (p : Place) (b : Block) (type : Simple) → Holds N layout values cells → IsPlaced N layout p b → b.of ≡ t.Simple type → slice_get values b.first ≡ Some (cell_at cells p)
value_there N layout values cells p b type holds there is =
    ap (slice_get values) there.below.number
    ∙ holds p.owner there.whole there.found p.path p.at (placed_cell N there.whole.of b.of type p.path p.at there.below.leads is)

pub value_written : (N : ℕ) (layout : Layout) (values : List Value) (cells : Cells) (p : Place) (b : Block) (type : Simple) (v : Value) → IsLayout N layout (length values) → Holds N layout values cells → IsPlaced N layout p b → b.of ≡ t.Simple type → Holds N layout (slice_set values b.first v) (written cells p (only v))
value_written N layout values cells p b type v fits holds there is =
    subst (λ n. Holds N layout (slice_set values n v) (written cells p (only v))) (sym there.below.number)
    (set_holds N layout values cells there.whole p v fits holds there.found (placed_cell N there.whole.of b.of type p.path p.at there.below.leads is))

pub contents_there : (N : ℕ) (layout : Layout) (values : List Value) (cells : Cells) (p : Place) (b : Block) → Holds N layout values cells → IsPlaced N layout p b → HoldsAlone N b.of (take (size N b.of) (drop b.first values)) (contents_at cells p)
contents_there N layout values cells p b holds there =
    subst (λ n. HoldsAlone N b.of (take (size N b.of) (drop n values)) (contents_at cells p)) (sym there.below.number)
    (stretch_holds N layout values cells there.whole p b.of holds there.found there.below.leads)

pub contents_written : (N : ℕ) (layout : Layout) (values new : List Value) (cells : Cells) (p : Place) (b : Block) (contents : Contents) → IsLayout N layout (length values) → Holds N layout values cells → IsPlaced N layout p b → length new ≡ size N b.of → HoldsAlone N b.of new contents → Holds N layout (with_stretch b.first new values) (written cells p contents)
contents_written N layout values new cells p b contents fits holds there long holding =
    subst (λ n. Holds N layout (with_stretch n new values) (written cells p contents)) (sym there.below.number)
    (stretch_written N layout values new cells there.whole p b.of contents fits holds there.found there.below.leads long holding)

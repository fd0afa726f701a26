-- Writing a stretch of the list: the cells under a place.
use Rattle.std.proofs.Common.{◌≡◌, ℕ, zero, suc, ◌+◌, ◌*◌, ◌<◌, ◌≤◌, Bool, true, false, ◌⊎◌, inl, inr, List, [], ◌∷◌, ◌++◌, length, take, drop, Option, None, Some, refl, sym, ap, ◌∙◌, subst, arith}
use Rattle.std.specs.Prelude.{if◌then◌else◌, slice_get}
use Rattle.std.specs.Str.{bytes_eq}
use Rattle.std.proofs.lemmas.Bool.{and_parts, cases_lt}
use Rattle.std.proofs.lemmas.Nat.{same_from_place}
use Rattle.term_core.specs.declared.value.Value.{Value}
use Rattle.term_core.specs.Values.{same_value}
use Rattle.murphi_typed.specs.declared.types.AnyType as t
use Rattle.murphi_typed.specs.declared.types.AnyType.{AnyType, Row_of-Field, end_of-Field, more_of-Field}
use Rattle.murphi_typed.specs.Forms.{ArrayForm}
use Rattle.murphi_typed.specs.Values.{is_value}
use Rattle.murphi_typed.specs.Families.{Name, Path}
use Rattle.murphi_typed.specs.Store.{Owner, same_owner, Place, Contents, Cells, contents_at, beyond, renewed, written}
use Rattle.murphi_typed.proofs.TestLemmas.{owners_true, names_true, values_true, beyond_some}
use Rattle.murphi_run.specs.Layout.{name_before, rank, size, row_first, has_cell, row_has, offset, row_offset, leads_to, row_leads}
use Rattle.murphi_run.specs.Holding.{Block, Layout, number_in, HoldsVariable, Holds, IsLayout}
use Rattle.murphi_run.specs.Stretches.{with_stretch}
use Rattle.murphi_run.proofs.OrderLemmas.{order_cases}
use Rattle.murphi_run.proofs.RankLemmas.{rank_same}
use Rattle.murphi_run.proofs.NumberLemmas.{cell_within, fields_apart, row_within}
use Rattle.murphi_run.proofs.LeadLemmas.{lead_on, row_lead_on}
use Rattle.murphi_run.proofs.SumLemmas.{name_self}
use Rattle.murphi_run.proofs.HoldLemmas.{same_self}

some_one : {A : Type 0} {a b : A} → Some a ≡ Some b → a ≡ b
some_one e = cc

none_some : {A : Type 0} {a : A} → None ≡ Some a → ⊥
none_some e = cc

-- what is got of a list with another stretch
get_before : {A : Type 0} (xs new : List A) (n k : ℕ) → k < n → n ≤ length xs → slice_get (with_stretch n new xs) k ≡ slice_get xs k
get_before [] new n k e f = absurd (omega (arith, e, f))
get_before (x ∷ xs) new zero k e f = absurd (omega (arith, e))
get_before (x ∷ xs) new (suc n) zero e f = refl
get_before (x ∷ xs) new (suc n) (suc k) e f = get_before xs new n k (omega (arith, e)) (omega (arith, f))

get_left : {A : Type 0} (xs ys : List A) (k : ℕ) → k < length xs → slice_get (xs ++ ys) k ≡ slice_get xs k
get_left [] ys k e = absurd (omega (arith, e))
get_left (x ∷ xs) ys zero e = refl
get_left (x ∷ xs) ys (suc k) e = get_left xs ys k (omega (arith, e))

get_in : {A : Type 0} (xs new : List A) (n j k : ℕ) → k ≡ n + j → j < length new → n ≤ length xs → slice_get (with_stretch n new xs) k ≡ slice_get new j
get_in xs new zero j k e f g = let same : k ≡ j = omega (arith, e) in ap (slice_get (new ++ drop (length new) xs)) same ∙ get_left new (drop (length new) xs) j f
get_in [] new (suc n) j k e f g = absurd (omega (arith, g))
get_in (x ∷ xs) new (suc n) j zero e f g = absurd (omega (arith, e))
get_in (x ∷ xs) new (suc n) j (suc k) e f g = get_in xs new n j k (omega (arith, e)) f (omega (arith, g))

get_dropped : {A : Type 0} (xs : List A) (n j k : ℕ) → k ≡ n + j → slice_get (drop n xs) j ≡ slice_get xs k
get_dropped xs zero j k e = let same : j ≡ k = omega (arith, e) in ap (slice_get xs) same
get_dropped [] (suc n) j k e = refl
get_dropped (x ∷ xs) (suc n) j zero e = absurd (omega (arith, e))
get_dropped (x ∷ xs) (suc n) j (suc k) e = get_dropped xs n j k (omega (arith, e))

get_right : {A : Type 0} (xs ys : List A) (j k : ℕ) → k ≡ length xs + j → slice_get (xs ++ ys) k ≡ slice_get ys j
get_right [] ys j k e = let same : k ≡ j = omega (arith, e) in ap (slice_get ys) same
get_right (x ∷ xs) ys j zero e = absurd (omega (arith, e))
get_right (x ∷ xs) ys j (suc k) e = get_right xs ys j k (omega (arith, e))

behind : (n m : ℕ) → n ≤ m → (j : ℕ) × (m ≡ n + j)
behind zero m e = (m, omega arith)
behind (suc n) zero e = absurd (omega (arith, e))
behind (suc n) (suc m) e = let (j, is) = behind n m (omega (arith, e)) in (j, omega (arith, is))

get_past : {A : Type 0} (xs new : List A) (n k : ℕ) → n + length new ≤ k → n ≤ length xs → slice_get (with_stretch n new xs) k ≡ slice_get xs k
get_past xs new zero k e f =
    let (j, is) = behind (length new) k (omega (arith, e)) in
    get_right new (drop (length new) xs) j k is ∙ get_dropped xs (length new) j k is
get_past [] new (suc n) k e f = absurd (omega (arith, f))
get_past (x ∷ xs) new (suc n) zero e f = absurd (omega (arith, e))
get_past (x ∷ xs) new (suc n) (suc k) e f = get_past xs new n k (omega (arith, e)) (omega (arith, f))

-- a cell whose number is among those under a place stands under it
abbrev Under : Path → Path → List Value → List Value → Type 0
Under path way at by = (rest : Path) × (further : List Value) × (way ≡ path ++ rest) × (by ≡ at ++ further)

same_row : (a c s o : ℕ) → o < s → a * s ≤ c * s + o → c * s + o < a * s + s → a ≡ c
same_row a c s o low from to =
    let (k, is) = behind (a * s) (c * s + o) from in
    let (rows, places) = same_from_place a k c o s (omega (arith, is, to)) low (sym is) in
    rows

row_front : (a c s o f u : ℕ) → a * s + f ≤ c * s + o → c * s + o < (a * s + f) + u → f + u ≤ s → a ≡ c → (f ≤ o) × (o < f + u)
row_front a c s o f u from to whole same =
    let turned : a * s ≡ c * s = ap (λ x. x * s) same in
    (omega (arith, from, turned), omega (arith, to, turned))

row_bounds : (a s x f u : ℕ) → a * s + f ≤ x → x < (a * s + f) + u → f + u ≤ s → (a * s ≤ x) × (x < a * s + s)
row_bounds a s x f u from to whole = (omega (arith, from), omega (arith, to, whole))

-- two fields have no number in common
too_low : (a b c d s u f : ℕ) → b < s → a + s ≤ c → c + f ≤ a + b → ⊥
too_low a b c d s u f low apart from = omega (arith, low, apart, from)

too_high : (a b c f u s : ℕ) → f + u ≤ s → c + s ≤ a → a + b < (c + f) + u → ⊥
too_high a b c f u s whole apart to = omega (arith, whole, apart, to)

under_front : (a b f u : ℕ) → a + f ≤ a + b → a + b < (a + f) + u → (f ≤ b) × (b < f + u)
under_front a b f u from to = (omega (arith, from), omega (arith, to))

mutual
  unfolding size has_cell offset leads_to

  pub stands_under : (N : ℕ) (T U : AnyType) (path way : Path) (at by : List Value) → leads_to N T path at ≡ Some U → has_cell N T way by ≡ true → offset N T path at ≤ offset N T way by → offset N T way by < offset N T path at + size N U → Under path way at by
  stands_under N (t.Simple type) U [] way [] by e has from to = (way, by, refl, refl)
  stands_under N (t.Simple type) U (name ∷ path) way [] by e has from to = absurd (none_some e)
  stands_under N (t.Simple type) U path way (v ∷ at) by e has from to = absurd (none_some e)
  stands_under N (t.Record' shape fields) U [] way [] by e has from to = (way, by, refl, refl)
  stands_under N (t.Record' shape fields) U [] way (v ∷ at) by e has from to = absurd (none_some e)
  stands_under N (t.Record' shape fields) U (a ∷ path) [] at by e has from to = cc
  stands_under N (t.Record' shape fields) U (a ∷ path) (b ∷ way) at by e has from to = go (order_cases a b) (row_under N fields U a path way at by e)
    where
      go : (a ≡ b) ⊎ ((name_before a b ≡ true) ⊎ (name_before b a ≡ true)) → (row_has N fields a way by ≡ true → row_offset N fields a path at ≤ row_offset N fields a way by → row_offset N fields a way by < row_offset N fields a path at + size N U → Under path way at by) → Under (a ∷ path) (b ∷ way) at by
      go (inl one) more =
          let there : row_has N fields a way by ≡ true = ap (λ x. row_has N fields x way by) one ∙ has in
          let (low, high) = under_front (row_first N fields a) (row_offset N fields a way by) (row_offset N fields a path at) (size N U)
          (subst (λ x. row_first N fields a + row_offset N fields a path at ≤ row_first N fields x + row_offset N fields x way by) (sym one) from)
          (subst (λ x. row_first N fields x + row_offset N fields x way by < (row_first N fields a + row_offset N fields a path at) + size N U) (sym one) to) in
          let (rest, further, p, q) = more there low high in
          (rest, further, ap (λ x. x ∷ way) (sym one) ∙ ap (λ xs. a ∷ xs) p, q)
      go (inr (inl first)) more =
          let (V, found, is, cell, whole) = row_lead_on N fields U a path [] at [] e in
          absurd (too_high (row_first N fields b) (row_offset N fields b way by) (row_first N fields a) (row_offset N fields a path at) (size N U) (size N V) whole (fields_apart N fields a b V found first) to)
      go (inr (inr first)) more =
          let (V, found, below) = row_within N fields b way by has in
          absurd (too_low (row_first N fields b) (row_offset N fields b way by) (row_first N fields a) 0 (size N V) 0 (row_offset N fields a path at) below (fields_apart N fields b a V found first) from)
  stands_under N (ArrayForm index item) U [] way [] by e has from to = (way, by, refl, refl)
  stands_under N (ArrayForm index item) U (name ∷ path) way [] by e has from to = absurd (none_some e)
  stands_under N (ArrayForm index item) U path way (v ∷ at) [] e has from to = cc
  stands_under N (ArrayForm index item) U path way (v ∷ at) (w ∷ by) e has from to =
      let (wfits, inner) = and_parts (is_value N index w) (has_cell N item way by) has in
      go (is_value N index v) refl e wfits (cell_within N item way by inner) (λ e from to. stands_under N item U path way at by e inner from to)
    where
      go : (b : Bool) → is_value N index v ≡ b → (if b then leads_to N item path at else None) ≡ Some U → is_value N index w ≡ true → offset N item way by < size N item → (leads_to N item path at ≡ Some U → offset N item path at ≤ offset N item way by → offset N item way by < offset N item path at + size N U → Under path way at by) → Under path way (v ∷ at) (w ∷ by)
      go false was e wfits low more = absurd (none_some e)
      go true was e wfits low more =
          let (first, cell, whole) = lead_on N item U path [] at [] e in
          let (lowest, highest) = row_bounds (rank index v) (size N item) (rank index w * size N item + offset N item way by) (offset N item path at) (size N U) from to whole in
          let ranks : rank index v ≡ rank index w = same_row (rank index v) (rank index w) (size N item) (offset N item way by) low lowest highest in
          let (least, most) = row_front (rank index v) (rank index w) (size N item) (offset N item way by) (offset N item path at) (size N U) from to whole ranks in
          let (rest, further, p, q) = more e least most in
          let one : v ≡ w = rank_same N index v w was wfits ranks in
          (rest, further, p, ap (λ x. x ∷ by) (sym one) ∙ ap (λ xs. v ∷ xs) q)

  row_under : {n : _} (N : ℕ) (row : Row_of-Field n) (U : AnyType) (name : Name) (path way : Path) (at by : List Value) → row_leads N row name path at ≡ Some U → row_has N row name way by ≡ true → row_offset N row name path at ≤ row_offset N row name way by → row_offset N row name way by < row_offset N row name path at + size N U → Under path way at by
  row_under N end_of-Field U name path way at by e has from to = absurd (none_some e)
  row_under N (more_of-Field field type rest) U name path way at by e has from to = go (bytes_eq field name) e has from to (λ e has from to. stands_under N type U path way at by e has from to) (λ e has from to. row_under N rest U name path way at by e has from to)
    where
      go : (b : Bool) → (if b then leads_to N type path at else row_leads N rest name path at) ≡ Some U → (if b then has_cell N type way by else row_has N rest name way by) ≡ true → (if b then offset N type path at else row_offset N rest name path at) ≤ (if b then offset N type way by else row_offset N rest name way by) → (if b then offset N type way by else row_offset N rest name way by) < (if b then offset N type path at else row_offset N rest name path at) + size N U → (leads_to N type path at ≡ Some U → has_cell N type way by ≡ true → offset N type path at ≤ offset N type way by → offset N type way by < offset N type path at + size N U → Under path way at by) → (row_leads N rest name path at ≡ Some U → row_has N rest name way by ≡ true → row_offset N rest name path at ≤ row_offset N rest name way by → row_offset N rest name way by < row_offset N rest name path at + size N U → Under path way at by) → Under path way at by
      go true e has from to this more = this e has from to
      go false e has from to this more = more e has from to

get_taken : {A : Type 0} (xs : List A) (n k : ℕ) → k < n → slice_get (take n xs) k ≡ slice_get xs k
get_taken xs zero k e = absurd (omega (arith, e))
get_taken [] (suc n) k e = refl
get_taken (x ∷ xs) (suc n) zero e = refl
get_taken (x ∷ xs) (suc n) (suc k) e = get_taken xs n k (omega (arith, e))

alone : (n : ℕ) → 0 + n ≡ n
alone n = omega arith

onward : (a b c d : ℕ) → c ≡ b + d → a + c ≡ (a + b) + d
onward a b c d e = omega (arith, e)

pub stretch_holds : (N : ℕ) (layout : Layout) (values : List Value) (cells : Cells) (b : Block) (place : Place) (U : AnyType) → Holds N layout values cells → layout place.owner ≡ Some b → leads_to N b.of place.path place.at ≡ Some U → HoldsVariable N (record { first = 0; of = U }) (take (size N U) (drop (number_in N b place.path place.at) values)) (contents_at cells place)
stretch_holds N layout values cells b place U holds there leads way by has =
    let (first, cell, whole) = lead_on N b.of U place.path way place.at by leads in
    let low : offset N U way by < size N U = cell_within N U way by has in
    ap (slice_get (take (size N U) (drop (number_in N b place.path place.at) values))) (alone (offset N U way by))
    ∙ get_taken (drop (number_in N b place.path place.at) values) (size N U) (offset N U way by) low
    ∙ get_dropped values (number_in N b place.path place.at) (offset N U way by) (number_in N b (place.path ++ way) (place.at ++ by))
    (onward b.first (offset N b.of place.path place.at) (offset N b.of (place.path ++ way) (place.at ++ by)) (offset N U way by) first)
    ∙ holds place.owner b there (place.path ++ way) (place.at ++ by) (cell ∙ has)

-- a list goes beyond a front part of it by the rest
beyond_front : {A : Type 0} (same : A → A → Bool) → ((x : A) → same x x ≡ true) → (front rest : List A) → beyond same front (front ++ rest) ≡ Some rest
beyond_front same self [] rest = refl
beyond_front same self (x ∷ front) rest = ap (λ b. if b then beyond same front (front ++ rest) else None) (self x) ∙ beyond_front same self front rest

-- another variable's cell lies outside
outside_of : (first s n u c k w : ℕ) → first ≤ n → n + u ≤ first + s → k < w → (c + w ≤ first) ⊎ (first + s ≤ c) → (c + k < n) ⊎ (n + u ≤ c + k)
outside_of first s n u c k w low high under (inl apart) = inl (omega (arith, low, under, apart))
outside_of first s n u c k w low high under (inr apart) = inr (omega (arith, high, under, apart))

module _ (N : ℕ) (layout : Layout) (values new : List Value) (cells : Cells) (b : Block) (place : Place) (U : AnyType) (contents : Contents) (fits : IsLayout N layout (length values)) (holds : Holds N layout values cells) (there : layout place.owner ≡ Some b) (leads : leads_to N b.of place.path place.at ≡ Some U) (long : length new ≡ size N U) (holding : HoldsVariable N (record { first = 0; of = U }) new contents) where
  abbrev number : ℕ
  number = number_in N b place.path place.at

  whole_fits : offset N b.of place.path place.at + size N U ≤ size N b.of
  whole_fits = let (first, cell, whole) = lead_on N b.of U place.path [] place.at [] leads in whole

  starts_within : number ≤ length values
  starts_within = omega (arith, whole_fits, fits.within place.owner b there)

  -- a number outside of the stretch
  outside : (k : ℕ) → (k < number) ⊎ (number + size N U ≤ k) → slice_get (with_stretch number new values) k ≡ slice_get values k
  outside k (inl low) = get_before values new number k low starts_within
  outside k (inr high) = get_past values new number k (omega (arith, long, high)) starts_within

  other_variable : (owner : Owner) (c : Block) → layout owner ≡ Some c → same_owner owner place.owner ≡ false → (path : Path) (at : List Value) → has_cell N c.of path at ≡ true → slice_get (with_stretch number new values) (number_in N c path at) ≡ Some (cells owner path at)
  other_variable owner c found apart path at has =
      outside (number_in N c path at)
      (outside_of b.first (size N b.of) number (size N U) c.first (offset N c.of path at) (size N c.of) (omega arith) (omega (arith, whole_fits)) (cell_within N c.of path at has) (fits.apart owner place.owner c b found there apart))
      ∙ holds owner c found path at has

  -- a cell under the place
  inner_cell : (path rest : Path) (at further : List Value) → path ≡ place.path ++ rest → at ≡ place.at ++ further → has_cell N b.of path at ≡ true → slice_get (with_stretch number new values) (number_in N b path at) ≡ Some (contents rest further)
  inner_cell path rest at further p q has =
      let (first, cell, whole) = lead_on N b.of U place.path rest place.at further leads in
      let inside : has_cell N b.of (place.path ++ rest) (place.at ++ further) ≡ true = ap (λ x. has_cell N b.of x (place.at ++ further)) (sym p) ∙ ap (has_cell N b.of path) (sym q) ∙ has in
      let one : has_cell N U rest further ≡ true = sym cell ∙ inside in
      let same : number_in N b path at ≡ number_in N b (place.path ++ rest) (place.at ++ further) = ap (λ x. number_in N b x at) p ∙ ap (number_in N b (place.path ++ rest)) q in
      let low : offset N U rest further < length new = omega (arith, long, cell_within N U rest further one) in
      get_in values new number (offset N U rest further) (number_in N b path at)
      (same ∙ onward b.first (offset N b.of place.path place.at) (offset N b.of (place.path ++ rest) (place.at ++ further)) (offset N U rest further) first) low starts_within
      ∙ ap (slice_get new) (sym (alone (offset N U rest further))) ∙ holding rest further one

  -- a cell of the variable that does not stand under the place
  outer_cell : (owner : Owner) → owner ≡ place.owner → (path : Path) (at : List Value) → has_cell N b.of path at ≡ true → (Under place.path path place.at at → ⊥) → slice_get (with_stretch number new values) (number_in N b path at) ≡ Some (cells owner path at)
  outer_cell owner is path at has apart = outside (number_in N b path at) (go (cases_lt (offset N b.of path at) (offset N b.of place.path place.at)) (cases_lt (offset N b.of path at) (offset N b.of place.path place.at + size N U))) ∙ holds owner b (ap layout is ∙ there) path at has
    where
      go : (offset N b.of path at < offset N b.of place.path place.at) ⊎ (offset N b.of place.path place.at ≤ offset N b.of path at) → (offset N b.of path at < offset N b.of place.path place.at + size N U) ⊎ (offset N b.of place.path place.at + size N U ≤ offset N b.of path at) → (number_in N b path at < number) ⊎ (number + size N U ≤ number_in N b path at)
      go (inl low) high = inl (omega (arith, low))
      go (inr from) (inr high) = inr (omega (arith, high))
      go (inr from) (inl to) = absurd (apart (stands_under N b.of U place.path path place.at at leads has from to))

  in_variable : (owner : Owner) → owner ≡ place.owner → (path : Path) (at : List Value) → has_cell N b.of path at ≡ true → (o : Option Path) → beyond bytes_eq place.path path ≡ o → (q : Option (List Value)) → beyond same_value place.at at ≡ q → slice_get (with_stretch number new values) (number_in N b path at) ≡ Some (renewed contents (cells owner path at) o q)
  in_variable owner is path at has None was q now =
      outer_cell owner is path at has
      (λ under. let (rest, further, p, r) = under in none_some (sym was ∙ ap (beyond bytes_eq place.path) p ∙ beyond_front bytes_eq name_self place.path rest))
  in_variable owner is path at has (Some rest) was None now =
      outer_cell owner is path at has
      (λ under. let (other, further, p, r) = under in none_some (sym now ∙ ap (beyond same_value place.at) r ∙ beyond_front same_value same_self place.at further))
  in_variable owner is path at has (Some rest) was (Some further) now =
      inner_cell path rest at further (beyond_some bytes_eq names_true place.path path rest was) (beyond_some same_value values_true place.at at further now) has

  pub stretch_written : Holds N layout (with_stretch number new values) (written cells place contents)
  stretch_written owner c found path at has = go (same_owner owner place.owner) refl
    where
      go : (s : Bool) → same_owner owner place.owner ≡ s → slice_get (with_stretch number new values) (number_in N c path at) ≡ Some (if s then renewed contents (cells owner path at) (beyond bytes_eq place.path path) (beyond same_value place.at at) else cells owner path at)
      go false was = other_variable owner c found was path at has
      go true was =
          let is : owner ≡ place.owner = owners_true owner place.owner was in
          let one : b ≡ c = some_one (sym there ∙ ap layout (sym is) ∙ found) in
          let inside : has_cell N b.of path at ≡ true = ap (λ x. has_cell N x.of path at) one ∙ has in
          ap (λ x. slice_get (with_stretch number new values) (number_in N x path at)) (sym one)
          ∙ in_variable owner is path at inside (beyond bytes_eq place.path path) refl (beyond same_value place.at at) refl

-- Each cell of a variable has a number of its own, below how many there are.
use Rattle.std.proofs.Common.{◌≡◌, ℕ, ◌+◌, ◌<◌, ◌≤◌, Bool, true, false, ◌⊎◌, inl, inr, List, [], ◌∷◌, ◌++◌, Some, refl, sym, ap, ◌∙◌, arith}
use Rattle.std.specs.Prelude.{if◌then◌else◌}
use Rattle.std.specs.Str.{bytes_eq}
use Rattle.std.proofs.lemmas.Bool.{and_parts}
use Rattle.std.proofs.lemmas.Nat.{mul-add-lt, same_from_place}
use Rattle.term_core.specs.declared.value.Value.{Value}
use Rattle.murphi_typed.specs.declared.types.AnyType as t
use Rattle.murphi_typed.specs.declared.types.AnyType.{AnyType, Row_of-Field, end_of-Field, more_of-Field}
use Rattle.murphi_typed.specs.Forms.{ArrayForm}
use Rattle.murphi_typed.specs.Values.{is_value}
use Rattle.murphi_typed.specs.Families.{Name, Path}
use Rattle.murphi_typed.specs.WellTyped.{row_field}
use Rattle.murphi_typed.proofs.TestLemmas.{names_true}
use Rattle.murphi_run.specs.Layout.{name_before, value_count, rank, size, row_size, row_first, has_cell, row_has, offset, row_offset}
use Rattle.murphi_run.proofs.OrderLemmas.{not_itself, before_trans, order_cases}
use Rattle.murphi_run.proofs.RankLemmas.{rank_below, rank_same}

some_one : {A : Type 0} {a b : A} → Some a ≡ Some b → a ≡ b
some_one e = cc

-- what stands before the cells of a field is no more than all
first_within : {n : _} (N : ℕ) (row : Row_of-Field n) (name : Name) → row_first N row name ≤ row_size N row
unfolding size
first_within N end_of-Field name = omega arith
first_within N (more_of-Field field type rest) name = go (name_before field name) (first_within N rest name)
  where
    go : (b : Bool) → row_first N rest name ≤ row_size N rest → (if b then size N type + row_first N rest name else row_first N rest name) ≤ size N type + row_size N rest
    go true e = omega (arith, e)
    go false e = omega (arith, e)

-- the cells of a field are among all
pub field_within : {n : _} (N : ℕ) (row : Row_of-Field n) (name : Name) (U : AnyType) → row_field row name ≡ Some U → row_first N row name + size N U ≤ row_size N row
unfolding size
field_within N end_of-Field name U e = cc
field_within N (more_of-Field field type rest) name U e = go (bytes_eq field name) refl e (name_before field name) refl (λ e. field_within N rest name U e) (first_within N rest name)
  where
    go : (b : Bool) → bytes_eq field name ≡ b → (if b then Some type else row_field rest name) ≡ Some U → (c : Bool) → name_before field name ≡ c → (row_field rest name ≡ Some U → row_first N rest name + size N U ≤ row_size N rest) → row_first N rest name ≤ row_size N rest → (if c then size N type + row_first N rest name else row_first N rest name) + size N U ≤ size N type + row_size N rest
    go true was e true before more low =
        let itself : name_before field name ≡ false = ap (name_before field) (sym (names_true field name was)) ∙ not_itself field in
        let wrong : true ≡ false = sym before ∙ itself in
        cc
    go true was e false before more low = let s : size N type ≡ size N U = ap (size N) (some_one e) in omega (arith, s, low)
    go false was e true before more low = omega (arith, more e)
    go false was e false before more low = omega (arith, more e)

-- fields stand in the order of their names
firsts_grow : {n : _} (N : ℕ) (row : Row_of-Field n) (a b : Name) → name_before a b ≡ true → row_first N row a ≤ row_first N row b
firsts_grow N end_of-Field a b e = omega arith
firsts_grow N (more_of-Field field type rest) a b e = go (name_before field a) refl (name_before field b) refl (firsts_grow N rest a b e)
  where
    go : (c : Bool) → name_before field a ≡ c → (d : Bool) → name_before field b ≡ d → row_first N rest a ≤ row_first N rest b → (if c then size N type + row_first N rest a else row_first N rest a) ≤ (if d then size N type + row_first N rest b else row_first N rest b)
    go true was false now more =
        let wrong : true ≡ false = sym (before_trans field a b was e) ∙ now in
        cc
    go true was true now more = omega (arith, more)
    go false was true now more = omega (arith, more)
    go false was false now more = more

pub fields_apart : {n : _} (N : ℕ) (row : Row_of-Field n) (a b : Name) (U : AnyType) → row_field row a ≡ Some U → name_before a b ≡ true → row_first N row a + size N U ≤ row_first N row b
fields_apart N end_of-Field a b U e before = cc
fields_apart N (more_of-Field field type rest) a b U e before = go (bytes_eq field a) refl e (name_before field a) refl (name_before field b) refl (λ e. fields_apart N rest a b U e before) (firsts_grow N rest a b before)
  where
    go : (s : Bool) → bytes_eq field a ≡ s → (if s then Some type else row_field rest a) ≡ Some U → (c : Bool) → name_before field a ≡ c → (d : Bool) → name_before field b ≡ d → (row_field rest a ≡ Some U → row_first N rest a + size N U ≤ row_first N rest b) → row_first N rest a ≤ row_first N rest b → (if c then size N type + row_first N rest a else row_first N rest a) + size N U ≤ (if d then size N type + row_first N rest b else row_first N rest b)
    go true was e true now d then' more grow =
        let itself : name_before field a ≡ false = ap (name_before field) (sym (names_true field a was)) ∙ not_itself field in
        let wrong : true ≡ false = sym now ∙ itself in
        cc
    go true was e false now false then' more grow =
        let there : name_before field b ≡ true = ap (λ x. name_before x b) (names_true field a was) ∙ before in
        let wrong : true ≡ false = sym there ∙ then' in
        cc
    go true was e false now true then' more grow = let s : size N type ≡ size N U = ap (size N) (some_one e) in omega (arith, s, grow)
    go false was e true now false then' more grow =
        let wrong : true ≡ false = sym (before_trans field a b now before) ∙ then' in
        cc
    go false was e true now true then' more grow = omega (arith, more e)
    go false was e false now true then' more grow = omega (arith, more e)
    go false was e false now false then' more grow = more e

-- a cell under a field: the field has a type, and the cell a number within it
abbrev UnderField : {n : _} → ℕ → Row_of-Field n → Name → Path → List Value → Type 0
UnderField N row name path at =
    (U : AnyType) × (row_field row name ≡ Some U) × (row_offset N row name path at < size N U)

mutual
  unfolding size has_cell offset

  pub cell_within : (N : ℕ) (T : AnyType) (path : Path) (at : List Value) → has_cell N T path at ≡ true → offset N T path at < size N T
  cell_within N (t.Simple type) [] [] e = omega arith
  cell_within N (t.Simple type) [] (v ∷ at) e = cc
  cell_within N (t.Simple type) (name ∷ path) at e = cc
  cell_within N (t.Record' _ fields) [] at e = cc
  cell_within N (t.Record' _ fields) (name ∷ path) at e =
      let (U, found, below) = row_within N fields name path at e in
      omega (arith, below, field_within N fields name U found)
  cell_within N (ArrayForm index item) path [] e = cc
  cell_within N (ArrayForm index item) path (v ∷ at) e =
      let (fits, more) = and_parts (is_value N index v) (has_cell N item path at) e in
      mul-add-lt (rank index v) (size N item) (offset N item path at) (value_count N index) (rank_below N index v fits) (cell_within N item path at more)

  pub row_within : {n : _} (N : ℕ) (row : Row_of-Field n) (name : Name) (path : Path) (at : List Value) → row_has N row name path at ≡ true → UnderField N row name path at
  row_within N end_of-Field name path at e = cc
  row_within N (more_of-Field field type rest) name path at e = go (bytes_eq field name) e (λ e. cell_within N type path at e) (λ e. row_within N rest name path at e)
    where
      go : (b : Bool) → (if b then has_cell N type path at else row_has N rest name path at) ≡ true → (has_cell N type path at ≡ true → offset N type path at < size N type) → (row_has N rest name path at ≡ true → UnderField N rest name path at) → (U : AnyType) × ((if b then Some type else row_field rest name) ≡ Some U) × ((if b then offset N type path at else row_offset N rest name path at) < size N U)
      go true e here more = (type, refl, here e)
      go false e here more = more e

-- two cells that are one
abbrev AreOne : Path → Path → List Value → List Value → Type 0
AreOne path way at by = (path ≡ way) × (at ≡ by)

same_front : (a b c : ℕ) → a + b ≡ a + c → b ≡ c
same_front a b c e = omega (arith, e)

clash : (a b c d s : ℕ) → b < s → a + s ≤ c → a + b ≡ c + d → ⊥
clash a b c d s low apart e = omega (arith, low, apart, e)

mutual
  unfolding size has_cell offset

  pub cells_apart : (N : ℕ) (T : AnyType) (path way : Path) (at by : List Value) → has_cell N T path at ≡ true → has_cell N T way by ≡ true → offset N T path at ≡ offset N T way by → AreOne path way at by
  cells_apart N (t.Simple type) [] [] [] [] e f same = (refl, refl)
  cells_apart N (t.Simple type) (name ∷ path) way at by e f same = cc
  cells_apart N (t.Simple type) [] (name ∷ way) at by e f same = cc
  cells_apart N (t.Simple type) [] [] (v ∷ at) by e f same = cc
  cells_apart N (t.Simple type) [] [] [] (v ∷ by) e f same = cc
  cells_apart N (t.Record' _ fields) [] way at by e f same = cc
  cells_apart N (t.Record' _ fields) (a ∷ path) [] at by e f same = cc
  cells_apart N (t.Record' _ fields) (a ∷ path) (b ∷ way) at by e f same = go (order_cases a b) (λ f same. rows_apart N fields a path way at by e f same)
    where
      go : (a ≡ b) ⊎ ((name_before a b ≡ true) ⊎ (name_before b a ≡ true)) → (row_has N fields a way by ≡ true → row_offset N fields a path at ≡ row_offset N fields a way by → AreOne path way at by) → AreOne (a ∷ path) (b ∷ way) at by
      go (inl one) more =
          let there : row_has N fields a way by ≡ true = ap (λ x. row_has N fields x way by) one ∙ f in
          let moved : row_first N fields a + row_offset N fields a path at ≡ row_first N fields a + row_offset N fields a way by = same ∙ ap (λ x. row_first N fields x + row_offset N fields x way by) (sym one) in
          let (p, q) = more there (same_front (row_first N fields a) (row_offset N fields a path at) (row_offset N fields a way by) moved) in
          (ap (λ x. x ∷ path) one ∙ ap (λ xs. b ∷ xs) p, q)
      go (inr (inl first)) more =
          let (U, found, below) = row_within N fields a path at e in
          absurd (clash (row_first N fields a) (row_offset N fields a path at) (row_first N fields b) (row_offset N fields b way by) (size N U) below (fields_apart N fields a b U found first) same)
      go (inr (inr first)) more =
          let (U, found, below) = row_within N fields b way by f in
          absurd (clash (row_first N fields b) (row_offset N fields b way by) (row_first N fields a) (row_offset N fields a path at) (size N U) below (fields_apart N fields b a U found first) (sym same))
  cells_apart N (ArrayForm index item) path way [] by e f same = cc
  cells_apart N (ArrayForm index item) path way (v ∷ at) [] e f same = cc
  cells_apart N (ArrayForm index item) path way (v ∷ at) (w ∷ by) e f same =
      let (vfits, e) = and_parts (is_value N index v) (has_cell N item path at) e in
      let (wfits, f) = and_parts (is_value N index w) (has_cell N item way by) f in
      let (ranks, inner) = same_from_place (rank index v) (offset N item path at) (rank index w) (offset N item way by) (size N item) (cell_within N item path at e) (cell_within N item way by f) same in
      let (p, q) = cells_apart N item path way at by e f inner in
      (p, ap (λ x. x ∷ at) (rank_same N index v w vfits wfits ranks) ∙ ap (λ xs. w ∷ xs) q)

  rows_apart : {n : _} (N : ℕ) (row : Row_of-Field n) (name : Name) (path way : Path) (at by : List Value) → row_has N row name path at ≡ true → row_has N row name way by ≡ true → row_offset N row name path at ≡ row_offset N row name way by → AreOne path way at by
  rows_apart N end_of-Field name path way at by e f same = cc
  rows_apart N (more_of-Field field type rest) name path way at by e f same = go (bytes_eq field name) e f same (λ e f same. cells_apart N type path way at by e f same) (λ e f same. rows_apart N rest name path way at by e f same)
    where
      go : (b : Bool) → (if b then has_cell N type path at else row_has N rest name path at) ≡ true → (if b then has_cell N type way by else row_has N rest name way by) ≡ true → (if b then offset N type path at else row_offset N rest name path at) ≡ (if b then offset N type way by else row_offset N rest name way by) → (has_cell N type path at ≡ true → has_cell N type way by ≡ true → offset N type path at ≡ offset N type way by → AreOne path way at by) → (row_has N rest name path at ≡ true → row_has N rest name way by ≡ true → row_offset N rest name path at ≡ row_offset N rest name way by → AreOne path way at by) → AreOne path way at by
      go true e f same here more = here e f same
      go false e f same here more = more e f same

mutual
  unfolding has_cell

  -- what leads to a cell leads no further
  pub cell_ends : (N : ℕ) (T : AnyType) (path more : Path) (at further : List Value) → has_cell N T path at ≡ true → has_cell N T (path ++ more) (at ++ further) ≡ true → (more ≡ []) × (further ≡ [])
  cell_ends N (t.Simple type) [] [] [] [] e f = (refl, refl)
  cell_ends N (t.Simple type) (name ∷ path) more at further e f = cc
  cell_ends N (t.Simple type) [] more (v ∷ at) further e f = cc
  cell_ends N (t.Simple type) [] (name ∷ more) [] further e f = cc
  cell_ends N (t.Simple type) [] [] [] (v ∷ further) e f = cc
  cell_ends N (t.Record' _ fields) [] more at further e f = cc
  cell_ends N (t.Record' _ fields) (name ∷ path) more at further e f = row_ends N fields name path more at further e f
  cell_ends N (ArrayForm index item) path more [] further e f = cc
  cell_ends N (ArrayForm index item) path more (v ∷ at) further e f =
      let (vfits, e) = and_parts (is_value N index v) (has_cell N item path at) e in
      let (wfits, f) = and_parts (is_value N index v) (has_cell N item (path ++ more) (at ++ further)) f in
      cell_ends N item path more at further e f

  row_ends : {n : _} (N : ℕ) (row : Row_of-Field n) (name : Name) (path more : Path) (at further : List Value) → row_has N row name path at ≡ true → row_has N row name (path ++ more) (at ++ further) ≡ true → (more ≡ []) × (further ≡ [])
  row_ends N end_of-Field name path more at further e f = cc
  row_ends N (more_of-Field field type rest) name path more at further e f = go (bytes_eq field name) e f (λ e f. cell_ends N type path more at further e f) (λ e f. row_ends N rest name path more at further e f)
    where
      go : (b : Bool) → (if b then has_cell N type path at else row_has N rest name path at) ≡ true → (if b then has_cell N type (path ++ more) (at ++ further) else row_has N rest name (path ++ more) (at ++ further)) ≡ true → (has_cell N type path at ≡ true → has_cell N type (path ++ more) (at ++ further) ≡ true → (more ≡ []) × (further ≡ [])) → (row_has N rest name path at ≡ true → row_has N rest name (path ++ more) (at ++ further) ≡ true → (more ≡ []) × (further ≡ [])) → (more ≡ []) × (further ≡ [])
      go true e f here later = here e f
      go false e f here later = later e f

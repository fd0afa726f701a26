-- The simple types that field names lead to.
use Rattle.std.proofs.Common.{◌≡◌, Bool, true, false, [], ◌∷◌, ◌++◌, Option, None, Some, refl, sym, ap, ◌∙◌}
use Rattle.std.specs.Prelude.{if◌then◌else◌}
use Rattle.std.specs.Option.{option_map_or}
use Rattle.std.specs.Str.{bytes_eq}
use Rattle.std.proofs.lemmas.Bool.{and_parts}
use Rattle.murphi_typed.specs.declared.types.Simple.{Simple}
use Rattle.murphi_typed.specs.declared.types.AnyType as t
use Rattle.murphi_typed.specs.declared.types.AnyType.{AnyType, Row_of-Field, end_of-Field, more_of-Field}
use Rattle.murphi_typed.specs.declared.expr.Designator.{Row_of-Selector, end_of-Selector, more_of-Selector}
use Rattle.murphi_typed.specs.declared.expr.Selector as select
use Rattle.murphi_typed.specs.Forms.{ArrayForm}
use Rattle.murphi_typed.specs.Families.{Name, Path, leaf_at, row_leaf}
use Rattle.murphi_typed.specs.Expressions.{row_path}
use Rattle.murphi_typed.specs.WellTyped.{Scope, same_simple, row_field, has_parts, each_field, same_type, field_part, item_part, only_if, is_of, type_of, selected_type}
use Rattle.murphi_typed.proofs.TestLemmas.{names_true, simples_true}

pub some_same : {A : Type 0} {a b : A} → Some a ≡ Some b → a ≡ b
some_same e = cc

-- nothing is not something
pub not_some : {A : Type 0} {a : A} → None ≡ Some a → ⊥
not_some e = cc

row_leaf_of : {n : _} (fields : Row_of-Field n) (name : Name) (T : AnyType) → row_field fields name ≡ Some T → (path : Path) → row_leaf fields name path ≡ leaf_at T path
unfolding leaf_at
row_leaf_of end_of-Field name T e path = cc
row_leaf_of (more_of-Field field type rest) name T e path = go (bytes_eq field name) e (λ e. row_leaf_of rest name T e path)
  where
    go : (b : Bool) → (if b then Some type else row_field rest name) ≡ Some T → (row_field rest name ≡ Some T → row_leaf rest name path ≡ leaf_at T path) → (if b then leaf_at type path else row_leaf rest name path) ≡ leaf_at T path
    go true e more = ap (λ u. leaf_at u path) (some_same e)
    go false e more = more e

field_leaf : (T : AnyType) (name : Name) (U : AnyType) → field_part (Some T) name ≡ Some U → (path : Path) → leaf_at T (name ∷ path) ≡ leaf_at U path
unfolding leaf_at
field_leaf (t.Simple type) name U e path = cc
field_leaf (t.Record' _ fields) name U e path = row_leaf_of fields name U e path
field_leaf (ArrayForm index item) name U e path = cc

item_leaf : (T : AnyType) (over : Simple) (U : AnyType) (b : Bool) → only_if b (item_part (Some T) over) ≡ Some U → (path : Path) → leaf_at T path ≡ leaf_at U path
unfolding leaf_at
item_leaf T over U false e path = cc
item_leaf (t.Simple type) over U true e path = cc
item_leaf (t.Record' _ fields) over U true e path = cc
item_leaf (ArrayForm index item) over U true e path = go (same_simple index over) e
  where
    go : (b : Bool) → (if b then Some item else None) ≡ Some U → leaf_at item path ≡ leaf_at U path
    go true e = ap (λ u. leaf_at u path) (some_same e)
    go false e = cc

no_field : (name : Name) → field_part None name ≡ None
no_field name = refl

no_item : (over : Simple) (b : Bool) → only_if b (item_part None over) ≡ None
no_item over true = refl
no_item over false = refl

-- nothing is selected from what has no type
none_selected : {n : _} (scope : Scope) (row : Row_of-Selector n) → selected_type scope None row ≡ None
unfolding type_of
none_selected scope end_of-Selector = refl
none_selected scope (more_of-Selector (select.Field name) rest) = none_selected scope rest
none_selected scope (more_of-Selector (select.Index over index) rest) = ap (λ o. selected_type scope o rest) (no_item over (is_of over (type_of scope index))) ∙ none_selected scope rest

-- the fields of a designator lead on to the type that is selected
pub selected_leaf : {n : _} (scope : Scope) (T U : AnyType) (row : Row_of-Selector n) → selected_type scope (Some T) row ≡ Some U → (path : Path) → leaf_at T (row_path row ++ path) ≡ leaf_at U path
unfolding type_of
selected_leaf scope T U end_of-Selector e path = ap (λ u. leaf_at u path) (some_same e)
selected_leaf scope T U (more_of-Selector (select.Field name) rest) e path = go (field_part (Some T) name) refl e (λ V e. selected_leaf scope V U rest e path)
  where
    go : (o : Option AnyType) → field_part (Some T) name ≡ o → selected_type scope o rest ≡ Some U → ((V : AnyType) → selected_type scope (Some V) rest ≡ Some U → leaf_at V (row_path rest ++ path) ≡ leaf_at U path) → leaf_at T (name ∷ (row_path rest ++ path)) ≡ leaf_at U path
    go None was e more = absurd (not_some (sym (none_selected scope rest) ∙ e))
    go (Some V) was e more = field_leaf T name V was (row_path rest ++ path) ∙ more V e
selected_leaf scope T U (more_of-Selector (select.Index over index) rest) e path = go (only_if (is_of over (type_of scope index)) (item_part (Some T) over)) refl e (λ V e. selected_leaf scope V U rest e path)
  where
    go : (o : Option AnyType) → only_if (is_of over (type_of scope index)) (item_part (Some T) over) ≡ o → selected_type scope o rest ≡ Some U → ((V : AnyType) → selected_type scope (Some V) rest ≡ Some U → leaf_at V (row_path rest ++ path) ≡ leaf_at U path) → leaf_at T (row_path rest ++ path) ≡ leaf_at U path
    go None was e more = absurd (not_some (sym (none_selected scope rest) ∙ e))
    go (Some V) was e more = item_leaf T over V (is_of over (type_of scope index)) was (row_path rest ++ path) ∙ more V e

-- what is selected has a root with a type
pub selected_root : {n : _} (scope : Scope) (root : Option AnyType) (U : AnyType) (row : Row_of-Selector n) → selected_type scope root row ≡ Some U → (T : AnyType) × (root ≡ Some T)
selected_root scope None U row e = let none : None ≡ Some U = sym (none_selected scope row) ∙ e in absurd (not_some none)
selected_root scope (Some T) U row e = (T, refl)

mutual
  unfolding leaf_at has_parts

  parts_leaf : (U V : AnyType) → has_parts U V ≡ true → (path : Path) (leaf : Simple) → leaf_at U path ≡ Some leaf → leaf_at V path ≡ Some leaf
  parts_leaf (t.Simple a) (t.Simple b) same [] leaf e = ap Some (sym (simples_true a b same)) ∙ e
  parts_leaf (t.Simple a) (t.Simple b) same (name ∷ path) leaf e = cc
  parts_leaf (t.Record' _ fields) (t.Record' _ others) same [] leaf e = cc
  parts_leaf (t.Record' _ fields) (t.Record' _ others) same (name ∷ path) leaf e =
      let (V, found, there) = fields_leaf fields (row_field others) same name path leaf e in
      row_leaf_of others name V found path ∙ there
  parts_leaf (ArrayForm index item) (ArrayForm other more) same path leaf e =
      let (i, parts) = and_parts (same_simple index other) (has_parts item more) same in
      parts_leaf item more parts path leaf e
  parts_leaf (t.Simple a) (t.Record' _ others) same path leaf e = cc
  parts_leaf (t.Simple a) (ArrayForm other more) same path leaf e = cc
  parts_leaf (t.Record' _ fields) (t.Simple b) same path leaf e = cc
  parts_leaf (t.Record' _ fields) (ArrayForm other more) same path leaf e = cc
  parts_leaf (ArrayForm index item) (t.Simple b) same path leaf e = cc
  parts_leaf (ArrayForm index item) (t.Record' _ others) same path leaf e = cc

  fields_leaf : {n : _} (fields : Row_of-Field n) (field : Name → Option AnyType) → each_field fields field ≡ true → (name : Name) (path : Path) (leaf : Simple) → row_leaf fields name path ≡ Some leaf → (V : AnyType) × (field name ≡ Some V) × (leaf_at V path ≡ Some leaf)
  fields_leaf end_of-Field field same name path leaf e = absurd (not_some e)
  fields_leaf (more_of-Field first type rest) field same name path leaf e =
      let (here, later) = and_parts (option_map_or (has_parts type) (field first) false) (each_field rest field) same in
      go (bytes_eq first name) refl e (field first) refl here (λ V parts. parts_leaf type V parts path leaf) (fields_leaf rest field later name path leaf)
    where
      go : (b : Bool) → bytes_eq first name ≡ b → (if b then leaf_at type path else row_leaf rest name path) ≡ Some leaf → (o : Option AnyType) → field first ≡ o → option_map_or (has_parts type) o false ≡ true → ((V : AnyType) → has_parts type V ≡ true → leaf_at type path ≡ Some leaf → leaf_at V path ≡ Some leaf) → (row_leaf rest name path ≡ Some leaf → (V : AnyType) × (field name ≡ Some V) × (leaf_at V path ≡ Some leaf)) → (V : AnyType) × (field name ≡ Some V) × (leaf_at V path ≡ Some leaf)
      go true was e None there here deeper more = cc
      go true was e (Some V) there here deeper more = (V, ap field (sym (names_true first name was)) ∙ there, deeper V here e)
      go false was e o there here deeper more = more e

-- two types that are one lead to the same simple types
pub same_leaf : (U V : AnyType) → same_type U V ≡ true → (path : Path) → leaf_at U path ≡ leaf_at V path
same_leaf U V same path =
    let (forth, back) = and_parts (has_parts U V) (has_parts V U) same in
    go (leaf_at U path) (leaf_at V path) (λ leaf. parts_leaf U V forth path leaf) (λ leaf. parts_leaf V U back path leaf)
  where
    go : (o p : Option Simple) → ((leaf : Simple) → o ≡ Some leaf → p ≡ Some leaf) → ((leaf : Simple) → p ≡ Some leaf → o ≡ Some leaf) → o ≡ p
    go None None forth back = refl
    go None (Some leaf) forth back = back leaf refl
    go (Some leaf) p forth back = sym (forth leaf refl)

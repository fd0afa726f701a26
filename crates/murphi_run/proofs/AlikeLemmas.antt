-- Variables of two types that are one have their cells at the same numbers.
use Rattle.std.proofs.Common.{◌≡◌, ℕ, ◌+◌, ◌*◌, Bool, true, false, not, ◌&&◌, List, [], ◌∷◌, Option, None, Some, refl, sym, ap, ◌∙◌, subst, arith}
use Rattle.std.specs.Prelude.{if◌then◌else◌, is_some, option_map}
use Rattle.std.specs.Option.{option_map_or}
use Rattle.std.specs.Str.{bytes_eq}
use Rattle.std.proofs.lemmas.Bool.{and_parts}
use Rattle.term_core.specs.declared.value.Value.{Value}
use Rattle.murphi_typed.specs.declared.types.Simple.{Simple}
use Rattle.murphi_typed.specs.declared.types.Kind.{Kind}
use Rattle.murphi_typed.specs.declared.types.AnyType as t
use Rattle.murphi_typed.specs.declared.types.AnyType.{AnyType, Row_of-Field, end_of-Field, more_of-Field}
use Rattle.murphi_typed.specs.Forms.{ArrayForm}
use Rattle.murphi_typed.specs.Values.{is_value}
use Rattle.murphi_typed.specs.Families.{Name, Path}
use Rattle.murphi_typed.specs.WellTyped.{row_field, is_simple_type, is_type, are_fields, same_simple, same_type, has_parts, each_field}
use Rattle.murphi_typed.proofs.TestLemmas.{names_true, simples_true}
use Rattle.murphi_run.specs.Layout.{name_before, value_count, rank, size, row_size, row_first, has_cell, row_has, offset, row_offset}
use Rattle.murphi_run.proofs.SumLemmas.{Weight, find, distinct, sum_if, sums_alike, name_self}

abbrev Alike : ℕ → AnyType → AnyType → Type 0
Alike N T U =
    (size N T ≡ size N U)
    × ((path : Path) (at : List Value) → offset N T path at ≡ offset N U path at)
    × ((path : Path) (at : List Value) → has_cell N T path at ≡ has_cell N U path at)

some_one : {A : Type 0} {a b : A} → Some a ≡ Some b → a ≡ b
some_one e = cc

none_some : {A : Type 0} {a : A} → None ≡ Some a → ⊥
none_some e = cc

-- the fields with how many cells each has
abbrev weights : {n : _} → ℕ → Row_of-Field n → List Weight
weights N end_of-Field = []
weights N (more_of-Field name type rest) = record { name = name; many = size N type } ∷ weights N rest

weight_found : {n : _} (N : ℕ) (row : Row_of-Field n) (name : Name) → find name (weights N row) ≡ option_map (size N) (row_field row name)
weight_found N end_of-Field name = refl
weight_found N (more_of-Field field type rest) name = go (bytes_eq field name) (weight_found N rest name)
  where
    go : (b : Bool) → find name (weights N rest) ≡ option_map (size N) (row_field rest name) → (if b then Some (size N type) else find name (weights N rest)) ≡ option_map (size N) (if b then Some type else row_field rest name)
    go true more = refl
    go false more = more

row_size_is : {n : _} (N : ℕ) (row : Row_of-Field n) → row_size N row ≡ sum_if (λ field. true) (weights N row)
unfolding size
row_size_is N end_of-Field = refl
row_size_is N (more_of-Field name type rest) = ap (λ k. size N type + k) (row_size_is N rest)

row_first_is : {n : _} (N : ℕ) (row : Row_of-Field n) (name : Name) → row_first N row name ≡ sum_if (λ field. name_before field name) (weights N row)
row_first_is N end_of-Field name = refl
row_first_is N (more_of-Field field type rest) name = ap (λ k. if name_before field name then size N type + k else k) (row_first_is N rest name)

same_some : {A B : Type 0} (f : A → B) (o : Option A) → is_some (option_map f o) ≡ is_some o
same_some f None = refl
same_some f (Some x) = refl

names_once : {n : _} (N : ℕ) (kinds : List Kind) (row : Row_of-Field n) → are_fields kinds row ≡ true → distinct (weights N row) ≡ true
unfolding is_type
names_once N kinds end_of-Field e = refl
names_once N kinds (more_of-Field name type rest) e =
    let (fine, both) = and_parts (is_type kinds type) (not (is_some (row_field rest name)) && are_fields kinds rest) e in
    let (once, more) = and_parts (not (is_some (row_field rest name))) (are_fields kinds rest) both in
    ap (λ o. not (is_some o) && distinct (weights N rest)) (weight_found N rest name)
    ∙ ap (λ b. not b && distinct (weights N rest)) (same_some (size N) (row_field rest name))
    ∙ ap (λ b. b && distinct (weights N rest)) once ∙ names_once N kinds rest more

-- the cells under a field are those of its type
offset_under : {n : _} (N : ℕ) (row : Row_of-Field n) (name : Name) (path : Path) (at : List Value) → row_offset N row name path at ≡ option_map_or (λ V. offset N V path at) (row_field row name) 0
unfolding offset
offset_under N end_of-Field name path at = refl
offset_under N (more_of-Field field type rest) name path at = go (bytes_eq field name) (offset_under N rest name path at)
  where
    go : (b : Bool) → row_offset N rest name path at ≡ option_map_or (λ V. offset N V path at) (row_field rest name) 0 → (if b then offset N type path at else row_offset N rest name path at) ≡ option_map_or (λ V. offset N V path at) (if b then Some type else row_field rest name) 0
    go true more = refl
    go false more = more

cell_under : {n : _} (N : ℕ) (row : Row_of-Field n) (name : Name) (path : Path) (at : List Value) → row_has N row name path at ≡ option_map_or (λ V. has_cell N V path at) (row_field row name) false
unfolding has_cell
cell_under N end_of-Field name path at = refl
cell_under N (more_of-Field field type rest) name path at = go (bytes_eq field name) (cell_under N rest name path at)
  where
    go : (b : Bool) → row_has N rest name path at ≡ option_map_or (λ V. has_cell N V path at) (row_field rest name) false → (if b then has_cell N type path at else row_has N rest name path at) ≡ option_map_or (λ V. has_cell N V path at) (if b then Some type else row_field rest name) false
    go true more = refl
    go false more = more

-- the types of fields are types
field_fine : {n : _} (kinds : List Kind) (row : Row_of-Field n) (name : Name) (V : AnyType) → are_fields kinds row ≡ true → row_field row name ≡ Some V → is_type kinds V ≡ true
unfolding is_type
field_fine kinds end_of-Field name V e found = absurd (none_some found)
field_fine kinds (more_of-Field field type rest) name V e found =
    let (fine, both) = and_parts (is_type kinds type) (not (is_some (row_field rest field)) && are_fields kinds rest) e in
    let (once, more) = and_parts (not (is_some (row_field rest field))) (are_fields kinds rest) both in
    go (bytes_eq field name) found fine (field_fine kinds rest name V more)
  where
    go : (b : Bool) → (if b then Some type else row_field rest name) ≡ Some V → is_type kinds type ≡ true → (row_field rest name ≡ Some V → is_type kinds V ≡ true) → is_type kinds V ≡ true
    go true found fine more = ap (is_type kinds) (sym (some_one found)) ∙ fine
    go false found fine more = more found

-- each field has its part among the others
part_found : {n : _} (row : Row_of-Field n) (field : Name → Option AnyType) (name : Name) (V : AnyType) → each_field row field ≡ true → row_field row name ≡ Some V → (W : AnyType) × (field name ≡ Some W) × (has_parts V W ≡ true)
unfolding has_parts
part_found end_of-Field field name V e found = absurd (none_some found)
part_found (more_of-Field first type rest) field name V e found =
    let (this, later) = and_parts (option_map_or (has_parts type) (field first) false) (each_field rest field) e in
    go (bytes_eq first name) refl found (field first) refl this (part_found rest field name V later)
  where
    go : (b : Bool) → bytes_eq first name ≡ b → (if b then Some type else row_field rest name) ≡ Some V → (o : Option AnyType) → field first ≡ o → option_map_or (has_parts type) o false ≡ true → (row_field rest name ≡ Some V → (W : AnyType) × (field name ≡ Some W) × (has_parts V W ≡ true)) → (W : AnyType) × (field name ≡ Some W) × (has_parts V W ≡ true)
    go true was found None there this more = cc
    go true was found (Some W) there this more = (W, ap field (sym (names_true first name was)) ∙ there, ap (λ x. has_parts x W) (sym (some_one found)) ∙ this)
    go false was found o there this more = more found

-- what is alike of each name
abbrev AlikeAt : ℕ → Option AnyType → Option AnyType → Type 0
AlikeAt N (Some V) (Some W) = Alike N V W
AlikeAt N None None = Unit {0}
AlikeAt N _ _ = ⊥

sizes_at : (N : ℕ) (o p : Option AnyType) → AlikeAt N o p → option_map (size N) o ≡ option_map (size N) p
sizes_at N None None same = refl
sizes_at N None (Some W) same = absurd same
sizes_at N (Some V) None same = absurd same
sizes_at N (Some V) (Some W) same = let (many, first, cell) = same in ap Some many

offsets_at : (N : ℕ) (path : Path) (at : List Value) (o p : Option AnyType) → AlikeAt N o p → option_map_or (λ V. offset N V path at) o 0 ≡ option_map_or (λ V. offset N V path at) p 0
offsets_at N path at None None same = refl
offsets_at N path at None (Some W) same = absurd same
offsets_at N path at (Some V) None same = absurd same
offsets_at N path at (Some V) (Some W) same = let (many, first, cell) = same in first path at

cells_at : (N : ℕ) (path : Path) (at : List Value) (o p : Option AnyType) → AlikeAt N o p → option_map_or (λ V. has_cell N V path at) o false ≡ option_map_or (λ V. has_cell N V path at) p false
cells_at N path at None None same = refl
cells_at N path at None (Some W) same = absurd same
cells_at N path at (Some V) None same = absurd same
cells_at N path at (Some V) (Some W) same = let (many, first, cell) = same in cell path at

both_add : (a b c d : ℕ) → a ≡ c → b ≡ d → a + b ≡ c + d
both_add a b c d e f = omega (arith, e, f)

-- two records are alike whose fields are
records_alike : {n m : _} (N : ℕ) (kinds : List Kind) (row : Row_of-Field n) (others : Row_of-Field m) → are_fields kinds row ≡ true → are_fields kinds others ≡ true → ((name : Name) → AlikeAt N (row_field row name) (row_field others name)) → (row_size N row ≡ row_size N others) × ((name : Name) (path : Path) (at : List Value) → row_first N row name + row_offset N row name path at ≡ row_first N others name + row_offset N others name path at) × ((name : Name) (path : Path) (at : List Value) → row_has N row name path at ≡ row_has N others name path at)
records_alike N kinds row others e f same =
    let once : distinct (weights N row) ≡ true = names_once N kinds row e in
    let other : distinct (weights N others) ≡ true = names_once N kinds others f in
    let finds : (name : Name) → find name (weights N row) ≡ find name (weights N others) =
    λ name. weight_found N row name ∙ sizes_at N (row_field row name) (row_field others name) (same name) ∙ sym (weight_found N others name) in (
      row_size_is N row ∙ sums_alike (λ field. true) (weights N row) (weights N others) once other finds ∙ sym (row_size_is N others),
      λ name path at. both_add (row_first N row name) (row_offset N row name path at) (row_first N others name) (row_offset N others name path at)
          (row_first_is N row name ∙ sums_alike (λ field. name_before field name) (weights N row) (weights N others) once other finds ∙ sym (row_first_is N others name))
          (offset_under N row name path at ∙ offsets_at N path at (row_field row name) (row_field others name) (same name) ∙ sym (offset_under N others name path at)),
      λ name path at. cell_under N row name path at ∙ cells_at N path at (row_field row name) (row_field others name) (same name) ∙ sym (cell_under N others name path at),
    )

-- what is known of two types that are one
abbrev AreOne : List Kind → AnyType → AnyType → Type 0
AreOne kinds T U = (is_type kinds T ≡ true) × (is_type kinds U ≡ true) × (has_parts T U ≡ true) × (has_parts U T ≡ true)

at_name : (N : ℕ) (o p : Option AnyType) → ((V : AnyType) → o ≡ Some V → (W : AnyType) × (p ≡ Some W) × Alike N V W) → ((W : AnyType) → p ≡ Some W → (V : AnyType) × (o ≡ Some V)) → AlikeAt N o p
at_name N None None forth back = tt
at_name N None (Some W) forth back = let (V, e) = back W refl in absurd (none_some e)
at_name N (Some V) p forth back = let (W, e, same) = forth V refl in subst (λ q. AlikeAt N (Some V) q) (sym e) same

-- functions of names and indices that are one where a name follows and where none does, or an index
by_path : {B : Type 0} (f g : Path → List Value → B) → ((at : List Value) → f [] at ≡ g [] at) → ((name : Name) (path : Path) (at : List Value) → f (name ∷ path) at ≡ g (name ∷ path) at) → (path : Path) (at : List Value) → f path at ≡ g path at
by_path f g none more [] at = none at
by_path f g none more (name ∷ path) at = more name path at

by_at : {B : Type 0} (f g : Path → List Value → B) → ((path : Path) → f path [] ≡ g path []) → ((path : Path) (v : Value) (at : List Value) → f path (v ∷ at) ≡ g path (v ∷ at)) → (path : Path) (at : List Value) → f path at ≡ g path at
by_at f g none more path [] = none path
by_at f g none more path (v ∷ at) = more path v at

simples_alike : (N : ℕ) (type other : Simple) → Alike N (t.Simple type) (t.Simple other)
unfolding size has_cell offset
simples_alike N type other = (refl, (λ path at. refl), cells)
  where
    cells : (path : Path) (at : List Value) → has_cell N (t.Simple type) path at ≡ has_cell N (t.Simple other) path at
    cells [] [] = refl
    cells [] (v ∷ at) = refl
    cells (name ∷ path) at = refl

arrays_alike : (N : ℕ) (index other : Simple) (item inner : AnyType) → index ≡ other → Alike N item inner → Alike N (ArrayForm index item) (ArrayForm other inner)
unfolding size has_cell offset
arrays_alike N index other item inner one same =
    let (many, first, cell) = same in (
      ap (λ x. x * value_count N index) many ∙ ap (λ i. size N inner * value_count N i) one,
      by_at (offset N (ArrayForm index item)) (offset N (ArrayForm other inner)) (λ path. refl)
          (λ path v at. ap (λ x. rank index v * x + offset N item path at) many ∙ ap (λ x. rank index v * size N inner + x) (first path at) ∙ ap (λ i. rank i v * size N inner + offset N inner path at) one),
      by_at (has_cell N (ArrayForm index item)) (has_cell N (ArrayForm other inner)) (λ path. refl)
          (λ path v at. ap (λ x. is_value N index v && x) (cell path at) ∙ ap (λ i. is_value N i v && has_cell N inner path at) one),
    )

-- what is asked of the fields of a record beside those of another
abbrev FieldsBack : {n : _} → Row_of-Field n → (Name → Option AnyType) → Type 0
FieldsBack row field = (name : Name) (V W : AnyType) → row_field row name ≡ Some V → field name ≡ Some W → has_parts W V ≡ true

abbrev FieldAlike : ℕ → (Name → Option AnyType) → Name → AnyType → Type 0
FieldAlike N field name V = (W : AnyType) × (field name ≡ Some W) × Alike N V W

not_there : (o : Option AnyType) → not (is_some o) ≡ true → o ≡ None
not_there None e = refl
not_there (Some V) e = cc

mutual
  unfolding size has_cell offset is_type has_parts

  alike : (N : ℕ) (kinds : List Kind) (T U : AnyType) → AreOne kinds T U → Alike N T U
  alike N kinds (t.Simple type) (t.Simple other) one = simples_alike N type other
  alike N kinds (t.Record' shape fields) (t.Record' form others) one =
      let (fine, good, forth, back) = one in
      let backs : FieldsBack fields (row_field others) =
      λ name V W e f. let (X, there, parts) = part_found others (row_field fields) name W back f in
      ap (has_parts W) (sym (some_one (sym there ∙ e))) ∙ parts in
      let each : (name : Name) (V : AnyType) → row_field fields name ≡ Some V → FieldAlike N (row_field others) name V =
      fields_alike N kinds fields (row_field others) fine forth (λ name W f. field_fine kinds others name W good f) backs in
      let (many, first, cell) = records_alike N kinds fields others fine good
      (λ name. at_name N (row_field fields name) (row_field others name) (each name)
      (λ W f. let (X, there, parts) = part_found others (row_field fields) name W back f in (X, there))) in (
        many,
        by_path (offset N (t.Record' shape fields)) (offset N (t.Record' form others)) (λ at. refl) first,
        by_path (has_cell N (t.Record' shape fields)) (has_cell N (t.Record' form others)) (λ at. refl) cell,
      )
  alike N kinds (ArrayForm index item) (ArrayForm other inner) one =
      let (fine, good, forth, back) = one in
      let (ifine, fine) = and_parts (is_simple_type kinds index) (is_type kinds item) fine in
      let (igood, good) = and_parts (is_simple_type kinds other) (is_type kinds inner) good in
      let (same, forth) = and_parts (same_simple index other) (has_parts item inner) forth in
      let (again, back) = and_parts (same_simple other index) (has_parts inner item) back in
      arrays_alike N index other item inner (simples_true index other same) (alike N kinds item inner (fine, good, forth, back))
  alike N kinds (t.Simple type) (t.Record' form others) one = let (fine, good, forth, back) = one in cc
  alike N kinds (t.Simple type) (ArrayForm other inner) one = let (fine, good, forth, back) = one in cc
  alike N kinds (t.Record' shape fields) (t.Simple other) one = let (fine, good, forth, back) = one in cc
  alike N kinds (t.Record' shape fields) (ArrayForm other inner) one = let (fine, good, forth, back) = one in cc
  alike N kinds (ArrayForm index item) (t.Simple other) one = let (fine, good, forth, back) = one in cc
  alike N kinds (ArrayForm index item) (t.Record' form others) one = let (fine, good, forth, back) = one in cc

  fields_alike : {n : _} (N : ℕ) (kinds : List Kind) (row : Row_of-Field n) (field : Name → Option AnyType) → are_fields kinds row ≡ true → each_field row field ≡ true → ((name : Name) (W : AnyType) → field name ≡ Some W → is_type kinds W ≡ true) → FieldsBack row field → (name : Name) (V : AnyType) → row_field row name ≡ Some V → FieldAlike N field name V
  fields_alike N kinds end_of-Field field fine forth good back name V found = absurd (none_some found)
  fields_alike N kinds (more_of-Field first type rest) field fine forth good back name V found =
      let (tfine, both) = and_parts (is_type kinds type) (not (is_some (row_field rest first)) && are_fields kinds rest) fine in
      let (once, rfine) = and_parts (not (is_some (row_field rest first))) (are_fields kinds rest) both in
      let (this, later) = and_parts (option_map_or (has_parts type) (field first) false) (each_field rest field) forth in
      go once (bytes_eq first name) refl found (field first) refl this
      (λ W there parts. alike N kinds type W (tfine, good first W there, parts, back first type W (itself (name_self first)) there))
      (fields_alike N kinds rest field rfine later good (λ other X Y e f. back other X Y (behind once other (bytes_eq first other) refl X e) f) name V)
    where
      itself : bytes_eq first first ≡ true → (if bytes_eq first first then Some type else row_field rest first) ≡ Some type
      itself e = ap (λ b. if b then Some type else row_field rest first) e

      behind : not (is_some (row_field rest first)) ≡ true → (other : Name) (b : Bool) → bytes_eq first other ≡ b → (X : AnyType) → row_field rest other ≡ Some X → (if bytes_eq first other then Some type else row_field rest other) ≡ Some X
      behind once other true was X e =
          let gone : row_field rest other ≡ None = ap (row_field rest) (sym (names_true first other was)) ∙ not_there (row_field rest first) once in
          absurd (none_some (sym gone ∙ e))
      behind once other false was X e = ap (λ b. if b then Some type else row_field rest other) was ∙ e

      go : not (is_some (row_field rest first)) ≡ true → (b : Bool) → bytes_eq first name ≡ b → (if b then Some type else row_field rest name) ≡ Some V → (o : Option AnyType) → field first ≡ o → option_map_or (has_parts type) o false ≡ true → ((W : AnyType) → field first ≡ Some W → has_parts type W ≡ true → Alike N type W) → (row_field rest name ≡ Some V → FieldAlike N field name V) → FieldAlike N field name V
      go once true was found None there this deeper more = cc
      go once true was found (Some W) there this deeper more =
          (W, ap field (sym (names_true first name was)) ∙ there, subst (λ x. Alike N x W) (some_one found) (deeper W there this))
      go once false was found o there this deeper more = more found

pub stand_alike : (N : ℕ) (kinds : List Kind) (T U : AnyType) → is_type kinds T ≡ true → is_type kinds U ≡ true → same_type T U ≡ true → Alike N T U
stand_alike N kinds T U fine good same = let (forth, back) = and_parts (has_parts T U) (has_parts U T) same in alike N kinds T U (fine, good, forth, back)

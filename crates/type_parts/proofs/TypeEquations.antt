-- The parts of each form of type, in terms of the parts that code reads.
use Rattle.std.proofs.Common.{◌≡◌, ℕ, Bool, true, false, cond, ◌&&◌, List, [], ◌∷◌, Option, None, Some, refl, ap, ◌∙◌}
use Rattle.std.specs.Option.{option_map_or}
use Rattle.std.specs.Str.{bytes_eq}
use denote.Hole.Carrier.{hidden}
use Rattle.murphi_typed.specs.declared.types.Simple.{Simple}
use Rattle.murphi_typed.specs.declared.types.Field.{Field}
use Rattle.murphi_typed.specs.declared.types.AnyType as t
use Rattle.murphi_typed.specs.declared.types.AnyType.{AnyType, Row_of-Field, end_of-Field, more_of-Field, items-the_row-Field, items_hidden-the_row-Field-0, the_lemmas}
use Rattle.murphi_typed.specs.declared.types.AnyType.TheBlock.{shape-the_row-AnyType-1, hidden-the_row-AnyType-1, hidden-the_row-Field-0}
use Rattle.murphi_typed.specs.Families.{Name}
use Rattle.murphi_typed.specs.WellTyped.{has_parts, each_field, row_field, same_simple}
use Rattle.type_parts.specs.TypeLists.{list_field, each_of}

pub row_field_is : {n : _} (row : Row_of-Field n) (name : Name) → row_field row name ≡ list_field (items-the_row-Field n row) name
row_field_is end_of-Field name = refl
row_field_is (more_of-Field field type rest) name = ap (cond (bytes_eq field name) (Some type)) (row_field_is rest name)

pub field_is : (fs : List Field) (name : Name) → row_field (hidden-the_row-Field-0 fs) name ≡ list_field fs name
field_is fs name = row_field_is (hidden-the_row-Field-0 fs) name ∙ ap (λ gs. list_field gs name) (items_hidden-the_row-Field-0 fs)

row_each_is : {n m : _} (row : Row_of-Field n) (others : Row_of-Field m) → each_field row (row_field others) ≡ each_of (items-the_row-Field n row) (items-the_row-Field m others)
unfolding has_parts
row_each_is end_of-Field others = refl
row_each_is (more_of-Field name type rest) others =
    ap (λ o. option_map_or (has_parts type) o false && each_field rest (row_field others)) (row_field_is others name)
    ∙ ap (λ b. option_map_or (has_parts type) (list_field (items-the_row-Field _ others) name) false && b) (row_each_is rest others)

pub parts-Simple : (a b : Simple) → has_parts (t.Simple a) (t.Simple b) ≡ same_simple a b
unfolding has_parts
parts-Simple a b = refl

pub parts-Simple-Record : (a : Simple) (gs : List Field) → has_parts (t.Simple a) (t.Record gs) ≡ false
unfolding has_parts
parts-Simple-Record a gs = refl

pub parts-Simple-Array : (a i : Simple) (b : AnyType) → has_parts (t.Simple a) (t.Array i b) ≡ false
unfolding has_parts
parts-Simple-Array a i b = refl

pub parts-Record-Simple : (fs : List Field) (b : Simple) → has_parts (t.Record fs) (t.Simple b) ≡ false
unfolding has_parts
parts-Record-Simple fs b = refl

pub parts-Record : (fs gs : List Field) → has_parts (t.Record fs) (t.Record gs) ≡ each_of fs gs
unfolding has_parts
parts-Record fs gs =
    row_each_is (hidden-the_row-Field-0 fs) (hidden-the_row-Field-0 gs)
    ∙ ap (λ xs. each_of xs (items-the_row-Field _ (hidden-the_row-Field-0 gs))) (items_hidden-the_row-Field-0 fs)
    ∙ ap (each_of fs) (items_hidden-the_row-Field-0 gs)

pub parts-Record-Array : (fs : List Field) (i : Simple) (b : AnyType) → has_parts (t.Record fs) (t.Array i b) ≡ false
unfolding has_parts
parts-Record-Array fs i b = refl

pub parts-Array-Simple : (i : Simple) (a : AnyType) (b : Simple) → has_parts (t.Array i a) (t.Simple b) ≡ false
unfolding has_parts shape-the_row-AnyType-1 hidden-the_row-AnyType-1 hidden
parts-Array-Simple i a b = refl

pub parts-Array-Record : (i : Simple) (a : AnyType) (gs : List Field) → has_parts (t.Array i a) (t.Record gs) ≡ false
unfolding has_parts shape-the_row-AnyType-1 hidden-the_row-AnyType-1 hidden
parts-Array-Record i a gs = refl

pub parts-Array : (i j : Simple) (a b : AnyType) → has_parts (t.Array i a) (t.Array j b) ≡ (same_simple i j && has_parts a b)
unfolding has_parts shape-the_row-AnyType-1 hidden-the_row-AnyType-1 hidden
parts-Array i j a b = refl

pub ruleset types = (parts-Simple, parts-Simple-Record, parts-Simple-Array, parts-Record-Simple, parts-Record, parts-Record-Array, parts-Array-Simple, parts-Array-Record, parts-Array, the_lemmas)

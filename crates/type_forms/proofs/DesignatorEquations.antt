-- What fields and indices lead to, in terms of the parts that code reads.
use Rattle.std.proofs.Common.{◌≡◌, Bool, true, false, List, [], ◌∷◌, Option, None, Some, refl, ap, ◌∙◌}
use denote.Hole.Carrier.{hidden}
use Rattle.murphi_ast.specs.declared.token.Span.{Span}
use Rattle.murphi_ast.specs.declared.expr.Named.{Named}
use Rattle.murphi_typed.specs.declared.types.Simple.{Simple}
use Rattle.murphi_typed.specs.declared.types.Field.{Field}
use Rattle.murphi_typed.specs.declared.types.AnyType as t
use Rattle.murphi_typed.specs.declared.types.AnyType.{AnyType, Row_of-Field, end_of-Field, more_of-Field, items-the_row-Field, items_hidden-the_row-Field-0, the_lemmas}
use Rattle.murphi_typed.specs.declared.types.AnyType.TheBlock.{shape-the_row-AnyType-1, hidden-the_row-AnyType-1, hidden-the_row-Field-0}
use Rattle.murphi_typed.specs.Families.{Name}
use Rattle.murphi_typed.specs.WellTyped.{row_field, only_if}
use Rattle.std.specs.Str.{bytes_eq}
use Rattle.std.proofs.Common.{cond}
use Rattle.murphi_types.specs.declared.fault.Cause.TheVariants as cause
use Rattle.murphi_types.specs.Faults.{lone}
use Rattle.murphi_types.specs.Designators.{nothing, field_or, field_chosen, index_type, item_chosen}
use Rattle.type_parts.specs.TypeLists.{list_field}

row_field_is : {n : _} (row : Row_of-Field n) (name : Name) → row_field row name ≡ list_field (items-the_row-Field n row) name
row_field_is end_of-Field name = refl
row_field_is (more_of-Field field type rest) name = ap (cond (bytes_eq field name) (Some type)) (row_field_is rest name)

pub field-Record : (at : Span) (name : Named) (fs : List Field) → field_chosen at name (Some (t.Record fs)) ≡ field_or name.at (list_field fs name.name)
field-Record at name fs =
    ap (field_or name.at) (row_field_is (hidden-the_row-Field-0 fs) name.name ∙ ap (λ gs. list_field gs name.name) (items_hidden-the_row-Field-0 fs))

pub field-Simple : (at : Span) (name : Named) (s : Simple) → field_chosen at name (Some (t.Simple s)) ≡ nothing (lone cause.E07 at)
field-Simple at name s = refl

pub field-Array : (at : Span) (name : Named) (i : Simple) (a : AnyType) → field_chosen at name (Some (t.Array i a)) ≡ nothing (lone cause.E07 at)
field-Array at name i a = refl

pub index-Array : (i : Simple) (a : AnyType) → index_type (Some (t.Array i a)) ≡ Some i
unfolding index_type shape-the_row-AnyType-1 hidden-the_row-AnyType-1 hidden
index-Array i a = refl

pub index-Simple : (s : Simple) → index_type (Some (t.Simple s)) ≡ None
unfolding index_type
index-Simple s = refl

pub index-Record : (fs : List Field) → index_type (Some (t.Record fs)) ≡ None
unfolding index_type
index-Record fs = refl

pub index-None : index_type None ≡ None
unfolding index_type
index-None = refl

pub item-Array : (at : Span) (typed : Bool) (i : Simple) (a : AnyType) → item_chosen at typed (Some (t.Array i a)) ≡ record { type = only_if typed (Some a); faults = [] }
unfolding item_chosen shape-the_row-AnyType-1 hidden-the_row-AnyType-1 hidden
item-Array at typed i a = refl

pub item-Simple : (at : Span) (typed : Bool) (s : Simple) → item_chosen at typed (Some (t.Simple s)) ≡ nothing (lone cause.E07 at)
unfolding item_chosen
item-Simple at typed s = refl

pub item-Record : (at : Span) (typed : Bool) (fs : List Field) → item_chosen at typed (Some (t.Record fs)) ≡ nothing (lone cause.E07 at)
unfolding item_chosen
item-Record at typed fs = refl

pub item-None : (at : Span) (typed : Bool) → item_chosen at typed None ≡ nothing []
unfolding item_chosen
item-None at typed = refl

pub ruleset designators = (field-Record, field-Simple, field-Array, index-Array, index-Simple, index-Record, index-None, item-Array, item-Simple, item-Record, item-None, the_lemmas)

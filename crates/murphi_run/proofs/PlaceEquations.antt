-- What a field or an index leads to, in terms of the parts that code reads.
use Rattle.std.proofs.Common.{◌≡◌, ℕ, ◌+◌, ◌*◌, true, false, List, Option, None, Some, refl, sym, ap, ◌∙◌}
use Rattle.std.specs.Prelude.{if◌then◌else◌, option_map}
use Rattle.std.specs.Str.{bytes_eq}
use denote.Hole.Carrier.{hidden}
use Rattle.term_core.specs.declared.value.Value.{Value}
use Rattle.murphi_typed.specs.declared.types.Simple.{Simple}
use Rattle.murphi_typed.specs.declared.types.Field.{Field}
use Rattle.murphi_typed.specs.declared.types.AnyType as t
use Rattle.murphi_typed.specs.declared.types.AnyType.{AnyType, Row_of-Field, end_of-Field, more_of-Field, items-the_row-Field, items_hidden-the_row-Field-0}
use Rattle.murphi_typed.specs.declared.types.AnyType.TheBlock.{hidden-the_row-Field-0, shape-the_row-AnyType-1, hidden-the_row-AnyType-1}
use Rattle.murphi_typed.specs.Values.{is_value}
use Rattle.murphi_typed.specs.Families.{Name}
use Rattle.murphi_typed.specs.WellTyped.{row_field}
use Rattle.murphi_run.specs.Layout.{name_before, rank, size, row_first}
use Rattle.murphi_run.specs.Holding.{Block}
use Rattle.murphi_run.specs.Lists.{list_first, list_field}
use Rattle.murphi_run.specs.Places.{at_number, field_of, item_of}

row_field_is : {n : _} (row : Row_of-Field n) (name : Name) → row_field row name ≡ list_field (items-the_row-Field n row) name
row_field_is end_of-Field name = refl
row_field_is (more_of-Field field type rest) name = ap (λ o. if bytes_eq field name then Some type else o) (row_field_is rest name)

row_first_is : {n : _} (N : ℕ) (row : Row_of-Field n) (name : Name) → row_first N row name ≡ list_first N (items-the_row-Field n row) name
row_first_is N end_of-Field name = refl
row_first_is N (more_of-Field field type rest) name = ap (λ k. if name_before field name then size N type + k else k) (row_first_is N rest name)

field-record : (N first : ℕ) (fs : List Field) (name : Name) → field_of N (record { first = first; of = t.Record fs }) name ≡ option_map (at_number (first + list_first N fs name)) (list_field fs name)
unfolding field_of
field-record N first fs name =
    ap (λ k. option_map (at_number (first + k)) (row_field (hidden-the_row-Field-0 fs) name)) (row_first_is N (hidden-the_row-Field-0 fs) name ∙ ap (λ gs. list_first N gs name) (items_hidden-the_row-Field-0 fs))
    ∙ ap (option_map (at_number (first + list_first N fs name))) (row_field_is (hidden-the_row-Field-0 fs) name ∙ ap (λ gs. list_field gs name) (items_hidden-the_row-Field-0 fs))

field-simple : (N first : ℕ) (s : Simple) (name : Name) → field_of N (record { first = first; of = t.Simple s }) name ≡ None
unfolding field_of
field-simple N first s name = refl

field-array : (N first : ℕ) (i : Simple) (a : AnyType) (name : Name) → field_of N (record { first = first; of = t.Array i a }) name ≡ None
unfolding field_of shape-the_row-AnyType-1 hidden-the_row-AnyType-1 hidden
field-array N first i a name = refl

item-simple : (N first : ℕ) (s : Simple) (v : Value) → item_of N (record { first = first; of = t.Simple s }) v ≡ None
unfolding item_of
item-simple N first s v = refl

item-record : (N first : ℕ) (fs : List Field) (v : Value) → item_of N (record { first = first; of = t.Record fs }) v ≡ None
unfolding item_of
item-record N first fs v = refl

item-array : (N first : ℕ) (i : Simple) (a : AnyType) (v : Value) → item_of N (record { first = first; of = t.Array i a }) v ≡ (if is_value N i v then Some (at_number (first + rank i v * size N a) a) else None)
unfolding item_of shape-the_row-AnyType-1 hidden-the_row-AnyType-1 hidden
item-array N first i a v = refl

-- the same where the type is known to be one
pub field_none_simple : (N first : ℕ) (T : AnyType) (s : Simple) (name : Name) → T ≡ t.Simple s → field_of N (record { first = first; of = T }) name ≡ None
field_none_simple N first T s name e = ap (λ x. field_of N (record { first = first; of = x }) name) e ∙ field-simple N first s name

pub field_none_array : (N first : ℕ) (T : AnyType) (i : Simple) (a : AnyType) (name : Name) → T ≡ t.Array i a → field_of N (record { first = first; of = T }) name ≡ None
field_none_array N first T i a name e = ap (λ x. field_of N (record { first = first; of = x }) name) e ∙ field-array N first i a name

pub field_found : (N first before number : ℕ) (T : AnyType) (fs : List Field) (name : Name) (o : Option AnyType) (r : Option Block) → T ≡ t.Record fs → before ≡ list_first N fs name → number ≡ first + before → o ≡ list_field fs name → r ≡ option_map (at_number number) o → field_of N (record { first = first; of = T }) name ≡ r
field_found N first before number T fs name o r e f g h i =
    ap (λ x. field_of N (record { first = first; of = x }) name) e ∙ field-record N first fs name
    ∙ ap (λ k. option_map (at_number (first + k)) (list_field fs name)) (sym f)
    ∙ ap (λ k. option_map (at_number k) (list_field fs name)) (sym g)
    ∙ ap (option_map (at_number number)) (sym h) ∙ sym i

pub item_none_simple : (N first : ℕ) (T : AnyType) (s : Simple) (v : Value) → T ≡ t.Simple s → item_of N (record { first = first; of = T }) v ≡ None
item_none_simple N first T s v e = ap (λ x. item_of N (record { first = first; of = x }) v) e ∙ item-simple N first s v

pub item_none_record : (N first : ℕ) (T : AnyType) (fs : List Field) (v : Value) → T ≡ t.Record fs → item_of N (record { first = first; of = T }) v ≡ None
item_none_record N first T fs v e = ap (λ x. item_of N (record { first = first; of = x }) v) e ∙ item-record N first fs v

pub item_out : (N first : ℕ) (T : AnyType) (i : Simple) (a : AnyType) (v : Value) → T ≡ t.Array i a → is_value N i v ≡ false → item_of N (record { first = first; of = T }) v ≡ None
item_out N first T i a v e f =
    ap (λ x. item_of N (record { first = first; of = x }) v) e ∙ item-array N first i a v
    ∙ ap (λ b. if b then Some (at_number (first + rank i v * size N a) a) else None) f

pub item_found : (N first each before number : ℕ) (T : AnyType) (i : Simple) (a : AnyType) (v : Value) → T ≡ t.Array i a → is_value N i v ≡ true → each ≡ size N a → before ≡ rank i v * each → number ≡ first + before → item_of N (record { first = first; of = T }) v ≡ Some (record { first = number; of = a })
item_found N first each before number T i a v e f g h k =
    ap (λ x. item_of N (record { first = first; of = x }) v) e ∙ item-array N first i a v
    ∙ ap (λ b. if b then Some (at_number (first + rank i v * size N a) a) else None) f
    ∙ ap (λ s. Some (at_number (first + rank i v * s) a)) (sym g)
    ∙ ap (λ s. Some (at_number (first + s) a)) (sym h)
    ∙ ap (λ s. Some (at_number s a)) (sym k)

pub ruleset places = (field_none_simple, field_none_array, field_found, item_none_simple, item_none_record, item_out, item_found)

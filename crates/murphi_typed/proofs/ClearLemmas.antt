-- What `clear` gives is of the type of each cell.
use Rattle.std.proofs.Common.{◌≡◌, ℕ, Bool, true, false, not, ◌&&◌, List, [], ◌∷◌, Some, refl, sym, ap, ◌∙◌, arith}
use Rattle.std.specs.Prelude.{nat_lt, nat_le, if◌then◌else◌, slice_get, int_le, is_some, ℤ, pos, negsuc, ◌-ℤ◌}
use Rattle.std.specs.Option.{option_map_or}
use Rattle.std.specs.Str.{bytes_eq}
use Rattle.std.proofs.lemmas.Bool.{and_parts, eq-eqb}
use Rattle.term_core.specs.declared.value.Value.TheVariants as value
use Rattle.term_core.specs.Values.{is_number}
use Rattle.murphi_typed.specs.declared.types.Simple.{Simple}
use Rattle.murphi_typed.specs.declared.types.Simple.TheVariants as simple
use Rattle.murphi_typed.specs.declared.types.AnyType as t
use Rattle.murphi_typed.specs.declared.types.AnyType.{AnyType, Row_of-Field, end_of-Field, more_of-Field}
use Rattle.murphi_typed.specs.declared.types.Kind.{Kind}
use Rattle.murphi_typed.specs.Forms.{ArrayForm}
use Rattle.murphi_typed.specs.Values.{may_hold, cleared_value, numbers_within}
use Rattle.murphi_typed.specs.Families.{Path, Name, leaf_at, row_leaf}
use Rattle.murphi_typed.specs.Execution.{cleared}
use Rattle.murphi_typed.specs.WellTyped.{is_simple_type, is_type, are_fields, row_field, is_listed}
use Rattle.murphi_typed.proofs.LeafLemmas.{some_same, not_some}
use Rattle.murphi_typed.proofs.KeepLemmas.{HoldsFor}

mutual
  unfolding leaf_at is_type

  pub leaf_fine : (kinds : List Kind) (U : AnyType) → is_type kinds U ≡ true → (path : Path) (leaf : Simple) → leaf_at U path ≡ Some leaf → is_simple_type kinds leaf ≡ true
  leaf_fine kinds (t.Simple type) fine [] leaf e = ap (is_simple_type kinds) (sym (some_same e)) ∙ fine
  leaf_fine kinds (t.Simple type) fine (name ∷ path) leaf e = absurd (not_some e)
  leaf_fine kinds (t.Record' _ fields) fine [] leaf e = absurd (not_some e)
  leaf_fine kinds (t.Record' _ fields) fine (name ∷ path) leaf e = fields_fine kinds fields fine name path leaf e
  leaf_fine kinds (ArrayForm index item) fine path leaf e =
      let (i, rest) = and_parts (is_simple_type kinds index) (is_type kinds item) fine in
      leaf_fine kinds item rest path leaf e

  fields_fine : {n : _} (kinds : List Kind) (fields : Row_of-Field n) → are_fields kinds fields ≡ true → (name : Name) (path : Path) (leaf : Simple) → row_leaf fields name path ≡ Some leaf → is_simple_type kinds leaf ≡ true
  fields_fine kinds end_of-Field fine name path leaf e = absurd (not_some e)
  fields_fine kinds (more_of-Field first type rest) fine name path leaf e =
      let (here, later) = and_parts (is_type kinds type) (not (is_some (row_field rest first)) && are_fields kinds rest) fine in
      let (once, others) = and_parts (not (is_some (row_field rest first))) (are_fields kinds rest) later in
      go (bytes_eq first name) e (leaf_fine kinds type here path leaf) (fields_fine kinds rest others name path leaf)
    where
      go : (b : Bool) → (if b then leaf_at type path else row_leaf rest name path) ≡ Some leaf → (leaf_at type path ≡ Some leaf → is_simple_type kinds leaf ≡ true) → (row_leaf rest name path ≡ Some leaf → is_simple_type kinds leaf ≡ true) → is_simple_type kinds leaf ≡ true
      go true e deeper more = deeper e
      go false e deeper more = more e

int_le_refl : (z : ℤ) → int_le z z ≡ true
int_le_refl (pos n) = grind (arith)
int_le_refl (negsuc n) = grind (arith)

cleared_fits : (N : ℕ) (kinds : List Kind) (leaf : Simple) → is_simple_type kinds leaf ≡ true → may_hold N leaf (cleared_value leaf) ≡ true
cleared_fits N kinds simple.Truth fine = refl
cleared_fits N kinds (simple.Range low high) fine =
    let (l, rest) = and_parts (is_number low) (is_number high && (int_le low high && nat_le (numbers_within (high -ℤ low)) 256)) fine in
    let (h, both) = and_parts (is_number high) (int_le low high && nat_le (numbers_within (high -ℤ low)) 256) rest in
    let (order, few) = and_parts (int_le low high) (nat_le (numbers_within (high -ℤ low)) 256) both in
    ap (λ b. b && int_le low high) (int_le_refl low) ∙ order
cleared_fits N kinds (simple.Listed kind count) fine =
    let (listed, rest) = and_parts (is_listed (slice_get kinds kind) count) (nat_lt 0 count && nat_le count 256) fine in
    let (some, few) = and_parts (nat_lt 0 count) (nat_le count 256) rest in
    ap (λ b. b && nat_lt 0 count) (eq-eqb kind kind refl) ∙ some
cleared_fits N kinds (simple.Scalarset kind count) fine = refl
cleared_fits N kinds simple.Node fine = refl

pub cleared_holds : (N : ℕ) (kinds : List Kind) (U : AnyType) → is_type kinds U ≡ true → HoldsFor N U (cleared U)
cleared_holds N kinds U fine path leaf leads at = ap (λ o. may_hold N leaf (option_map_or cleared_value o value.Undefined)) leads ∙ cleared_fits N kinds leaf (leaf_fine kinds U fine path leaf leads)

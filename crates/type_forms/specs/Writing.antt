-- What code gives of types as they are written.
use Rattle.std.specs.Prelude.{ℕ, suc, ◌*◌, Bool, true, false, not, ◌&&◌, ◌||◌, ℤ, List, [], ◌∷◌, ◌++◌, Option, None, Some, is_some, unwrap_or, map, nat_le, if◌then◌else◌}
use Rattle.murphi_ast.specs.declared.token.Span.{Span}
use Rattle.murphi_ast.specs.declared.expr.Named.{Named}
use Rattle.murphi_typed.specs.declared.types.Simple.{Simple}
use Rattle.murphi_typed.specs.declared.types.Simple.TheVariants as simple
use Rattle.murphi_typed.specs.declared.types.AnyType as t
use Rattle.murphi_typed.specs.declared.types.AnyType.{AnyType}
use Rattle.murphi_typed.specs.declared.types.Field.{Field}
use Rattle.murphi_typed.specs.declared.types.Kind.TheVariants as kind
use Rattle.murphi_typed.specs.declared.expr.Expr as x
use Rattle.murphi_typed.specs.WellTyped.{only_if}
use Rattle.murphi_types.specs.declared.fault.Quantity.TheVariants as quantity
use Rattle.murphi_types.specs.declared.fault.Cause.TheVariants as cause
use Rattle.murphi_types.specs.declared.fault.Fault.{Fault}
use Rattle.murphi_types.specs.declared.scope.Known.{Known}
use Rattle.murphi_types.specs.Faults.{sooner, first_fault}
use Rattle.murphi_types.specs.Weights.{stopped, turns_of}
use Rattle.murphi_types.specs.Fitting.{fits, is_simple, simple_part}
use Rattle.murphi_types.specs.Designators.{Chosen}
use Rattle.murphi_types.specs.Types.{most_values, enum_entries, member, FoundType, FoundNumber, FoundFields, range_type, array_type, fields_named, record_type, scalarset_type}
use Rattle.murphi_types.specs.Types as found
use Rattle.type_parts.specs.declared.judged.Judged.{Judged}
use Rattle.type_parts.specs.declared.judged.JudgedType.{JudgedType}
use Rattle.type_parts.specs.declared.judged.JudgedNumber.{JudgedNumber}
use Rattle.type_parts.specs.declared.judged.JudgedFields.{JudgedFields}
use Rattle.type_parts.specs.Judging.{own}
use Rattle.type_parts.specs.Folding.{folded, number_in}
use Rattle.type_forms.specs.declared.written.Naming.{Naming}
use Rattle.type_forms.specs.declared.written.Naming.TheVariants as naming

abbrev pub judged_type : FoundType → JudgedType
judged_type f = record { of = f.type; fault = first_fault f.faults }

abbrev pub judged_chosen : Chosen → JudgedType
judged_chosen c = record { of = c.type; fault = first_fault c.faults }

abbrev pub judged_number : FoundNumber → JudgedNumber
judged_number f = record { number = f.number; fault = first_fault f.faults }

abbrev pub judged_fields : FoundFields → JudgedFields
judged_fields f = record { fields = f.fields; fault = first_fault f.faults }

abbrev pub nothing_typed : Option Fault → JudgedType
nothing_typed fault = record { of = None; fault = fault }

abbrev pub too_many : Span → ℕ → JudgedType
too_many at count =
    nothing_typed (Some (record { cause = cause.E16 quantity.Values count most_values; at = at }))

-- the number of values of an enum, unless these are too many
abbrev pub small_count : ℕ → Option ℕ
small_count count = if nat_le count most_values then Some count else None

abbrev pub with_enum : Bool → ℕ → ℕ → List Named → Known → Known
with_enum fits number count names k =
    record k {
      names = k.names ++ enum_entries (member fits number count) 0 names;
      kinds = k.kinds ++ kind.Listed (map (λ (n : Named). n.name) names) ∷ [];
    }

-- what comes of a type that is chosen after faults
abbrev pub after : Option Fault → Chosen → JudgedType
after fault c = record { of = c.type; fault = sooner fault (first_fault c.faults) }

-- the number of a part that is written as a constant is
abbrev pub number_of : Bool → Judged → Option ℤ
number_of written j = only_if (written && is_some j.of) (number_in (folded j.tree))

abbrev pub number_judged : Bool → Span → Judged → JudgedNumber
number_judged written at j =
    record {
      number = number_of written j;
      fault = sooner j.fault (own (not (is_some j.of) || is_some (number_of written j)) cause.E08 at);
    }

abbrev pub range_judged : Span → JudgedNumber → JudgedNumber → JudgedType
range_judged at f g = after (sooner f.fault g.fault) (range_type at f.number g.number)

abbrev pub simply : Span → JudgedType → JudgedType
simply at j =
    record {
      of = only_if (fits is_simple j.of) j.of;
      fault = sooner j.fault (own (fits is_simple j.of) cause.E07 at);
    }

abbrev pub array_judged : JudgedType → JudgedType → JudgedType
array_judged f g = record { of = array_type (simple_part f.of) g.of; fault = sooner f.fault g.fault }

-- how a scalarset is named, as code has it
abbrev pub named_as : Naming → found.Naming
named_as naming.Unnamed = found.Unnamed
named_as (naming.As name) = found.As name
named_as naming.AsNodes = found.AsNodes

abbrev pub scalarset_judged : Naming → Span → Known → JudgedNumber → JudgedType
scalarset_judged n at k number =
    record {
      of = (scalarset_type (named_as n) at k number.number).type;
      fault = sooner number.fault (first_fault (scalarset_type (named_as n) at k number.number).faults);
    }

-- fields of records, unless one of them is ill-typed
abbrev pub joined_fields : Option (List Field) → Option (List Field) → Option (List Field)
joined_fields (Some fields) (Some others) = Some (fields ++ others)
joined_fields (Some fields) None = None
joined_fields None others = None

abbrev pub fields_of : List Named → Option AnyType → Option (List Field)
fields_of names (Some type) = Some (fields_named names type)
fields_of names None = None

abbrev pub fielded_by : List Named → JudgedType → JudgedFields → JudgedFields
fielded_by names j d =
    record { fields = joined_fields d.fields (fields_of names j.of); fault = sooner d.fault j.fault }

-- what is done of the fields, together with what the rest gives
pub record Fielded : Type 0 where
  pub part : JudgedFields
  pub known : Known

abbrev pub fielded : JudgedFields → FoundFields → Fielded
fielded d f =
    record {
      part = record {
        fields = joined_fields d.fields f.fields;
        fault = sooner d.fault (first_fault f.faults);
      };
      known = f.known;
    }

abbrev pub record_judged : JudgedFields → JudgedType
record_judged d = record { of = record_type d.fields; fault = d.fault }

-- a quantifier over a simple type
abbrev pub quantified_judged : Bool → JudgedType → Judged → Judged
quantified_judged all f g =
    record {
      of = only_if (is_some f.of && is_some g.of) (Some (t.Simple simple.Truth));
      tree = x.Quantified all (unwrap_or (simple_part f.of) simple.Truth) g.tree;
      weight = stopped (suc (stopped (turns_of (simple_part f.of) * g.weight)));
      fault = sooner f.fault g.fault;
    }

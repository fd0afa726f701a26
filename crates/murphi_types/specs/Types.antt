-- What is found of a type: the type by its parts, what is declared for the whole text after it, and its faults.
-- Each enum and each scalarset that is written is a kind of its own, numbered in text order.
use Rattle.std.specs.Prelude.{ℕ, suc, ◌*◌, Bool, not, ◌&&◌, ◌||◌, nat_le, ℤ, pos, int_lt, ◌-ℤ◌, List, [], ◌∷◌, ◌++◌, map, length, Option, None, Some, is_some, unwrap_or, if◌then◌else◌}
use Rattle.murphi_ast.specs.declared.token.Span.{Span}
use Rattle.murphi_ast.specs.declared.expr.Named.{Named}
use Rattle.murphi_typed.specs.declared.types.Simple.{Simple}
use Rattle.murphi_typed.specs.declared.types.Simple.TheVariants as simple
use Rattle.murphi_typed.specs.declared.types.AnyType as t
use Rattle.murphi_typed.specs.declared.types.AnyType.{AnyType}
use Rattle.murphi_typed.specs.declared.types.Field.{Field}
use Rattle.murphi_typed.specs.declared.types.Kind.{Kind}
use Rattle.murphi_typed.specs.declared.types.Kind.TheVariants as kind
use Rattle.murphi_typed.specs.declared.expr.Expr as x
use Rattle.murphi_typed.specs.Families.{Name}
use Rattle.murphi_typed.specs.Values.{numbers_within}
use Rattle.murphi_typed.specs.WellTyped.{only_if}
use Rattle.murphi_types.specs.declared.fault.Quantity.TheVariants as quantity
use Rattle.murphi_types.specs.declared.fault.Cause.TheVariants as cause
use Rattle.murphi_types.specs.declared.fault.Fault.{Fault}
use Rattle.murphi_types.specs.declared.scope.Meaning.{Meaning}
use Rattle.murphi_types.specs.declared.scope.Meaning.TheVariants as meaning
use Rattle.murphi_types.specs.declared.scope.Entry.{Entry}
use Rattle.murphi_types.specs.declared.scope.Known.{Known}
use Rattle.murphi_types.specs.Faults.{lone, unless}
use Rattle.murphi_types.specs.Scopes.{entry}
use Rattle.murphi_types.specs.Fitting.{fits, is_simple, simple_part}
use Rattle.murphi_types.specs.Weights.{turns_of}
use Rattle.murphi_types.specs.Found.{Found}
use Rattle.murphi_types.specs.Constants.{constant_number}
use Rattle.murphi_types.specs.Designators.{Chosen, chosen, nothing}

pub record FoundType : Type 0 where
  pub type : Option AnyType
  pub known : Known
  pub faults : List Fault

abbrev pub type_made : Known → List Fault → Chosen → FoundType
type_made k faults c = record { type = c.type; known = k; faults = faults ++ c.faults }

-- Constants

-- the number that a constant is
pub record FoundNumber : Type 0 where
  pub number : Option ℤ
  pub known : Known
  pub faults : List Fault

-- the number of a well-typed part that is written as a constant is
abbrev pub number_of : Bool → Span → Found → Option ℤ
number_of written at f = only_if (written && is_some f.type) (constant_number at f.tree)

-- where a constant has to stand: E08 at its first token where there is none, or one that faults or is no number
abbrev pub number_found : Bool → Span → Found → FoundNumber
number_found written at f =
    record {
      number = number_of written at f;
      known = f.known;
      faults = f.faults ++ unless (not (is_some f.type) || is_some (number_of written at f)) cause.E08 at;
    }

-- Named types

-- the type that a name stands for: E05 where it is not declared, E07 where it is no type
abbrev pub named_type : Span → Option Meaning → Chosen
named_type at (Some (meaning.TypeName type)) = chosen type
named_type at (Some meaning.Refused) = nothing []
named_type at (Some _) = nothing (lone cause.E07 at)
named_type at None = nothing (lone cause.E05 at)

-- Finite types

-- a finite type has at most 256 values: E16 at its first token where it has more
abbrev pub most_values : ℕ
most_values = 256

abbrev pub limited : Span → ℕ → Simple → Chosen
limited at count type =
    if nat_le count most_values then chosen (t.Simple type)
    else nothing (lone (cause.E16 quantity.Values count most_values) at)

-- `low .. high`: E08 at its first token where low is above high
abbrev pub range_type : Span → Option ℤ → Option ℤ → Chosen
range_type at (Some low) (Some high) =
    if int_lt high low then nothing (lone cause.E08 at)
    else limited at (numbers_within (high -ℤ low)) (simple.Range low high)
range_type at _ _ = nothing []

abbrev pub range_found : Span → FoundNumber → FoundNumber → FoundType
range_found at f g = type_made g.known (f.faults ++ g.faults) (range_type at f.number g.number)

-- one more kind
abbrev pub with_kind : Known → Kind → Known
with_kind k one = record k { kinds = k.kinds ++ one ∷ [] }

-- the names of an enum are declared for the whole text from its end on, wherever it is written
abbrev pub enum_entries : (ℕ → Meaning) → ℕ → List Named → List Entry
enum_entries what index [] = []
enum_entries what index (n ∷ ns) = entry n.name (what index) ∷ enum_entries what (suc index) ns

abbrev pub member : Bool → ℕ → ℕ → ℕ → Meaning
member fits number count index = if fits then meaning.Member number index count else meaning.Refused

abbrev pub with_members : List Named → Known → Known
with_members names k =
    record k {
      names = k.names
          ++ enum_entries (member (nat_le (length names) most_values) (length k.kinds) (length names)) 0 names;
      kinds = k.kinds ++ kind.Listed (map (λ (n : Named). n.name) names) ∷ [];
    }

-- `enum { names }`
abbrev pub enum_found : Span → List Named → Known → FoundType
enum_found at names k =
    type_made (with_members names k) []
    (limited at (length names) (simple.Listed (length k.kinds) (length names)))

-- how a type is declared that stands directly behind a name: a scalarset takes the name, and is the node type
-- where it has the name that is given for it
pub data Naming : Type 0 where
  Unnamed : Naming
  As : Name → Naming
  AsNodes : Naming

-- the sizes from 1 on
abbrev pub size_of : Option ℤ → Option ℕ
size_of (Some (pos (suc n))) = Some (suc n)
size_of _ = None

abbrev pub naming_text : Naming → Option Name
naming_text (As name) = Some name
naming_text _ = None

-- a scalarset of its written size; of the node type the size is left open, and it is no kind
abbrev pub sized : Naming → Span → Known → ℕ → FoundType
sized AsNodes at k size = type_made k [] (chosen (t.Simple simple.Node))
sized naming at k size =
    type_made (with_kind k (kind.Scalarset (naming_text naming) size)) []
    (limited at size (simple.Scalarset (length k.kinds) size))

abbrev pub sized_or : Naming → Span → Known → Option ℕ → FoundType
sized_or naming at k (Some size) = sized naming at k size
sized_or naming at k None = type_made k [] (nothing (lone cause.E08 at))

-- a number that is missing has its fault already
abbrev pub scalarset_type : Naming → Span → Known → Option ℤ → FoundType
scalarset_type naming at k None = type_made k [] (nothing [])
scalarset_type naming at k number = sized_or naming at k (size_of number)

abbrev pub after_faults : List Fault → FoundType → FoundType
after_faults faults f = record f { faults = faults ++ f.faults }

-- `scalarset(size)`: E08 at its first token where the size is below 1
abbrev pub scalarset_found : Naming → Span → FoundNumber → FoundType
scalarset_found naming at f = after_faults f.faults (scalarset_type naming at f.known f.number)

-- Compound types

-- a type that has to be simple: E07 at its first token where it is not
abbrev pub simple_wanted : Span → FoundType → FoundType
simple_wanted at f =
    record {
      type = only_if (fits is_simple f.type) f.type;
      known = f.known;
      faults = f.faults ++ unless (fits is_simple f.type) cause.E07 at;
    }

abbrev pub array_type : Option Simple → Option AnyType → Option AnyType
array_type (Some over) (Some item) = Some (t.Array over item)
array_type _ _ = None

-- `array [index] of item`
abbrev pub array_found : FoundType → FoundType → FoundType
array_found f g =
    record { type = array_type (simple_part f.type) g.type; known = g.known; faults = f.faults ++ g.faults }

pub record FoundFields : Type 0 where
  pub fields : Option (List Field)
  pub known : Known
  pub faults : List Fault

abbrev pub no_fields : Known → FoundFields
no_fields k = record { fields = Some []; known = k; faults = [] }

-- the fields of one type
abbrev pub fields_named : List Named → AnyType → List Field
fields_named [] type = []
fields_named (n ∷ ns) type = record { name = n.name; of = type } ∷ fields_named ns type

abbrev pub more_fields : List Named → Option AnyType → Option (List Field) → Option (List Field)
more_fields names (Some type) (Some fields) = Some (fields_named names type ++ fields)
more_fields names _ _ = None

abbrev pub field_made : List Named → FoundType → FoundFields → FoundFields
field_made names f g =
    record { fields = more_fields names f.type g.fields; known = g.known; faults = f.faults ++ g.faults }

abbrev pub record_type : Option (List Field) → Option AnyType
record_type (Some fields) = Some (t.Record fields)
record_type None = None

abbrev pub record_found : FoundFields → FoundType
record_found f = record { type = record_type f.fields; known = f.known; faults = f.faults }

-- `forall`, or `exists`, over a simple type
abbrev pub quantified_found : Bool → FoundType → Found → Found
quantified_found all f g =
    record {
      type = only_if (is_some f.type && is_some g.type) (Some (t.Simple simple.Truth));
      tree = x.Quantified all (unwrap_or (simple_part f.type) simple.Truth) g.tree;
      weight = suc (turns_of (simple_part f.type) * g.weight);
      known = g.known;
      faults = f.faults ++ g.faults;
    }

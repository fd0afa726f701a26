-- Cells and values as they are printed, with N nodes.
use Rattle.std.specs.Prelude.{codes, ℕ, suc, Bool, false, ◌&&◌, ◌||◌, nat_eq, nat_le, List, [], ◌∷◌, ◌++◌, Option, None, Some, if◌then◌else◌, slice_get}
use Rattle.std.specs.List.{list_all}
use Rattle.std.specs.Option.{option_map_or}
use Rattle.std.specs.Str.{bytes_eq}
use Rattle.std.specs.Fmt.{decimal, signed_decimal}
use Rattle.term_core.specs.declared.value.Value.{Value}
use Rattle.term_core.specs.declared.value.Value.TheVariants as value
use Rattle.murphi_typed.specs.declared.types.Kind.{Kind}
use Rattle.murphi_typed.specs.declared.types.Kind.TheVariants as kind
use Rattle.murphi_typed.specs.declared.protocol.Typed.{Typed}
use Rattle.murphi_typed.specs.Families.{Step, Into, Over, Cell}

abbrev pub is_digit : ℕ → Bool
is_digit b = nat_le 48 b && nat_le b 57

-- whether a text is a run of digits, at least one
abbrev pub is_number_text : List ℕ → Bool
is_number_text [] = false
is_number_text (b ∷ bs) = is_digit b && list_all is_digit bs

-- whether a text ends in `_` followed by digits, at least one
abbrev pub ends_in_number : List ℕ → Bool
ends_in_number [] = false
ends_in_number (b ∷ bs) = (nat_eq b 95 && is_number_text bs) || ends_in_number bs

-- whether a text is K or F followed by digits
abbrev pub is_node_text : List ℕ → Bool
is_node_text [] = false
is_node_text (b ∷ bs) = (nat_eq b 75 || nat_eq b 70) && is_number_text bs

-- whether an enum name could be read as another value: `undefined`, `Other`, K or F followed by digits, or a
-- name that ends in `_` followed by digits
abbrev pub is_doubtful : List ℕ → Bool
is_doubtful name =
    bytes_eq name (codes "undefined")
    || (bytes_eq name (codes "Other") || (is_node_text name || ends_in_number name))

-- an enum name as it is printed: behind an apostrophe where it could be read as another value
abbrev pub enum_text : List ℕ → List ℕ
enum_text name = if is_doubtful name then 39 ∷ name else name

-- the name that stands for a scalarset in front of its members
abbrev pub scalarset_text : Option (List ℕ) → List ℕ
scalarset_text (Some name) = name
scalarset_text None = codes "scalarset"

-- a member of a kind: an enum name, or `T_k` for member k of the scalarset T, from 1
abbrev pub member_text : Option Kind → ℕ → List ℕ
member_text (Some (kind.Listed names)) index = option_map_or enum_text (slice_get names index) []
member_text (Some (kind.Scalarset name count)) index = scalarset_text name ++ (95 ∷ decimal (suc index))
member_text None index = []

-- a value as it is printed; a node is its number
abbrev pub value_text : List Kind → Value → List ℕ
value_text kinds value.Undefined = codes "undefined"
value_text kinds (value.Truth b) = if b then codes "true" else codes "false"
value_text kinds (value.Number z) = signed_decimal z
value_text kinds (value.Member kind index) = member_text (slice_get kinds kind) index
value_text kinds (value.Node n) = decimal n

-- a way down, written behind a variable: `.f` for a field, and `[v]` for an index
abbrev pub way_text : List Kind → List Step → List Value → List ℕ
way_text kinds [] at = []
way_text kinds (Into name ∷ steps) at = (46 ∷ name) ++ way_text kinds steps at
way_text kinds (Over index ∷ steps) [] = []
way_text kinds (Over index ∷ steps) (v ∷ at) = (91 ∷ value_text kinds v) ++ (93 ∷ way_text kinds steps at)

-- the name of a cell: a designator
abbrev pub cell_name : Typed → Cell → List ℕ
cell_name T c =
    option_map_or (λ variable. variable.name) (slice_get T.globals c.global) [] ++ way_text T.kinds c.way.steps c.at

-- Choices, as far as they are made.
use Rattle.std.specs.Prelude.{List, [], ◌∷◌, ◌++◌, map, Option}
use Rattle.std.specs.List.{flat_map}
use Rattle.term_core.specs.declared.value.Value.{Value}
use Rattle.murphi_typed.specs.declared.types.Simple.{Simple}
use Rattle.murphi_typed.specs.Values.{values}
use Rattle.rule_inline.specs.Tables.{Key}
use Rattle.rule_inline.specs.Machine.{fixed}
use Rattle.rule_families.specs.declared.key.Key.{Key as HeldKey}

abbrev pub seen_key : HeldKey → Key
seen_key k = k.parts

-- a choice with one part more
abbrev pub part_on : Key → Option Value → Key
part_on k part = k ++ part ∷ []

-- choices with one part more
abbrev pub keys_on : List Key → List (Option Value) → List Key
keys_on ks parts = flat_map (λ k. map (part_on k) parts) ks

-- choices with parts of these types more
abbrev pub keys_to : List Key → List Simple → List Key
keys_to ks [] = ks
keys_to ks (type ∷ types) = keys_to (keys_on ks (map fixed (values 1 type))) types

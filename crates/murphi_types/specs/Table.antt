-- Entries found by hash: a map gives for each name the number of its first entry.
use Rattle.std.specs.Prelude.{◌≡◌, ℕ, suc, Bool, List, [], ◌∷◌, Option, None, Some, option_map, slice_get, if◌then◌else◌}
use Rattle.std.specs.Str.{bytes_eq}
use Rattle.std.specs.Global.{Vec}
use Rattle.std.specs.Map.{lookup}
use Rattle.murphi_types.specs.declared.scope.Entry.{Entry}
use Rattle.murphi_types.specs.declared.scope.Meaning.{Meaning}

-- the number of the first entry of a name
abbrev pub first_of : List Entry → List ℕ → Option ℕ
first_of [] name = None
first_of (e ∷ es) name = if bytes_eq e.name name then Some 0 else option_map suc (first_of es name)

abbrev pub IsTable : List Entry → List (Vec ℕ × ℕ) → Type 0
IsTable entries first = (name : List ℕ) → lookup (λ k. bytes_eq name k.items) first ≡ first_of entries name

-- what the entry of a number says
abbrev pub what_at : List Entry → ℕ → Option Meaning
what_at entries at = option_map (λ (e : Entry). e.what) (slice_get entries at)

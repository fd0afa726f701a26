-- The families of one global, as far down its type as code has gone.
use Rattle.std.specs.Prelude.{ℕ, ◌+◌, List, [], ◌∷◌, ◌++◌, map}
use Rattle.std.specs.List.{flat_map}
use Rattle.murphi_typed.specs.declared.types.Simple.{Simple}
use Rattle.murphi_typed.specs.declared.types.AnyType.{AnyType}
use Rattle.murphi_typed.specs.declared.types.Field.{Field}
use Rattle.murphi_typed.specs.declared.protocol.Variable.{Variable}
use Rattle.murphi_typed.specs.Families.{Step, Into, Way, axes_of, choices, ways}
use Rattle.rule_inline.specs.Tables.{Key}
use Rattle.rule_inline.specs.Machine.{fixed, CellsOf}

-- the family with this choice for the indices
abbrev pub keyed : ℕ → List Step → Simple → Key → CellsOf
keyed global steps leaf key = record { global = global; steps = steps; key = key; of = leaf }

-- the families on one way down
abbrev pub families_on : ℕ → List Step → Simple → List CellsOf
families_on global steps leaf = map (keyed global steps leaf) (map (map fixed) (choices 1 (axes_of steps)))

-- the families under these steps
abbrev pub on_ways : ℕ → List Step → List Way → List CellsOf
on_ways global steps ws = flat_map (λ (w : Way). families_on global (steps ++ w.steps) w.leaf) ws

abbrev pub families_under : ℕ → List Step → AnyType → List CellsOf
families_under global steps type = on_ways global steps (ways type)

abbrev pub fields_under : ℕ → List Step → List Field → List CellsOf
fields_under global steps [] = []
fields_under global steps (f ∷ fs) = families_under global (steps ++ Into f.name ∷ []) f.of ++ fields_under global steps fs

-- the families of globals, the first of which has this number
abbrev pub families_from : ℕ → List Variable → List CellsOf
families_from global [] = []
families_from global (v ∷ vs) = families_under global [] v.of ++ families_from (global + 1) vs

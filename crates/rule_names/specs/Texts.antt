-- An index as it is printed in the name of a family.
use Rattle.std.specs.Prelude.{ℕ, List, [], ◌∷◌, ◌++◌, Option, None, Some}
use Rattle.term_core.specs.declared.value.Value.{Value}
use Rattle.murphi_typed.specs.declared.types.Kind.{Kind}
use Rattle.murphi_typed.specs.Names.{value_text}

-- `[v]`, or `[]` for a node
abbrev pub index_text : List Kind → Option Value → List ℕ
index_text kinds None = 91 ∷ 93 ∷ []
index_text kinds (Some v) = (91 ∷ value_text kinds v) ++ 93 ∷ []

-- Which literals, clauses and formulas an assignment makes true.
use Rattle.std.specs.Prelude.{ℕ, Bool, false, not, List, if◌then◌else◌}
use Rattle.std.specs.List.{slice_index_or, list_any, list_all}
use Rattle.clause_core.specs.declared.literal.Lit.{Lit}
use Rattle.clause_core.specs.Literal.{variable_of, is_negated}

-- An assignment is the list of its variables' values. A variable past the end is false.
abbrev pub value_of : List Bool → ℕ → Bool
value_of a v = slice_index_or a v false

-- a negated literal is true where its variable is false, and any other where its variable is true
abbrev pub literal_true : List Bool → Lit → Bool
literal_true a l = if is_negated l then not (value_of a (variable_of l)) else value_of a (variable_of l)

-- an assignment satisfies a clause where it makes some literal of it true
abbrev pub clause_true : List Bool → List Lit → Bool
clause_true a c = list_any (literal_true a) c

-- an assignment satisfies a list of clauses where it satisfies each
abbrev pub all_true : List Bool → List (List Lit) → Bool
all_true a cs = list_all (clause_true a) cs

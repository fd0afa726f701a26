-- What rows of terms say, over the lists that code reads.
use Rattle.std.specs.Prelude.{ℕ, ◌+◌, ◌-◌, ◌*◌, max, List, [], ◌∷◌, Option, Some, None}
use Rattle.term_core.specs.declared.term.Term.{Term}
use Rattle.term_core.specs.Meaning.{Cells, value_of, index_of, with_index}
use Rattle.term_core.specs.Variables.{nesting, free_variables}

-- how deep the quantifiers of terms nest
abbrev pub list_nesting : List Term → ℕ
list_nesting [] = 0
list_nesting (t ∷ ts) = max (nesting t) (list_nesting ts)

abbrev pub list_variables : List Term → ℕ
list_variables [] = 0
list_variables (t ∷ ts) = max (free_variables t) (list_variables ts)

-- the indices that terms stand for
abbrev pub list_indices : ℕ → Cells → List ℕ → List Term → Option (List ℕ)
list_indices N cells frame [] = Some []
list_indices N cells frame (t ∷ ts) = with_index (index_of N (value_of N cells frame t)) (list_indices N cells frame ts)

-- the place to which indices lead on from this one
abbrev pub led_on : ℕ → ℕ → Option ℕ → (ℕ → Option ℕ) → Option ℕ
led_on N place None rest = None
led_on N place (Some n) rest = rest (place * N + (n - 1))

abbrev pub list_place : ℕ → Cells → List ℕ → ℕ → List Term → Option ℕ
list_place N cells frame place [] = Some place
list_place N cells frame place (t ∷ ts) = led_on N place (index_of N (value_of N cells frame t)) (λ p. list_place N cells frame p ts)

-- the place to which nodes lead on from this one
abbrev pub nodes_place : ℕ → ℕ → List ℕ → ℕ
nodes_place N place [] = place
nodes_place N place (n ∷ ns) = nodes_place N (place * N + (n - 1)) ns

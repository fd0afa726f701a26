-- Which literals a clause has, and how often.
use Rattle.std.specs.Prelude.{◌==◌, ◌≤◌, ℕ, Bool, List, count_by}
use Rattle.std.specs.List.{list_any}
use Rattle.clause_core.specs.declared.literal.Lit.{Lit}

-- whether a clause has a literal
abbrev pub has : List Lit → Lit → Bool
has c l = list_any (λ k. k.code == l.code) c

-- how often a literal stands in a clause
abbrev pub times : Lit → List Lit → ℕ
times l c = count_by (λ k. k.code == l.code) c

-- no literal stands in a clause twice
abbrev pub NoneTwice : List Lit → Type 0
NoneTwice c = (l : Lit) → times l c ≤ 1

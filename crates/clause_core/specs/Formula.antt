-- Formulas in conjunctive normal form: how many variables they speak of, and their clauses.
use Rattle.std.specs.Prelude.{ℕ, ◌^◌, ◌<◌, ◌≤◌, List, length, All}
use Rattle.clause_core.specs.declared.literal.Lit.{Lit}
use Rattle.clause_core.specs.Literal.{variable_of}

-- a formula: the number of its variables, and its clauses in order
pub record Formula : Type 0 where
  pub variables : ℕ
  pub clauses : List (List Lit)

-- the variables of a clause are among the first n
abbrev pub IsInRange : ℕ → List Lit → Type 0
IsInRange n c = All (λ l. variable_of l < n) c

-- the variables of each clause are among the first n
abbrev pub AreInRange : ℕ → List (List Lit) → Type 0
AreInRange n cs = All (IsInRange n) cs

-- what each formula keeps: its clauses are in range, and each has a number of 32 bits
pub record IsFormula (n : ℕ) (cs : List (List Lit)) : Type 0 where
  pub range : AreInRange n cs
  pub count : length cs ≤ 2 ^ 32

-- What callers see of marks, and what their fields keep.
use Rattle.std.specs.Prelude.{◌≡◌, ◌+◌, ◌*◌, ◌^◌, ◌≤◌, ℕ, Bool, List, length}
use Rattle.clause_core.specs.declared.literal.Lit.{Lit}
use Rattle.clause_core.specs.Formula.{IsInRange}
use Rattle.clause_derivation.specs.Marking.{IsClear}

-- how many variables marks were made for, and the units that they hold, in the order of adding
pub record MarkScope : Type 0 where
  pub variables : ℕ
  pub units : List Lit

-- There is a place for each literal, nothing is marked, the units are in range, and the room for
-- units is one more than there are literals.
pub record IsReady (variables : ℕ) (marked : List Bool) (units : List Lit) (capacity : ℕ) : Type 0 where
  pub few : variables ≤ 2 ^ 31
  pub places : length marked ≡ 2 * variables
  pub clear : IsClear marked
  pub range : IsInRange variables units
  pub room : 2 * variables + 1 ≤ capacity

-- What the table of all states says.
use Rattle.std.specs.Prelude.{◌≡◌, ℕ, true, false, List, [], ◌∷◌, ◌++◌, Option, None, Some, length}
use Rattle.murphi_ast.specs.declared.rule.RuleDecl.{RuleDecl}
use Rattle.murphi_ast.specs.State.{Name, State}
use Rattle.flat_check.specs.declared.known.Known as k
use Rattle.flat_check.specs.declared.known.Known.{Known, Row_of-Known, end_of-Known, more_of-Known}
use Rattle.flat_check.specs.Walk.{violated_in}

-- a branch for each value of the next cell
pattern abbrev pub CellForm : Known → Known → Known → Known
CellForm u f t = k.Cell' tt (more_of-Known u end_of-Known) tt (more_of-Known f end_of-Known) tt (more_of-Known t end_of-Known)

-- what the table says that a state violates: the way from the root takes the branch of each cell
unfoldable pub violated_by : Known → State → Option ℕ
violated_by (k.State violates) s = violates
violated_by (CellForm u f t) [] = None
violated_by (CellForm u f t) (None ∷ s) = violated_by u s
violated_by (CellForm u f t) (Some false ∷ s) = violated_by f s
violated_by (CellForm u f t) (Some true ∷ s) = violated_by t s

-- the table is right for all states that begin with these cells and have so many more
pub record IsKnown (vs : List Name) (items : List RuleDecl) (front : State) (left : ℕ) (table : Known) : Type 0 where
  pub at : (more : State) → length more ≡ left → violated_by table more ≡ violated_in vs items (front ++ more)

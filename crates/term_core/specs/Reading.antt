-- The variables and the cells that the value of a term depends on.
use Rattle.std.specs.Prelude.{ℕ, Bool, false, ◌||◌, nat_eq, List, [], ◌∷◌, ◌++◌, Option, None, Some}
use Rattle.std.specs.List.{flat_map}
use Rattle.term_core.specs.declared.term.Term as t
use Rattle.term_core.specs.declared.term.Term.{Term, Row_of-Term, end_of-Term, more_of-Term}
use Rattle.term_core.specs.Forms.{NotForm, IfForm, SameForm, LessForm, ArithForm, QuantifiedForm}
use Rattle.term_core.specs.Nodes.{nodes}
use Rattle.term_core.specs.Meaning.{Cells, row_indices}
use Rattle.term_core.specs.Cells.{Cell}

unfoldable mutual
  -- whether a variable occurs in a term
  pub occurs : ℕ → Term → Bool
  occurs v (t.Known value) = false
  occurs v (t.Var k) = nat_eq k v
  occurs v (t.Read' family _ at) = row_occurs v at
  occurs v (NotForm body) = occurs v body
  occurs v (t.And' _ parts) = row_occurs v parts
  occurs v (t.Or' _ parts) = row_occurs v parts
  occurs v (IfForm test then' else') = occurs v test || (occurs v then' || occurs v else')
  occurs v (SameForm left right) = occurs v left || occurs v right
  occurs v (LessForm left right) = occurs v left || occurs v right
  occurs v (ArithForm op left right) = occurs v left || occurs v right
  occurs v (QuantifiedForm all body) = occurs v body

  pub row_occurs : {n : _} → ℕ → Row_of-Term n → Bool
  row_occurs v end_of-Term = false
  row_occurs v (more_of-Term first rest) = occurs v first || row_occurs v rest

-- the cell of a family at these indices, if none of them is undefined
abbrev pub cell_read : ℕ → Option (List ℕ) → List Cell
cell_read family None = []
cell_read family (Some ns) = record { family = family; at = ns } ∷ []

unfoldable mutual
  -- the cells that a term reads in a frame, the cells of its indices among them: those of all its parts,
  -- and under a quantifier those of each node
  pub cells_read : ℕ → Cells → List ℕ → Term → List Cell
  cells_read N cells frame (t.Known value) = []
  cells_read N cells frame (t.Var k) = []
  cells_read N cells frame (t.Read' family _ at) = row_read N cells frame at ++ cell_read family (row_indices N cells frame at)
  cells_read N cells frame (NotForm body) = cells_read N cells frame body
  cells_read N cells frame (t.And' _ parts) = row_read N cells frame parts
  cells_read N cells frame (t.Or' _ parts) = row_read N cells frame parts
  cells_read N cells frame (IfForm test then' else') =
      cells_read N cells frame test ++ (cells_read N cells frame then' ++ cells_read N cells frame else')
  cells_read N cells frame (SameForm left right) = cells_read N cells frame left ++ cells_read N cells frame right
  cells_read N cells frame (LessForm left right) = cells_read N cells frame left ++ cells_read N cells frame right
  cells_read N cells frame (ArithForm op left right) = cells_read N cells frame left ++ cells_read N cells frame right
  cells_read N cells frame (QuantifiedForm all body) = flat_map (λ n. cells_read N cells (frame ++ n ∷ []) body) (nodes N)

  pub row_read : {n : _} → ℕ → Cells → List ℕ → Row_of-Term n → List Cell
  row_read N cells frame end_of-Term = []
  row_read N cells frame (more_of-Term first rest) = cells_read N cells frame first ++ row_read N cells frame rest

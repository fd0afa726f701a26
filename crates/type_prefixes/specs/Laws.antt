-- What the summaries say: calls opened, nothing is deeper or less deep.
use Rattle.std.specs.Prelude.{◌≡◌, ℕ, max, List, [], Option}
use Rattle.murphi_typed.specs.declared.expr.Expr.{Expr}
use Rattle.murphi_typed.specs.declared.stmt.Stmt.{Stmt}
use Rattle.murphi_typed.specs.declared.protocol.Routine.{Routine}
use Rattle.murphi_typed.specs.Prefix.{depth_of, stmt_depth, routine_depths}
use Rattle.type_prefixes.specs.Summaries.{empty, depth_with, called, steep}
use Rattle.type_prefixes.specs.Walks.{walked, stmt_walked, summaries}

-- the summary of a routine gives the depth of a call of it: that of the opened body, or of the deepest argument
abbrev pub SummariesGiveCalls : Type 0
SummariesGiveCalls =
    (rs : List Routine) (k : ℕ) (ds : List ℕ) →
    depth_with (called (summaries rs) k) ds ≡ max (steep [] ds) (routine_depths rs k ds)

-- one walk gives the depth of an expression or of a statement in which no formal stands
abbrev pub WalksGiveDepths : Type 0
WalksGiveDepths =
    (rs : List Routine) (e : Expr) → (walked (summaries rs) e 0 empty).own ≡ depth_of (routine_depths rs) [] e

abbrev pub WalksGiveDepthsOfBodies : Type 0
WalksGiveDepthsOfBodies =
    (rs : List Routine) (body : Stmt) →
    (stmt_walked (summaries rs) body 0 empty).own ≡ stmt_depth (routine_depths rs) [] body

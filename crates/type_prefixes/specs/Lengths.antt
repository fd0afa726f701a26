-- The prefix lengths, read off the walks.
use Rattle.std.specs.Prelude.{ℕ, ◌+◌, max, List, Option, None, Some}
use Rattle.murphi_typed.specs.declared.expr.Expr.{Expr}
use Rattle.murphi_typed.specs.declared.stmt.Stmt.{Stmt}
use Rattle.murphi_typed.specs.declared.protocol.Parameter.{Parameter}
use Rattle.murphi_typed.specs.declared.protocol.Guard.{Guard}
use Rattle.murphi_typed.specs.Prefix.{up, node_parameters}
use Rattle.type_prefixes.specs.declared.depth.Depth.{Depth}
use Rattle.type_prefixes.specs.Summaries.{empty}
use Rattle.type_prefixes.specs.Walks.{walked, stmt_walked}

abbrev pub formula_length : List Depth → List Parameter → Expr → ℕ
formula_length cs params body = node_parameters params + max (walked cs body 0 empty).own (up body)

abbrev pub guard_walked : List Depth → Option Guard → Depth
guard_walked cs (Some g) = walked cs g.test 0 empty
guard_walked cs None = empty

abbrev pub rule_length : List Depth → List Parameter → Option Guard → Stmt → ℕ
rule_length cs params guard body =
    node_parameters params + max (guard_walked cs guard).own (stmt_walked cs body 0 empty).own

-- What is gathered of statements, in terms of the lists that code reads.
use Rattle.std.specs.Prelude.{Bool, List, [], ◌∷◌, Option, None, Some}
use Rattle.murphi_ast.specs.declared.token.Span.{Span}
use Rattle.murphi_ast.specs.declared.expr.Expr.{Expr}
use Rattle.murphi_ast.specs.declared.stmt.Stmt.{Stmt}
use Rattle.murphi_ast.specs.declared.stmt.Arm.{Arm}
use Rattle.murphi_ast.specs.declared.stmt.Case.{Case}
use Rattle.murphi_typed.specs.Families.{Name}
use Rattle.murphi_types.specs.Written.{Written, in_stmt, enums_in, record_repeats}
use Rattle.murphi_types.specs.TextUses.{stmt_uses}
use Rattle.type_names.specs.declared.gathered.Gathered.{Gathered}
use Rattle.type_names.specs.Parts.{Part, added}
use Rattle.type_names.specs.Gathering.{in_expr, list_exprs}

-- what is written by expressions and types
abbrev pub written_part : List Span → List Written → Part
written_part uses written = record { uses = uses; names = enums_in written; faults = record_repeats written }

unfoldable pub of_stmt : Name → Bool → Stmt → Gathered → Gathered
of_stmt name hidden s G = added hidden (written_part (stmt_uses name s) (in_stmt s)) G

abbrev pub of_option : Name → Bool → Option Expr → Gathered → Gathered
of_option name hidden (Some e) G = in_expr name hidden e G
of_option name hidden None G = G

abbrev pub list_stmts : Name → Bool → List Stmt → Gathered → Gathered
list_stmts name hidden [] G = G
list_stmts name hidden (one ∷ rest) G = list_stmts name hidden rest (of_stmt name hidden one G)

abbrev pub list_arms : Name → Bool → List Arm → Gathered → Gathered
list_arms name hidden [] G = G
list_arms name hidden (one ∷ rest) G =
    list_arms name hidden rest (list_stmts name hidden one.body (in_expr name hidden one.test G))

abbrev pub list_cases : Name → Bool → List Case → Gathered → Gathered
list_cases name hidden [] G = G
list_cases name hidden (one ∷ rest) G =
    list_cases name hidden rest (list_stmts name hidden one.body (list_exprs name hidden one.labels G))

-- What code gives of what is found. The words do not unfold by themselves.
use Rattle.std.specs.Prelude.{List, Option}
use Rattle.murphi_ast.specs.declared.token.Span.{Span}
use Rattle.murphi_ast.specs.declared.expr.Named.{Named}
use Rattle.murphi_ast.specs.declared.expr.Designator.{Designator}
use Rattle.murphi_ast.specs.declared.expr.Expr.{Expr}
use Rattle.murphi_typed.specs.declared.types.Simple.{Simple}
use Rattle.murphi_types.specs.declared.scope.Known.{Known}
use Rattle.murphi_types.specs.declared.scope.Scope.{Scope}
use Rattle.murphi_types.specs.Places.{place_of}
use Rattle.murphi_types.specs.Scopes.{looked}
use Rattle.murphi_types.specs.Fitting.{is_truth}
use Rattle.murphi_types.specs.Found.{with_more, wanted}
use Rattle.murphi_types.specs.Calls.{callee_of, formals_of}
use Rattle.murphi_types.specs.Typing.{found}
use Rattle.murphi_types.specs.Lists.{place_found, list_arguments}
use Rattle.murphi_types.specs.Statements.{Leaving, FoundStmts, FoundArms, FoundLabels, FoundCases, assigned, called, cleared, undefined, asserted, put, is_result, returned, left}
use Rattle.type_statements.specs.declared.judged.JudgedStmt.{JudgedStmt}
use Rattle.type_statements.specs.declared.judged.JudgedStmts.{JudgedStmts}
use Rattle.type_statements.specs.declared.judged.JudgedArms.{JudgedArms}
use Rattle.type_statements.specs.declared.judged.JudgedLabels.{JudgedLabels}
use Rattle.type_statements.specs.declared.judged.JudgedCases.{JudgedCases}
use Rattle.type_statements.specs.Stating.{judged_stmt, judged_stmts, judged_arms, judged_labels, judged_cases}

-- the trees, with the first of the faults and with the weight that stops at the greatest u64
unfoldable pub stmts_part : FoundStmts → JudgedStmts
stmts_part f = judged_stmts f

unfoldable pub arms_part : FoundArms → JudgedArms
arms_part f = judged_arms f

unfoldable pub labels_part : FoundLabels → JudgedLabels
labels_part f = judged_labels f

unfoldable pub cases_part : FoundCases → JudgedCases
cases_part f = judged_cases f

-- the one statement that is found
unfoldable pub stmt_part : FoundStmts → JudgedStmt
stmt_part f = judged_stmt f

-- what is found of the statements that have no others in them
unfoldable pub assign_given : Scope → Known → Designator → Expr → FoundStmts
assign_given s k to body = assigned s (place_found s k to) body

unfoldable pub call_given : Scope → Known → Named → List Expr → FoundStmts
call_given s k name args =
    with_more (callee_of s k name (looked s k name.name))
    (λ c. list_arguments s k name.at (formals_of c) args) (called s.in_function name.at)

unfoldable pub clear_given : Scope → Known → Designator → Span → FoundStmts
clear_given s k place at = cleared s.in_function at (place_found s k place)

unfoldable pub undefine_given : Scope → Known → Designator → Span → FoundStmts
undefine_given s k place at = undefined s.in_function at (place_found s k place)

unfoldable pub assert_given : Scope → Known → Expr → Span → FoundStmts
assert_given s k test at = asserted at (wanted is_truth (place_of test) (found s k test))

unfoldable pub put_given : Scope → Known → Option Expr → Span → FoundStmts
put_given s k given at = put s k at given

-- `return` of a value, where the result has this type
unfoldable pub give_given : Scope → Known → Option Simple → Expr → Span → FoundStmts
give_given s k type body at = returned at (wanted (is_result type) (place_of body) (found s k body))

unfoldable pub leave_given : Leaving → Scope → Known → Option Expr → Span → FoundStmts
leave_given leaving s k body at = left s k leaving at body

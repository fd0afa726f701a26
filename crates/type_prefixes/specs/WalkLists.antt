-- The same over the lists that code reads.
use Rattle.std.specs.Prelude.{ℕ, ◌+◌, List, [], ◌∷◌}
use Rattle.murphi_typed.specs.declared.expr.Link.{Link}
use Rattle.murphi_typed.specs.declared.expr.Selector as select
use Rattle.murphi_typed.specs.declared.expr.Selector.{Selector}
use Rattle.murphi_typed.specs.declared.expr.Argument.{Argument}
use Rattle.murphi_typed.specs.declared.stmt.Stmt.{Stmt}
use Rattle.murphi_typed.specs.declared.stmt.Arm.{Arm}
use Rattle.murphi_typed.specs.declared.stmt.Case.{Case}
use Rattle.type_prefixes.specs.declared.depth.Depth.{Depth}
use Rattle.type_prefixes.specs.Summaries.{first_place, later_places, touched}
use Rattle.type_prefixes.specs.Walks.{walked, arg_walked, labels_walked, stmt_walked}

abbrev pub list_links : List Depth → List Link → ℕ → Depth → Depth
list_links cs [] n S = touched n S
list_links cs (l ∷ ls) n S = list_links cs ls n (walked cs l.operand n S)

abbrev pub selector_walked : List Depth → Selector → ℕ → Depth → Depth
selector_walked cs (select.Field name) n S = S
selector_walked cs (select.Index over index) n S = walked cs index n S

abbrev pub list_indices : List Depth → List Selector → ℕ → Depth → Depth
list_indices cs [] n S = touched n S
list_indices cs (one ∷ rest) n S = list_indices cs rest n (selector_walked cs one n S)

abbrev pub list_args : List Depth → List ℕ → List Argument → ℕ → Depth → Depth
list_args cs places [] n S = touched n S
list_args cs places (one ∷ rest) n S =
    list_args cs (later_places places) rest n (arg_walked cs one (n + first_place places) S)

abbrev pub list_stmts : List Depth → List Stmt → ℕ → Depth → Depth
list_stmts cs [] n S = touched n S
list_stmts cs (one ∷ rest) n S = list_stmts cs rest n (stmt_walked cs one n S)

abbrev pub list_arms : List Depth → List Arm → ℕ → Depth → Depth
list_arms cs [] n S = touched n S
list_arms cs (one ∷ rest) n S = list_arms cs rest n (list_stmts cs one.body n (walked cs one.test n S))

abbrev pub list_cases : List Depth → List Case → ℕ → Depth → Depth
list_cases cs [] n S = touched n S
list_cases cs (one ∷ rest) n S =
    list_cases cs rest n (list_stmts cs one.body n (labels_walked cs one.labels n S))

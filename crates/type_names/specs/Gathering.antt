-- What is gathered of expressions and types, in terms of the lists that code reads.
use Rattle.std.specs.Prelude.{Bool, List, [], ◌∷◌}
use Rattle.murphi_ast.specs.declared.expr.Named.{Named}
use Rattle.murphi_ast.specs.declared.expr.Link.{Link}
use Rattle.murphi_ast.specs.declared.expr.Selector as part
use Rattle.murphi_ast.specs.declared.expr.Selector.{Selector}
use Rattle.murphi_ast.specs.declared.expr.Designator.{Designator}
use Rattle.murphi_ast.specs.declared.expr.FieldDecl.{FieldDecl}
use Rattle.murphi_ast.specs.declared.expr.Expr.{Expr}
use Rattle.murphi_ast.specs.declared.expr.TypeExpr.{TypeExpr}
use Rattle.murphi_typed.specs.Families.{Name}
use Rattle.murphi_types.specs.declared.fault.Fault.{Fault}
use Rattle.murphi_types.specs.Faults.{sooner}
use Rattle.murphi_types.specs.Uses.{use_at}
use Rattle.std.specs.Prelude.{Option, ◌++◌}
use Rattle.type_names.specs.declared.gathered.Gathered.{Gathered}
use Rattle.type_names.specs.Scoping.{no_names, all_declared, fields_declared}
use Rattle.type_names.specs.Parts.{seen, added, expr_part, type_part}

unfoldable pub in_expr : Name → Bool → Expr → Gathered → Gathered
in_expr name hidden e G = added hidden (expr_part name e) G

unfoldable pub in_type : Name → Bool → TypeExpr → Gathered → Gathered
in_type name hidden t G = added hidden (type_part name t) G

-- a name where it stands for a value or a variable
abbrev pub with_use : Name → Bool → Named → Gathered → Gathered
with_use name hidden written G =
    record { uses = G.uses ++ seen hidden (use_at name written); global = G.global; fault = G.fault }

-- names that are declared for the whole text
abbrev pub with_names : List Named → Gathered → Gathered
with_names names G = record { uses = G.uses; global = all_declared G.global names; fault = G.fault }

abbrev pub with_fault : Option Fault → Gathered → Gathered
with_fault fault G = record { uses = G.uses; global = G.global; fault = sooner G.fault fault }

abbrev pub list_links : Name → Bool → List Link → Gathered → Gathered
list_links name hidden [] G = G
list_links name hidden (l ∷ ls) G = list_links name hidden ls (in_expr name hidden l.operand G)

abbrev pub in_selector : Name → Bool → Selector → Gathered → Gathered
in_selector name hidden (part.Field field) G = G
in_selector name hidden (part.Index index) G = in_expr name hidden index G

abbrev pub list_selectors : Name → Bool → List Selector → Gathered → Gathered
list_selectors name hidden [] G = G
list_selectors name hidden (one ∷ rest) G = list_selectors name hidden rest (in_selector name hidden one G)

abbrev pub in_place : Name → Bool → Designator → Gathered → Gathered
in_place name hidden d G = list_selectors name hidden d.selectors (with_use name hidden d.root G)

abbrev pub list_exprs : Name → Bool → List Expr → Gathered → Gathered
list_exprs name hidden [] G = G
list_exprs name hidden (e ∷ es) G = list_exprs name hidden es (in_expr name hidden e G)

abbrev pub list_fields : Name → Bool → List FieldDecl → Gathered → Gathered
list_fields name hidden [] G = G
list_fields name hidden (f ∷ fs) G = list_fields name hidden fs (in_type name hidden f.body G)

-- the fields of a record are a scope of their own
abbrev pub in_record : Name → Bool → List FieldDecl → Gathered → Gathered
in_record name hidden fields G =
    list_fields name hidden fields (with_fault (fields_declared no_names fields).fault G)

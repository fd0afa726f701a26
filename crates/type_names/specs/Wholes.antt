-- What is gathered of declarations, items and whole texts, in terms of the lists that code reads.
use Rattle.std.specs.Prelude.{Bool, false, List, [], ◌∷◌, Option, None, Some}
use Rattle.murphi_ast.specs.declared.expr.Named.{Named}
use Rattle.murphi_ast.specs.declared.expr.Bind.{Bind}
use Rattle.murphi_ast.specs.declared.expr.TypeExpr.{TypeExpr}
use Rattle.murphi_ast.specs.declared.decl.Decl as decl
use Rattle.murphi_ast.specs.declared.decl.Decl.{Decl}
use Rattle.murphi_ast.specs.declared.decl.Routine.{Routine}
use Rattle.murphi_ast.specs.declared.decl.Formal.{Formal}
use Rattle.murphi_ast.specs.declared.rule.RuleDecl.{RuleDecl}
use Rattle.murphi_ast.specs.declared.rule.Protocol.{Protocol}
use Rattle.murphi_typed.specs.Families.{Name}
use Rattle.murphi_types.specs.declared.fault.Fault.{Fault}
use Rattle.murphi_types.specs.Faults.{sooner, first_fault}
use Rattle.murphi_types.specs.Written.{names_of, global_names, own_repeats, in_item, local_repeats}
use Rattle.murphi_types.specs.TextUses.{is_node_type, decl_uses, item_uses}
use Rattle.type_names.specs.declared.scope.Scoped.{Scoped}
use Rattle.type_names.specs.declared.gathered.Gathered.{Gathered}
use Rattle.type_names.specs.Scoping.{no_names, all_declared}
use Rattle.type_names.specs.Parts.{added, hidden_by}
use Rattle.type_names.specs.Gathering.{in_expr, in_type, with_names, with_fault}
use Rattle.type_names.specs.Bodies.{written_part, list_stmts}

-- whether a name is hidden behind names that are declared
abbrev pub hidden_after : Name → Bool → List Named → Bool
hidden_after name h [] = h
hidden_after name h (n ∷ ns) = hidden_after name (hidden_by h name n) ns

-- Declarations

abbrev pub of_simple : Name → Bool → Decl → Gathered → Gathered
of_simple name h (decl.Constant n body) G = in_expr name h body G
of_simple name h (decl.TypeName n body) G = in_type name h body G
of_simple name h (decl.Variables ns body) G = in_type name h body G
of_simple name h _ G = G

abbrev pub list_locals : Name → Bool → List Decl → Gathered → Gathered
list_locals name h [] G = G
list_locals name h (d ∷ ds) G = list_locals name (hidden_after name h (names_of d)) ds (of_simple name h d G)

abbrev pub hidden_in_locals : Name → Bool → List Decl → Bool
hidden_in_locals name h [] = h
hidden_in_locals name h (d ∷ ds) = hidden_in_locals name (hidden_after name h (names_of d)) ds

abbrev pub locals_declared : Scoped → List Decl → Scoped
locals_declared D [] = D
locals_declared D (d ∷ ds) = locals_declared (all_declared D (names_of d)) ds

abbrev pub list_formals : Name → Bool → List Formal → Gathered → Gathered
list_formals name h [] G = G
list_formals name h (f ∷ fs) G = list_formals name (hidden_after name h f.names) fs (in_type name h f.body G)

abbrev pub hidden_in_formals : Name → Bool → List Formal → Bool
hidden_in_formals name h [] = h
hidden_in_formals name h (f ∷ fs) = hidden_in_formals name (hidden_after name h f.names) fs

abbrev pub formals_declared : Scoped → List Formal → Scoped
formals_declared D [] = D
formals_declared D (f ∷ fs) = formals_declared (all_declared D f.names) fs

abbrev pub of_result : Name → Bool → Option TypeExpr → Gathered → Gathered
of_result name h (Some type) G = in_type name h type G
of_result name h None G = G

-- the formals and locals of a routine are one scope
abbrev pub scope_of : Routine → Scoped
scope_of r = locals_declared (formals_declared no_names r.formals) r.locals

abbrev pub of_body : Name → Bool → Routine → Gathered → Gathered
of_body name h r G =
    list_stmts name (hidden_in_locals name h r.locals) r.body (list_locals name h r.locals (of_result name h r.result G))

abbrev pub of_routine : Name → Bool → Routine → Gathered → Gathered
of_routine name h r G =
    of_body name (hidden_in_formals name h r.formals) r
    (list_formals name h r.formals (with_fault (scope_of r).fault (with_names (r.name ∷ []) G)))

-- Items

unfoldable pub of_item : Name → Bool → RuleDecl → Gathered → Gathered
of_item name h i G = added h (written_part (item_uses name i) (in_item i)) G

abbrev pub list_items : Name → Bool → List RuleDecl → Gathered → Gathered
list_items name h [] G = G
list_items name h (i ∷ is) G = list_items name h is (of_item name h i G)

abbrev pub list_binds : Name → Bool → List Bind → Gathered → Gathered
list_binds name h [] G = G
list_binds name h (b ∷ bs) G = list_binds name (hidden_by h name b.name) bs (in_type name h b.over G)

abbrev pub hidden_in_binds : Name → Bool → List Bind → Bool
hidden_in_binds name h [] = h
hidden_in_binds name h (b ∷ bs) = hidden_in_binds name (hidden_by h name b.name) bs

-- the first fault of the locals of rules and start states
unfoldable pub local_fault : RuleDecl → Option Fault
local_fault i = first_fault (local_repeats i)

abbrev pub list_local_faults : List RuleDecl → Option Fault → Option Fault
list_local_faults [] fault = fault
list_local_faults (i ∷ is) fault = list_local_faults is (sooner fault (local_fault i))

-- Whole texts

unfoldable pub of_decl : Name → Bool → Decl → Gathered → Gathered
of_decl name h d G = added h (record { uses = decl_uses name d; names = global_names d; faults = own_repeats d }) G

-- the declaration of the node type itself is left out of the uses
abbrev pub list_decls : Name → Name → List Decl → Gathered → Gathered
list_decls node name [] G = G
list_decls node name (d ∷ ds) G = list_decls node name ds (of_decl name (is_node_type node d) d G)

abbrev pub nothing_gathered : Gathered
nothing_gathered = record { uses = []; global = no_names; fault = None }

abbrev pub gathered : Name → Name → Protocol → Gathered
gathered node name P = list_items name false P.rules (list_decls node name P.decls nothing_gathered)

abbrev pub first_repeat : Gathered → Option Fault → Option Fault
first_repeat G locals = sooner G.global.fault (sooner G.fault locals)

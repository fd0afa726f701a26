-- The expressions and types that are written directly in statements, declarations and items, in text order; and from
-- these the names that are declared twice in one scope of a text.
use Rattle.std.specs.Prelude.{List, [], ◌∷◌, ◌++◌, Option, None, Some}
use Rattle.std.specs.List.{flat_map}
use Rattle.murphi_ast.specs.declared.expr.Named.{Named}
use Rattle.murphi_ast.specs.declared.expr.Expr.{Expr}
use Rattle.murphi_ast.specs.declared.expr.Bind.{Bind}
use Rattle.murphi_ast.specs.declared.expr.Selector as part
use Rattle.murphi_ast.specs.declared.expr.Selector.{Selector}
use Rattle.murphi_ast.specs.declared.expr.Designator.{Designator}
use Rattle.murphi_ast.specs.declared.expr.TypeExpr.{TypeExpr}
use Rattle.murphi_ast.specs.declared.stmt.Stmt as w
use Rattle.murphi_ast.specs.declared.stmt.Stmt.{Stmt, Row_of-Stmt, end_of-Stmt, more_of-Stmt, Row_of-Arm, end_of-Arm, more_of-Arm, Row_of-Case, end_of-Case, more_of-Case}
use Rattle.murphi_ast.specs.declared.decl.Decl as decl
use Rattle.murphi_ast.specs.declared.decl.Decl.{Decl, Row_of-Decl, end_of-Decl, more_of-Decl}
use Rattle.murphi_ast.specs.declared.decl.Formal.{Formal}
use Rattle.murphi_ast.specs.declared.rule.RuleDecl as r
use Rattle.murphi_ast.specs.declared.rule.RuleDecl.{RuleDecl, Row_of-RuleDecl, end_of-RuleDecl, more_of-RuleDecl}
use Rattle.murphi_types.specs.declared.fault.Fault.{Fault}
use Rattle.murphi_types.specs.Repeats.{repeats_in, enum_names, type_enums, field_repeats, type_repeats}

pub data Written : Type 0 where
  AnExpr : Expr → Written
  AType : TypeExpr → Written

-- Statements

abbrev pub index_of : Selector → List Written
index_of (part.Field name) = []
index_of (part.Index index) = AnExpr index ∷ []

abbrev pub in_place : Designator → List Written
in_place d = flat_map index_of d.selectors

abbrev pub exprs : List Expr → List Written
exprs [] = []
exprs (e ∷ es) = AnExpr e ∷ exprs es

abbrev pub an_option : Option Expr → List Written
an_option (Some body) = AnExpr body ∷ []
an_option None = []

unfoldable mutual
  pub in_stmt : Stmt → List Written
  in_stmt (w.Assign to body) = in_place to ++ (AnExpr body ∷ [])
  in_stmt (w.Call name args) = exprs args
  in_stmt (w.If' _ arms _ otherwise at) = in_arms arms ++ in_row otherwise
  in_stmt (w.Switch' on _ cases _ otherwise at) = AnExpr on ∷ (in_cases cases ++ in_row otherwise)
  in_stmt (w.For' bind _ body at) = AType bind.over ∷ in_row body
  in_stmt (w.Clear place at) = in_place place
  in_stmt (w.Undefine place at) = in_place place
  in_stmt (w.Error at) = []
  in_stmt (w.Assert test at) = AnExpr test ∷ []
  in_stmt (w.Put given at) = an_option given
  in_stmt (w.Return given at) = an_option given

  pub in_row : {n : _} → Row_of-Stmt n → List Written
  in_row end_of-Stmt = []
  in_row (more_of-Stmt first rest) = in_stmt first ++ in_row rest

  pub in_arms : {n : _} → Row_of-Arm n → List Written
  in_arms end_of-Arm = []
  in_arms (more_of-Arm test _ body rest) = AnExpr test ∷ (in_row body ++ in_arms rest)

  pub in_cases : {n : _} → Row_of-Case n → List Written
  in_cases end_of-Case = []
  in_cases (more_of-Case labels _ body rest) = exprs labels ++ (in_row body ++ in_cases rest)

abbrev pub in_body : List Stmt → List Written
in_body body = flat_map in_stmt body

-- Names and faults of what is written

abbrev pub enums_of : Written → List Named
enums_of (AnExpr body) = enum_names body
enums_of (AType type) = type_enums type

abbrev pub enums_in : List Written → List Named
enums_in all = flat_map enums_of all

abbrev pub repeats_of : Written → List Fault
repeats_of (AnExpr body) = field_repeats body
repeats_of (AType type) = type_repeats type

-- the records that are written, each a scope of its own
abbrev pub record_repeats : List Written → List Fault
record_repeats all = flat_map repeats_of all

-- Declarations

-- the names that a declaration declares where it stands
abbrev pub names_of : Decl → List Named
names_of (decl.Constant name body) = name ∷ []
names_of (decl.TypeName name body) = name ∷ []
names_of (decl.Variables names body) = names
names_of (decl.Routine' name formals result _ locals body) = name ∷ []

abbrev pub formal_names : List Formal → List Named
formal_names formals = flat_map (λ (f : Formal). f.names) formals

abbrev pub in_formals : List Formal → List Written
in_formals [] = []
in_formals (f ∷ fs) = AType f.body ∷ in_formals fs

abbrev pub in_result : Option TypeExpr → List Written
in_result (Some type) = AType type ∷ []
in_result None = []

-- what is written in a declaration; routines declare no routines
abbrev pub in_simple : Decl → List Written
in_simple (decl.Constant name body) = AnExpr body ∷ []
in_simple (decl.TypeName name body) = AType body ∷ []
in_simple (decl.Variables names body) = AType body ∷ []
in_simple _ = []

abbrev pub in_locals : {n : _} → Row_of-Decl n → List Written
in_locals end_of-Decl = []
in_locals (more_of-Decl one rest) = in_simple one ++ in_locals rest

abbrev pub local_names : {n : _} → Row_of-Decl n → List Named
local_names end_of-Decl = []
local_names (more_of-Decl one rest) = names_of one ++ local_names rest

abbrev pub in_decl : Decl → List Written
in_decl (decl.Routine' name formals result _ locals body) =
    in_formals formals ++ (in_result result ++ (in_locals locals ++ in_body body))
in_decl other = in_simple other

-- the global names and enum names of a declaration, in text order: a name stands before what it declares
abbrev pub global_names : Decl → List Named
global_names one = names_of one ++ enums_in (in_decl one)

-- the faults of a declaration by itself: of records, and of the formals and locals of a routine
abbrev pub own_repeats : Decl → List Fault
own_repeats (decl.Routine' name formals result _ locals body) =
    repeats_in (formal_names formals ++ local_names locals)
    ++ record_repeats (in_decl (decl.Routine' name formals result _ locals body))
own_repeats other = record_repeats (in_decl other)

-- Items

abbrev pub in_binds : List Bind → List Written
in_binds [] = []
in_binds (b ∷ bs) = AType b.over ∷ in_binds bs

unfoldable mutual
  pub in_item : RuleDecl → List Written
  in_item (r.Rule title guard locals body at) = an_option guard ++ (flat_map in_simple locals ++ in_body body)
  in_item (r.Start title locals body at) = flat_map in_simple locals ++ in_body body
  in_item (r.Invariant title body at) = AnExpr body ∷ []
  in_item (r.Group' binds _ items at) = in_binds binds ++ in_items items

  pub in_items : {n : _} → Row_of-RuleDecl n → List Written
  in_items end_of-RuleDecl = []
  in_items (more_of-RuleDecl one rest) = in_item one ++ in_items rest

unfoldable mutual
  -- the faults of the locals of rules and start states
  pub local_repeats : RuleDecl → List Fault
  local_repeats (r.Rule title guard locals body at) = repeats_in (flat_map names_of locals)
  local_repeats (r.Start title locals body at) = repeats_in (flat_map names_of locals)
  local_repeats (r.Invariant title body at) = []
  local_repeats (r.Group' binds _ items at) = locals_repeats items

  pub locals_repeats : {n : _} → Row_of-RuleDecl n → List Fault
  locals_repeats end_of-RuleDecl = []
  locals_repeats (more_of-RuleDecl one rest) = local_repeats one ++ locals_repeats rest

-- all names that a text declares twice in one scope
abbrev pub text_repeats : List Decl → List RuleDecl → List Fault
text_repeats decls items =
    repeats_in (flat_map global_names decls ++ enums_in (flat_map in_item items))
    ++ (flat_map own_repeats decls
    ++ (record_repeats (flat_map in_item items) ++ flat_map local_repeats items))

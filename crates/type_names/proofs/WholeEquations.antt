-- What is gathered of declarations, items and whole texts.
use Rattle.std.proofs.Common.{◌≡◌, ℕ, Bool, true, false, ◌||◌, List, [], ◌∷◌, ◌++◌, Option, None, Some, refl, ap, sym, ◌∙◌, append_assoc, append-nil}
use Rattle.std.specs.Prelude.{if◌then◌else◌}
use Rattle.std.specs.List.{flat_map, list_any}
use Rattle.std.specs.Str.{bytes_eq}
use Rattle.std.proofs.lemmas.Grind.{flat_map-append}
use denote.Hole.Carrier.{hidden}
use Rattle.murphi_ast.specs.declared.token.Span.{Span}
use Rattle.murphi_ast.specs.declared.expr.Named.{Named}
use Rattle.murphi_ast.specs.declared.expr.Bind.{Bind}
use Rattle.murphi_ast.specs.declared.expr.Expr.{Expr}
use Rattle.murphi_ast.specs.declared.expr.TypeExpr as t
use Rattle.murphi_ast.specs.declared.expr.TypeExpr.{TypeExpr}
use Rattle.murphi_ast.specs.declared.stmt.Stmt.{Stmt}
use Rattle.murphi_ast.specs.declared.expr.Expr.TheBlock.{shape-the_row-Expr-2, hidden-the_row-Expr-2}
use Rattle.murphi_ast.specs.declared.decl.Decl as decl
use Rattle.murphi_ast.specs.declared.decl.Decl.{Decl, Row_of-Decl, end_of-Decl, more_of-Decl, items-the_row-Decl, items_hidden-the_row-Decl-0}
use Rattle.murphi_ast.specs.declared.decl.Decl.TheBlock.{hidden-the_row-Decl-0}
use Rattle.murphi_ast.specs.declared.decl.Routine.{Routine}
use Rattle.murphi_ast.specs.declared.decl.Formal.{Formal}
use Rattle.murphi_ast.specs.declared.rule.RuleDecl as r
use Rattle.murphi_ast.specs.declared.rule.RuleDecl.{RuleDecl, Row_of-RuleDecl, end_of-RuleDecl, more_of-RuleDecl, items-the_row-RuleDecl, items_hidden-the_row-RuleDecl-0, the_lemmas}
use Rattle.murphi_ast.specs.declared.rule.RuleDecl.TheBlock.{hidden-the_row-RuleDecl-0}
use Rattle.murphi_ast.specs.declared.rule.Protocol.{Protocol}
use Rattle.murphi_typed.specs.Families.{Name}
use Rattle.murphi_types.specs.declared.fault.Fault.{Fault}
use Rattle.murphi_types.specs.Faults.{sooner, first_fault}
use Rattle.murphi_types.specs.Repeats.{repeats_in}
use Rattle.murphi_types.specs.Uses.{unless_hidden, uses_in, type_uses}
use Rattle.murphi_types.specs.Written.{Written, AnExpr, AType, an_option, in_body, enums_of, enums_in, repeats_of, record_repeats, names_of, formal_names, in_formals, in_result, in_simple, in_locals, local_names, in_decl, global_names, own_repeats, in_binds, in_item, in_items, local_repeats, locals_repeats, text_repeats}
use Rattle.murphi_types.specs.TextUses.{option_uses, body_uses, simple_uses, unless_any, locals_uses, row_locals_uses, formals_uses, result_uses, decl_uses, is_node_type, global_uses, binds_uses, item_uses, items_uses, text_uses}
use Rattle.type_parts.proofs.FaultLemmas.{sooner-assoc, sooner-none, first-append}
use Rattle.type_names.specs.declared.scope.Scoped.{Scoped}
use Rattle.type_names.specs.declared.gathered.Gathered.{Gathered}
use Rattle.type_names.specs.Scoping.{no_names, all_declared}
use Rattle.type_names.specs.Parts.{Part, no_part, join, seen, added, hidden_by}
use Rattle.type_names.specs.Gathering.{in_expr, in_type, with_names, with_fault}
use Rattle.type_names.specs.Bodies.{written_part, of_option, list_stmts}
use Rattle.type_names.specs.Wholes.{hidden_after, of_simple, list_locals, hidden_in_locals, locals_declared, list_formals, hidden_in_formals, formals_declared, of_result, scope_of, of_body, of_routine, of_item, list_items, list_binds, hidden_in_binds, local_fault, list_local_faults, of_decl, list_decls, nothing_gathered, gathered, first_repeat}
use Rattle.type_names.proofs.ScopeLemmas.{all-append, repeats-in-are}
use Rattle.type_names.proofs.PartLemmas.{made, joined, nothing, names_part, faults_part, named, faulty, hiding, hid}
use Rattle.type_names.proofs.BodyEquations.{in-turn, lone-expr, lone-type, expr-first, type-first, option-is, body-is}

-- Hiding by names

after-hidden : (name : Name) (ns : List Named) → hidden_after name true ns ≡ true
after-hidden name [] = refl
after-hidden name (n ∷ ns) = after-hidden name ns

seen-any : (name : Name) (h : Bool) (ns : List Named) (us : List Span) → seen h (unless_any name ns us) ≡ seen (hidden_after name h ns) us
seen-any name true ns us = sym (ap (λ b. seen b us) (after-hidden name ns))
seen-any name false [] us = refl
seen-any name false (n ∷ ns) us = go (bytes_eq n.name name) (seen-any name false ns us)
  where
    go : (b : Bool) → seen false (unless_any name ns us) ≡ seen (hidden_after name false ns) us → seen false (if (b || list_any (λ (m : Named). bytes_eq m.name name) ns) then [] else us) ≡ seen (hidden_after name (false || b) ns) us
    go true h = sym (ap (λ b. seen b us) (after-hidden name ns))
    go false h = h

abbrev hiding_any : Name → List Named → Part → Part
hiding_any name ns p = record { uses = unless_any name ns p.uses; names = p.names; faults = p.faults }

any-hid : (name : Name) (h : Bool) (ns : List Named) (p : Part) (G : Gathered) → added h (hiding_any name ns p) G ≡ added (hidden_after name h ns) p G
any-hid name h ns p G =
    ap (λ us. made (G.uses ++ us) (all_declared G.global p.names) (sooner G.fault (first_fault p.faults))) (seen-any name h ns p.uses)

-- Locals, formals and binds, with what follows them

simple-is : (name : Name) (h : Bool) (d : Decl) (G : Gathered) → added h (written_part (simple_uses name d) (in_simple d)) G ≡ of_simple name h d G
simple-is name h (decl.Constant n body) G = lone-expr name h body G
simple-is name h (decl.TypeName n body) G = lone-type name h body G
simple-is name h (decl.Variables ns body) G = lone-type name h body G
simple-is name h (decl.Routine' n formals result _ locals body) G = nothing h G

locals-are : (name : Name) (h : Bool) (ds : List Decl) (us : List Span) (ws : List Written) (G : Gathered) → added h (written_part (locals_uses name ds us) (flat_map in_simple ds ++ ws)) G ≡ added (hidden_in_locals name h ds) (written_part us ws) (list_locals name h ds G)
locals-are name h [] us ws G = refl
locals-are name h (d ∷ ds) us ws G =
    let p = written_part (locals_uses name ds us) (flat_map in_simple ds ++ ws) in
    ap (λ l. added h (written_part (simple_uses name d ++ unless_any name (names_of d) (locals_uses name ds us)) l) G) (append_assoc (in_simple d) (flat_map in_simple ds) ws)
    ∙ in-turn h (simple_uses name d) (unless_any name (names_of d) (locals_uses name ds us)) (in_simple d) (flat_map in_simple ds ++ ws) G
    ∙ any-hid name h (names_of d) p (added h (written_part (simple_uses name d) (in_simple d)) G)
    ∙ ap (added (hidden_after name h (names_of d)) p) (simple-is name h d G)
    ∙ locals-are name (hidden_after name h (names_of d)) ds us ws (of_simple name h d G)

row-uses-are : {n : _} (name : Name) (row : Row_of-Decl n) (us : List Span) → row_locals_uses name row us ≡ locals_uses name (items-the_row-Decl n row) us
row-uses-are name end_of-Decl us = refl
row-uses-are name (more_of-Decl one rest) us = ap (λ vs. simple_uses name one ++ unless_any name (names_of one) vs) (row-uses-are name rest us)

row-written-is : {n : _} (row : Row_of-Decl n) → in_locals row ≡ flat_map in_simple (items-the_row-Decl n row)
row-written-is end_of-Decl = refl
row-written-is (more_of-Decl one rest) = ap (λ ws. in_simple one ++ ws) (row-written-is rest)

row-names-are : {n : _} (row : Row_of-Decl n) → local_names row ≡ flat_map names_of (items-the_row-Decl n row)
row-names-are end_of-Decl = refl
row-names-are (more_of-Decl one rest) = ap (λ ns. names_of one ++ ns) (row-names-are rest)

formals-are : (name : Name) (h : Bool) (fs : List Formal) (us : List Span) (ws : List Written) (G : Gathered) → added h (written_part (formals_uses name fs us) (in_formals fs ++ ws)) G ≡ added (hidden_in_formals name h fs) (written_part us ws) (list_formals name h fs G)
formals-are name h [] us ws G = refl
formals-are name h (f ∷ fs) us ws G =
    type-first name h f.body (unless_any name f.names (formals_uses name fs us)) (in_formals fs ++ ws) G
    ∙ any-hid name h f.names (written_part (formals_uses name fs us) (in_formals fs ++ ws)) (in_type name h f.body G)
    ∙ formals-are name (hidden_after name h f.names) fs us ws (in_type name h f.body G)

binds-are : (name : Name) (h : Bool) (bs : List Bind) (us : List Span) (ws : List Written) (G : Gathered) → added h (written_part (binds_uses name bs us) (in_binds bs ++ ws)) G ≡ added (hidden_in_binds name h bs) (written_part us ws) (list_binds name h bs G)
binds-are name h [] us ws G = refl
binds-are name h (b ∷ bs) us ws G =
    type-first name h b.over (unless_hidden name b.name (binds_uses name bs us)) (in_binds bs ++ ws) G
    ∙ hid h name b.name (written_part (binds_uses name bs us) (in_binds bs ++ ws)) (in_type name h b.over G)
    ∙ binds-are name (hidden_by h name b.name) bs us ws (in_type name h b.over G)

result-is : (name : Name) (h : Bool) (o : Option TypeExpr) (G : Gathered) → added h (written_part (result_uses name o) (in_result o)) G ≡ of_result name h o G
result-is name h (Some type) G = lone-type name h type G
result-is name h None G = nothing h G

locals-scope : (D : Scoped) (ds : List Decl) → locals_declared D ds ≡ all_declared D (flat_map names_of ds)
locals-scope D [] = refl
locals-scope D (d ∷ ds) = locals-scope (all_declared D (names_of d)) ds ∙ sym (all-append D (names_of d) (flat_map names_of ds))

formals-scope : (D : Scoped) (fs : List Formal) → formals_declared D fs ≡ all_declared D (formal_names fs)
formals-scope D [] = refl
formals-scope D (f ∷ fs) = formals-scope (all_declared D f.names) fs ∙ sym (all-append D f.names (formal_names fs))

-- Declarations

then-body : (name : Name) (h : Bool) (ds : List Decl) (body : List Stmt) (G : Gathered) → added h (written_part (locals_uses name ds (body_uses name body)) (flat_map in_simple ds ++ in_body body)) G ≡ list_stmts name (hidden_in_locals name h ds) body (list_locals name h ds G)
then-body name h ds body G =
    locals-are name h ds (body_uses name body) (in_body body) G ∙ body-is name (hidden_in_locals name h ds) body (list_locals name h ds G)

names-first : (h : Bool) (us : List Span) (ns : List Named) (ws : List Written) (G : Gathered) → added h (record { uses = us; names = ns ++ enums_in ws; faults = record_repeats ws }) G ≡ added h (written_part us ws) (with_names ns G)
names-first h us ns ws G =
    joined h (names_part ns) (written_part us ws) G ∙ ap (added h (written_part us ws)) (named h ns G)

pub walk-Constant : (name : Name) (h : Bool) (n : Named) (body : Expr) (G : Gathered) → of_decl name h (decl.Constant n body) G ≡ in_expr name h body (with_names (n ∷ []) G)
unfolding of_decl
walk-Constant name h n body G =
    names-first h (uses_in name body) (n ∷ []) (AnExpr body ∷ []) G ∙ lone-expr name h body (with_names (n ∷ []) G)

pub walk-TypeName : (name : Name) (h : Bool) (n : Named) (body : TypeExpr) (G : Gathered) → of_decl name h (decl.TypeName n body) G ≡ in_type name h body (with_names (n ∷ []) G)
unfolding of_decl
walk-TypeName name h n body G =
    names-first h (type_uses name body) (n ∷ []) (AType body ∷ []) G ∙ lone-type name h body (with_names (n ∷ []) G)

pub walk-Variables : (name : Name) (h : Bool) (ns : List Named) (body : TypeExpr) (G : Gathered) → of_decl name h (decl.Variables ns body) G ≡ in_type name h body (with_names ns G)
unfolding of_decl
walk-Variables name h ns body G =
    names-first h (type_uses name body) ns (AType body ∷ []) G ∙ lone-type name h body (with_names ns G)

scope-fault : (rt : Routine) → first_fault (repeats_in (formal_names rt.formals ++ local_names (hidden-the_row-Decl-0 rt.locals))) ≡ (scope_of rt).fault
scope-fault rt =
    ap (λ ns. first_fault (repeats_in (formal_names rt.formals ++ ns))) (row-names-are (hidden-the_row-Decl-0 rt.locals) ∙ ap (flat_map names_of) (items_hidden-the_row-Decl-0 rt.locals))
    ∙ sym (repeats-in-are (formal_names rt.formals ++ flat_map names_of rt.locals))
    ∙ ap (λ D. D.fault) (all-append no_names (formal_names rt.formals) (flat_map names_of rt.locals)
    ∙ ap (λ D. all_declared D (flat_map names_of rt.locals)) (sym (formals-scope no_names rt.formals))
    ∙ sym (locals-scope (formals_declared no_names rt.formals) rt.locals))

body-of : (name : Name) (h : Bool) (rt : Routine) (G : Gathered) →
    added h (written_part (result_uses name rt.result ++ row_locals_uses name (hidden-the_row-Decl-0 rt.locals) (body_uses name rt.body)) (in_result rt.result ++ (in_locals (hidden-the_row-Decl-0 rt.locals) ++ in_body rt.body))) G
    ≡ of_body name h rt G
body-of name h rt G =
    let row = hidden-the_row-Decl-0 rt.locals in
    ap (λ us. added h (written_part (result_uses name rt.result ++ us) (in_result rt.result ++ (in_locals row ++ in_body rt.body))) G)
    (row-uses-are name row (body_uses name rt.body) ∙ ap (λ ds. locals_uses name ds (body_uses name rt.body)) (items_hidden-the_row-Decl-0 rt.locals))
    ∙ ap (λ ws. added h (written_part (result_uses name rt.result ++ locals_uses name rt.locals (body_uses name rt.body)) (in_result rt.result ++ (ws ++ in_body rt.body))) G)
    (row-written-is row ∙ ap (flat_map in_simple) (items_hidden-the_row-Decl-0 rt.locals))
    ∙ in-turn h (result_uses name rt.result) (locals_uses name rt.locals (body_uses name rt.body)) (in_result rt.result) (flat_map in_simple rt.locals ++ in_body rt.body) G
    ∙ then-body name h rt.locals rt.body (added h (written_part (result_uses name rt.result) (in_result rt.result)) G)
    ∙ ap (λ K. list_stmts name (hidden_in_locals name h rt.locals) rt.body (list_locals name h rt.locals K)) (result-is name h rt.result G)

pub walk-Routine : (name : Name) (h : Bool) (rt : Routine) (G : Gathered) → of_decl name h (decl.Routine rt) G ≡ of_routine name h rt G
unfolding of_decl
walk-Routine name h rt G =
    let row = hidden-the_row-Decl-0 rt.locals in
    let us = result_uses name rt.result ++ row_locals_uses name row (body_uses name rt.body) in
    let ws = in_result rt.result ++ (in_locals row ++ in_body rt.body) in
    let p = written_part (formals_uses name rt.formals us) (in_formals rt.formals ++ ws) in
    let fs = repeats_in (formal_names rt.formals ++ local_names row) in
    joined h (names_part (rt.name ∷ [])) (join (faults_part fs) p) G
    ∙ joined h (faults_part fs) p (added h (names_part (rt.name ∷ [])) G)
    ∙ ap (λ K. added h p (added h (faults_part fs) K)) (named h (rt.name ∷ []) G)
    ∙ ap (added h p) (faulty h fs (scope_of rt).fault (with_names (rt.name ∷ []) G) (scope-fault rt))
    ∙ formals-are name h rt.formals us ws (with_fault (scope_of rt).fault (with_names (rt.name ∷ []) G))
    ∙ body-of name (hidden_in_formals name h rt.formals) rt (list_formals name h rt.formals (with_fault (scope_of rt).fault (with_names (rt.name ∷ []) G)))

-- Items

items-row : {n : _} (name : Name) (h : Bool) (row : Row_of-RuleDecl n) (G : Gathered) → added h (written_part (items_uses name row) (in_items row)) G ≡ list_items name h (items-the_row-RuleDecl n row) G
unfolding of_item item_uses in_item
items-row name h end_of-RuleDecl G = nothing h G
items-row name h (more_of-RuleDecl one rest) G =
    in-turn h (item_uses name one) (items_uses name rest) (in_item one) (in_items rest) G
    ∙ items-row name h rest (added h (written_part (item_uses name one) (in_item one)) G)

pub walk-Rule : (name : Name) (h : Bool) (title : Option (List ℕ)) (guard : Option Expr) (locals : List Decl) (body : List Stmt) (at : Span) (G : Gathered) → of_item name h (r.Rule title guard locals body at) G ≡ list_stmts name (hidden_in_locals name h locals) body (list_locals name h locals (of_option name h guard G))
unfolding of_item item_uses in_item
walk-Rule name h title guard locals body at G =
    in-turn h (option_uses name guard) (locals_uses name locals (body_uses name body)) (an_option guard) (flat_map in_simple locals ++ in_body body) G
    ∙ then-body name h locals body (added h (written_part (option_uses name guard) (an_option guard)) G)
    ∙ ap (λ K. list_stmts name (hidden_in_locals name h locals) body (list_locals name h locals K)) (option-is name h guard G)

pub walk-Start : (name : Name) (h : Bool) (title : Option (List ℕ)) (locals : List Decl) (body : List Stmt) (at : Span) (G : Gathered) → of_item name h (r.Start title locals body at) G ≡ list_stmts name (hidden_in_locals name h locals) body (list_locals name h locals G)
unfolding of_item item_uses in_item
walk-Start name h title locals body at G = then-body name h locals body G

pub walk-Invariant : (name : Name) (h : Bool) (title : Option (List ℕ)) (body : Expr) (at : Span) (G : Gathered) → of_item name h (r.Invariant title body at) G ≡ in_expr name h body G
unfolding of_item item_uses in_item
walk-Invariant name h title body at G = lone-expr name h body G

pub walk-Group : (name : Name) (h : Bool) (binds : List Bind) (items : List RuleDecl) (at : Span) (G : Gathered) → of_item name h (r.Group binds items at) G ≡ list_items name (hidden_in_binds name h binds) items (list_binds name h binds G)
unfolding of_item item_uses in_item
walk-Group name h binds items at G =
    let row = hidden-the_row-RuleDecl-0 items in
    binds-are name h binds (items_uses name row) (in_items row) G
    ∙ items-row name (hidden_in_binds name h binds) row (list_binds name h binds G)
    ∙ ap (λ l. list_items name (hidden_in_binds name h binds) l (list_binds name h binds G)) (items_hidden-the_row-RuleDecl-0 items)

-- The locals of rules and start states

locals-fault : (ds : List Decl) → first_fault (repeats_in (flat_map names_of ds)) ≡ (locals_declared no_names ds).fault
locals-fault ds = sym (repeats-in-are (flat_map names_of ds)) ∙ ap (λ D. D.fault) (sym (locals-scope no_names ds))

faults-row : {n : _} (row : Row_of-RuleDecl n) (f : Option Fault) → sooner f (first_fault (locals_repeats row)) ≡ list_local_faults (items-the_row-RuleDecl n row) f
unfolding local_fault local_repeats
faults-row end_of-RuleDecl f = sooner-none f
faults-row (more_of-RuleDecl one rest) f =
    ap (sooner f) (first-append (local_repeats one) (locals_repeats rest))
    ∙ sym (sooner-assoc f (first_fault (local_repeats one)) (first_fault (locals_repeats rest)))
    ∙ faults-row rest (sooner f (first_fault (local_repeats one)))

none-sooner : (f : Option Fault) → f ≡ sooner None f
none-sooner None = refl
none-sooner (Some f) = refl

pub fault-Rule : (title : Option (List ℕ)) (guard : Option Expr) (locals : List Decl) (body : List Stmt) (at : Span) → local_fault (r.Rule title guard locals body at) ≡ (locals_declared no_names locals).fault
unfolding local_fault local_repeats
fault-Rule title guard locals body at = locals-fault locals

pub fault-Start : (title : Option (List ℕ)) (locals : List Decl) (body : List Stmt) (at : Span) → local_fault (r.Start title locals body at) ≡ (locals_declared no_names locals).fault
unfolding local_fault local_repeats
fault-Start title locals body at = locals-fault locals

pub fault-Invariant : (title : Option (List ℕ)) (body : Expr) (at : Span) → local_fault (r.Invariant title body at) ≡ None
unfolding local_fault local_repeats
fault-Invariant title body at = refl

pub fault-Group : (binds : List Bind) (items : List RuleDecl) (at : Span) → local_fault (r.Group binds items at) ≡ list_local_faults items None
unfolding local_fault local_repeats
fault-Group binds items at =
    none-sooner (first_fault (locals_repeats (hidden-the_row-RuleDecl-0 items)))
    ∙ faults-row (hidden-the_row-RuleDecl-0 items) None
    ∙ ap (λ l. list_local_faults l None) (items_hidden-the_row-RuleDecl-0 items)

-- Whole texts

abbrev decls_part : Name → Name → List Decl → Part
decls_part node name ds = record { uses = flat_map (global_uses node name) ds; names = flat_map global_names ds; faults = flat_map own_repeats ds }

abbrev decl_part : Name → Name → Decl → Part
decl_part node name d = record { uses = global_uses node name d; names = global_names d; faults = own_repeats d }

decl-is : (node name : Name) (d : Decl) (G : Gathered) → added false (decl_part node name d) G ≡ of_decl name (is_node_type node d) d G
unfolding of_decl
decl-is node name d G =
    ap (λ us. made (G.uses ++ us) (all_declared G.global (global_names d)) (sooner G.fault (first_fault (own_repeats d)))) (go (is_node_type node d))
  where
    go : (b : Bool) → seen false (if b then [] else decl_uses name d) ≡ seen b (decl_uses name d)
    go true = refl
    go false = refl

decls-are : (node name : Name) (ds : List Decl) (G : Gathered) → list_decls node name ds G ≡ added false (decls_part node name ds) G
decls-are node name [] G = sym (nothing false G)
decls-are node name (d ∷ ds) G =
    decls-are node name ds (of_decl name (is_node_type node d) d G)
    ∙ ap (added false (decls_part node name ds)) (sym (decl-is node name d G))
    ∙ sym (joined false (decl_part node name d) (decls_part node name ds) G)

items-are : (name : Name) (is : List RuleDecl) (G : Gathered) → list_items name false is G ≡ added false (written_part (flat_map (item_uses name) is) (flat_map in_item is)) G
unfolding of_item
items-are name [] G = sym (nothing false G)
items-are name (i ∷ is) G =
    items-are name is (added false (written_part (item_uses name i) (in_item i)) G)
    ∙ sym (in-turn false (item_uses name i) (flat_map (item_uses name) is) (in_item i) (flat_map in_item is) G)

text-is : (node name : Name) (P : Protocol) → gathered node name P ≡ added false (join (decls_part node name P.decls) (written_part (flat_map (item_uses name) P.rules) (flat_map in_item P.rules))) nothing_gathered
text-is node name P =
    items-are name P.rules (list_decls node name P.decls nothing_gathered)
    ∙ ap (added false (written_part (flat_map (item_uses name) P.rules) (flat_map in_item P.rules))) (decls-are node name P.decls nothing_gathered)
    ∙ sym (joined false (decls_part node name P.decls) (written_part (flat_map (item_uses name) P.rules) (flat_map in_item P.rules)) nothing_gathered)

pub uses-are : (node name : Name) (P : Protocol) → (gathered node name P).uses ≡ text_uses node name P
uses-are node name P = ap (λ G. G.uses) (text-is node name P)

local-faults-are : (is : List RuleDecl) (f : Option Fault) → list_local_faults is f ≡ sooner f (first_fault (flat_map local_repeats is))
unfolding local_fault
local-faults-are [] f = sym (sooner-none f)
local-faults-are (i ∷ is) f =
    local-faults-are is (sooner f (first_fault (local_repeats i)))
    ∙ sooner-assoc f (first_fault (local_repeats i)) (first_fault (flat_map local_repeats is))
    ∙ ap (sooner f) (sym (first-append (local_repeats i) (flat_map local_repeats is)))

pub repeats-of-text : (node name : Name) (P : Protocol) → first_repeat (gathered node name P) (list_local_faults P.rules None) ≡ first_fault (text_repeats P.decls P.rules)
repeats-of-text node name P =
    let names = flat_map global_names P.decls ++ enums_in (flat_map in_item P.rules) in
    let own = flat_map own_repeats P.decls in
    let records = record_repeats (flat_map in_item P.rules) in
    let locals = flat_map local_repeats P.rules in
    ap (λ G. first_repeat G (list_local_faults P.rules None)) (text-is node name P)
    ∙ ap (λ f. sooner (all_declared no_names names).fault (sooner (sooner None (first_fault (own ++ records))) f)) (local-faults-are P.rules None ∙ sym (none-sooner (first_fault locals)))
    ∙ ap (λ f. sooner f (sooner (sooner None (first_fault (own ++ records))) (first_fault locals))) (repeats-in-are names)
    ∙ ap (λ f. sooner (first_fault (repeats_in names)) (sooner f (first_fault locals))) (sym (none-sooner (first_fault (own ++ records))) ∙ first-append own records)
    ∙ ap (sooner (first_fault (repeats_in names))) (sooner-assoc (first_fault own) (first_fault records) (first_fault locals) ∙ ap (sooner (first_fault own)) (sym (first-append records locals)) ∙ sym (first-append own (records ++ locals)))
    ∙ sym (first-append (repeats_in names) (own ++ (records ++ locals)))

pub node-Scalarset : (node : Name) (n : Named) (size : Expr) (at : Span) → is_node_type node (decl.TypeName n (t.Scalarset size at)) ≡ bytes_eq n.name node
unfolding shape-the_row-Expr-2 hidden-the_row-Expr-2 hidden
node-Scalarset node n size at = refl

pub ruleset wholes = (walk-Constant, walk-TypeName, walk-Variables, walk-Routine, walk-Rule, walk-Start, walk-Invariant, walk-Group, fault-Rule, fault-Start, fault-Invariant, fault-Group, uses-are, repeats-of-text, node-Scalarset, the_lemmas)

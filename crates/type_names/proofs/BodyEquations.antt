-- What is gathered of each form of statement, in terms of the parts that code reads.
use Rattle.std.proofs.Common.{◌≡◌, Bool, List, [], ◌∷◌, ◌++◌, Option, None, Some, refl, ap, sym, ◌∙◌, append-nil}
use Rattle.std.specs.List.{flat_map}
use Rattle.std.proofs.lemmas.Grind.{flat_map-append}
use Rattle.murphi_ast.specs.declared.token.Span.{Span}
use Rattle.murphi_ast.specs.declared.expr.Named.{Named}
use Rattle.murphi_ast.specs.declared.expr.Bind.{Bind}
use Rattle.murphi_ast.specs.declared.expr.Expr.{Expr}
use Rattle.murphi_ast.specs.declared.expr.TypeExpr.{TypeExpr}
use Rattle.murphi_ast.specs.declared.expr.Designator.{Designator}
use Rattle.murphi_ast.specs.declared.expr.Selector as part
use Rattle.murphi_ast.specs.declared.expr.Selector.{Selector}
use Rattle.murphi_ast.specs.declared.stmt.Arm.{Arm}
use Rattle.murphi_ast.specs.declared.stmt.Case.{Case}
use Rattle.murphi_ast.specs.declared.stmt.Stmt as w
use Rattle.murphi_ast.specs.declared.stmt.Stmt.{Stmt, Row_of-Stmt, end_of-Stmt, more_of-Stmt, Row_of-Arm, end_of-Arm, more_of-Arm, Row_of-Case, end_of-Case, more_of-Case, items-the_row-Stmt, items-the_row-Arm, items-the_row-Case, items_hidden-the_row-Stmt-0, items_hidden-the_row-Arm-1, items_hidden-the_row-Case-2, items_shown-the_row-Stmt-0, the_lemmas}
use Rattle.murphi_ast.specs.declared.stmt.Stmt.TheBlock.{shown-the_row-Stmt-0, hidden-the_row-Stmt-0, hidden-the_row-Arm-1, hidden-the_row-Case-2}
use Rattle.murphi_typed.specs.Families.{Name}
use Rattle.murphi_types.specs.Written.{Written, AnExpr, AType, index_of, in_place as place_written, exprs, an_option, in_stmt, in_row, in_arms, in_cases, in_body, enums_of, enums_in, repeats_of, record_repeats}
use Rattle.murphi_types.specs.Uses.{use_at, unless_hidden, uses_in, type_uses}
use Rattle.murphi_types.specs.TextUses.{index_uses, place_uses, option_uses, stmt_uses, row_uses, arms_uses, cases_uses, body_uses}
use Rattle.type_names.specs.declared.gathered.Gathered.{Gathered}
use Rattle.type_names.specs.Parts.{Part, no_part, join, added, hidden_by, expr_part, type_part}
use Rattle.type_names.specs.Gathering.{in_expr, in_type, with_use, in_selector, list_selectors, in_place, list_exprs}
use Rattle.type_names.specs.Bodies.{written_part, of_stmt, of_option, list_stmts, list_arms, list_cases}
use Rattle.type_names.proofs.PartLemmas.{joined, nothing, use_part, used, hiding, hid}

-- what is written in turn
pub in-turn : (h : Bool) (us vs : List Span) (ws xs : List Written) (G : Gathered) → added h (written_part (us ++ vs) (ws ++ xs)) G ≡ added h (written_part vs xs) (added h (written_part us ws) G)
in-turn h us vs ws xs G =
    ap (λ ns. added h (record { uses = us ++ vs; names = ns; faults = record_repeats (ws ++ xs) }) G) (flat_map-append enums_of ws xs)
    ∙ ap (λ fs. added h (record { uses = us ++ vs; names = enums_in ws ++ enums_in xs; faults = fs }) G) (flat_map-append repeats_of ws xs)
    ∙ joined h (written_part us ws) (written_part vs xs) G

pub lone-expr : (name : Name) (h : Bool) (e : Expr) (G : Gathered) → added h (written_part (uses_in name e) (AnExpr e ∷ [])) G ≡ in_expr name h e G
unfolding in_expr
lone-expr name h e G =
    ap (λ ns. added h (record { uses = uses_in name e; names = ns; faults = repeats_of (AnExpr e) ++ [] }) G) (append-nil (enums_of (AnExpr e)))
    ∙ ap (λ fs. added h (record { uses = uses_in name e; names = enums_of (AnExpr e); faults = fs }) G) (append-nil (repeats_of (AnExpr e)))

pub lone-type : (name : Name) (h : Bool) (t : TypeExpr) (G : Gathered) → added h (written_part (type_uses name t) (AType t ∷ [])) G ≡ in_type name h t G
unfolding in_type
lone-type name h t G =
    ap (λ ns. added h (record { uses = type_uses name t; names = ns; faults = repeats_of (AType t) ++ [] }) G) (append-nil (enums_of (AType t)))
    ∙ ap (λ fs. added h (record { uses = type_uses name t; names = enums_of (AType t); faults = fs }) G) (append-nil (repeats_of (AType t)))

pub expr-first : (name : Name) (h : Bool) (e : Expr) (vs : List Span) (xs : List Written) (G : Gathered) → added h (written_part (uses_in name e ++ vs) (AnExpr e ∷ xs)) G ≡ added h (written_part vs xs) (in_expr name h e G)
expr-first name h e vs xs G =
    in-turn h (uses_in name e) vs (AnExpr e ∷ []) xs G ∙ ap (added h (written_part vs xs)) (lone-expr name h e G)

pub type-first : (name : Name) (h : Bool) (t : TypeExpr) (vs : List Span) (xs : List Written) (G : Gathered) → added h (written_part (type_uses name t ++ vs) (AType t ∷ xs)) G ≡ added h (written_part vs xs) (in_type name h t G)
type-first name h t vs xs G =
    in-turn h (type_uses name t) vs (AType t ∷ []) xs G ∙ ap (added h (written_part vs xs)) (lone-type name h t G)

selectors-are : (name : Name) (h : Bool) (ss : List Selector) (G : Gathered) → added h (written_part (flat_map (index_uses name) ss) (flat_map index_of ss)) G ≡ list_selectors name h ss G
selectors-are name h [] G = nothing h G
selectors-are name h (part.Field field ∷ ss) G = selectors-are name h ss G
selectors-are name h (part.Index index ∷ ss) G =
    expr-first name h index (flat_map (index_uses name) ss) (flat_map index_of ss) G ∙ selectors-are name h ss (in_expr name h index G)

pub place-is : (name : Name) (h : Bool) (d : Designator) (G : Gathered) → added h (written_part (place_uses name d) (place_written d)) G ≡ in_place name h d G
place-is name h d G =
    in-turn h (use_at name d.root) (flat_map (index_uses name) d.selectors) [] (flat_map index_of d.selectors) G
    ∙ selectors-are name h d.selectors (added h (use_part (use_at name d.root)) G)
    ∙ ap (list_selectors name h d.selectors) (used h name d.root G)

pub exprs-are : (name : Name) (h : Bool) (es : List Expr) (G : Gathered) → added h (written_part (flat_map (uses_in name) es) (exprs es)) G ≡ list_exprs name h es G
exprs-are name h [] G = nothing h G
exprs-are name h (e ∷ es) G = expr-first name h e (flat_map (uses_in name) es) (exprs es) G ∙ exprs-are name h es (in_expr name h e G)

pub option-is : (name : Name) (h : Bool) (o : Option Expr) (G : Gathered) → added h (written_part (option_uses name o) (an_option o)) G ≡ of_option name h o G
option-is name h (Some e) G = lone-expr name h e G
option-is name h None G = nothing h G

row-are : {n : _} (name : Name) (h : Bool) (row : Row_of-Stmt n) (G : Gathered) → added h (written_part (row_uses name row) (in_row row)) G ≡ list_stmts name h (items-the_row-Stmt n row) G
unfolding of_stmt stmt_uses in_stmt
row-are name h end_of-Stmt G = nothing h G
row-are name h (more_of-Stmt first rest) G =
    in-turn h (stmt_uses name first) (row_uses name rest) (in_stmt first) (in_row rest) G
    ∙ row-are name h rest (added h (written_part (stmt_uses name first) (in_stmt first)) G)

arms-are : {n : _} (name : Name) (h : Bool) (row : Row_of-Arm n) (G : Gathered) → added h (written_part (arms_uses name row) (in_arms row)) G ≡ list_arms name h (items-the_row-Arm n row) G
unfolding stmt_uses in_stmt
arms-are name h end_of-Arm G = nothing h G
arms-are name h (more_of-Arm test sh body rest) G =
    expr-first name h test (row_uses name body ++ arms_uses name rest) (in_row body ++ in_arms rest) G
    ∙ in-turn h (row_uses name body) (arms_uses name rest) (in_row body) (in_arms rest) (in_expr name h test G)
    ∙ arms-are name h rest (added h (written_part (row_uses name body) (in_row body)) (in_expr name h test G))
    ∙ ap (list_arms name h (items-the_row-Arm _ rest)) (row-are name h body (in_expr name h test G) ∙ ap (λ b. list_stmts name h b (in_expr name h test G)) (sym (items_shown-the_row-Stmt-0 sh body)))

cases-are : {n : _} (name : Name) (h : Bool) (row : Row_of-Case n) (G : Gathered) → added h (written_part (cases_uses name row) (in_cases row)) G ≡ list_cases name h (items-the_row-Case n row) G
unfolding stmt_uses in_stmt
cases-are name h end_of-Case G = nothing h G
cases-are name h (more_of-Case labels sh body rest) G =
    in-turn h (flat_map (uses_in name) labels) (row_uses name body ++ cases_uses name rest) (exprs labels) (in_row body ++ in_cases rest) G
    ∙ in-turn h (row_uses name body) (cases_uses name rest) (in_row body) (in_cases rest) (added h (written_part (flat_map (uses_in name) labels) (exprs labels)) G)
    ∙ cases-are name h rest (added h (written_part (row_uses name body) (in_row body)) (added h (written_part (flat_map (uses_in name) labels) (exprs labels)) G))
    ∙ ap (λ K. list_cases name h (items-the_row-Case _ rest) (added h (written_part (row_uses name body) (in_row body)) K)) (exprs-are name h labels G)
    ∙ ap (list_cases name h (items-the_row-Case _ rest)) (row-are name h body (list_exprs name h labels G) ∙ ap (λ b. list_stmts name h b (list_exprs name h labels G)) (sym (items_shown-the_row-Stmt-0 sh body)))

hidden-row : (name : Name) (h : Bool) (body : List Stmt) (G : Gathered) → added h (written_part (row_uses name (hidden-the_row-Stmt-0 body)) (in_row (hidden-the_row-Stmt-0 body))) G ≡ list_stmts name h body G
hidden-row name h body G = row-are name h (hidden-the_row-Stmt-0 body) G ∙ ap (λ b. list_stmts name h b G) (items_hidden-the_row-Stmt-0 body)

pub body-is : (name : Name) (h : Bool) (body : List Stmt) (G : Gathered) → added h (written_part (body_uses name body) (in_body body)) G ≡ list_stmts name h body G
unfolding of_stmt
body-is name h [] G = nothing h G
body-is name h (first ∷ rest) G =
    in-turn h (stmt_uses name first) (body_uses name rest) (in_stmt first) (in_body rest) G
    ∙ body-is name h rest (added h (written_part (stmt_uses name first) (in_stmt first)) G)

pub walk-Assign : (name : Name) (h : Bool) (to : Designator) (body : Expr) (G : Gathered) → of_stmt name h (w.Assign to body) G ≡ in_expr name h body (in_place name h to G)
unfolding of_stmt stmt_uses in_stmt
walk-Assign name h to body G =
    in-turn h (place_uses name to) (uses_in name body) (place_written to) (AnExpr body ∷ []) G
    ∙ lone-expr name h body (added h (written_part (place_uses name to) (place_written to)) G)
    ∙ ap (in_expr name h body) (place-is name h to G)

pub walk-Procedure : (name : Name) (h : Bool) (callee : Named) (args : List Expr) (G : Gathered) → of_stmt name h (w.Call callee args) G ≡ list_exprs name h args G
unfolding of_stmt stmt_uses in_stmt
walk-Procedure name h callee args G = exprs-are name h args G

pub walk-If : (name : Name) (h : Bool) (arms : List Arm) (otherwise : List Stmt) (at : Span) (G : Gathered) → of_stmt name h (w.If arms otherwise at) G ≡ list_stmts name h otherwise (list_arms name h arms G)
unfolding of_stmt stmt_uses in_stmt
walk-If name h arms otherwise at G =
    let row = hidden-the_row-Arm-1 arms in
    in-turn h (arms_uses name row) (row_uses name (hidden-the_row-Stmt-0 otherwise)) (in_arms row) (in_row (hidden-the_row-Stmt-0 otherwise)) G
    ∙ hidden-row name h otherwise (added h (written_part (arms_uses name row) (in_arms row)) G)
    ∙ ap (list_stmts name h otherwise) (arms-are name h row G ∙ ap (λ l. list_arms name h l G) (items_hidden-the_row-Arm-1 arms))

pub walk-Switch : (name : Name) (h : Bool) (on : Expr) (cases : List Case) (otherwise : List Stmt) (at : Span) (G : Gathered) → of_stmt name h (w.Switch on cases otherwise at) G ≡ list_stmts name h otherwise (list_cases name h cases (in_expr name h on G))
unfolding of_stmt stmt_uses in_stmt
walk-Switch name h on cases otherwise at G =
    let row = hidden-the_row-Case-2 cases in
    let K = in_expr name h on G in
    expr-first name h on (cases_uses name row ++ row_uses name (hidden-the_row-Stmt-0 otherwise)) (in_cases row ++ in_row (hidden-the_row-Stmt-0 otherwise)) G
    ∙ in-turn h (cases_uses name row) (row_uses name (hidden-the_row-Stmt-0 otherwise)) (in_cases row) (in_row (hidden-the_row-Stmt-0 otherwise)) K
    ∙ hidden-row name h otherwise (added h (written_part (cases_uses name row) (in_cases row)) K)
    ∙ ap (list_stmts name h otherwise) (cases-are name h row K ∙ ap (λ l. list_cases name h l K) (items_hidden-the_row-Case-2 cases))

pub walk-For : (name : Name) (h : Bool) (bind : Bind) (body : List Stmt) (at : Span) (G : Gathered) → of_stmt name h (w.For bind body at) G ≡ list_stmts name (hidden_by h name bind.name) body (in_type name h bind.over G)
unfolding of_stmt stmt_uses in_stmt
walk-For name h bind body at G =
    let row = hidden-the_row-Stmt-0 body in
    type-first name h bind.over (unless_hidden name bind.name (row_uses name row)) (in_row row) G
    ∙ hid h name bind.name (written_part (row_uses name row) (in_row row)) (in_type name h bind.over G)
    ∙ hidden-row name (hidden_by h name bind.name) body (in_type name h bind.over G)

pub walk-Clear : (name : Name) (h : Bool) (d : Designator) (at : Span) (G : Gathered) → of_stmt name h (w.Clear d at) G ≡ in_place name h d G
unfolding of_stmt stmt_uses in_stmt
walk-Clear name h d at G = place-is name h d G

pub walk-Undefine : (name : Name) (h : Bool) (d : Designator) (at : Span) (G : Gathered) → of_stmt name h (w.Undefine d at) G ≡ in_place name h d G
unfolding of_stmt stmt_uses in_stmt
walk-Undefine name h d at G = place-is name h d G

pub walk-Error : (name : Name) (h : Bool) (at : Span) (G : Gathered) → of_stmt name h (w.Error at) G ≡ G
unfolding of_stmt stmt_uses in_stmt
walk-Error name h at G = nothing h G

pub walk-Assert : (name : Name) (h : Bool) (test : Expr) (at : Span) (G : Gathered) → of_stmt name h (w.Assert test at) G ≡ in_expr name h test G
unfolding of_stmt stmt_uses in_stmt
walk-Assert name h test at G = lone-expr name h test G

pub walk-Put : (name : Name) (h : Bool) (o : Option Expr) (at : Span) (G : Gathered) → of_stmt name h (w.Put o at) G ≡ of_option name h o G
unfolding of_stmt stmt_uses in_stmt
walk-Put name h o at G = option-is name h o G

pub walk-Return : (name : Name) (h : Bool) (o : Option Expr) (at : Span) (G : Gathered) → of_stmt name h (w.Return o at) G ≡ of_option name h o G
unfolding of_stmt stmt_uses in_stmt
walk-Return name h o at G = option-is name h o G

pub ruleset bodies = (walk-Assign, walk-Procedure, walk-If, walk-Switch, walk-For, walk-Clear, walk-Undefine, walk-Error, walk-Assert, walk-Put, walk-Return, the_lemmas)

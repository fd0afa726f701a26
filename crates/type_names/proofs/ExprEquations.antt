-- What is gathered of each form, in terms of the parts that code reads.
use Rattle.std.proofs.Common.{◌≡◌, ℕ, Bool, List, [], ◌∷◌, ◌++◌, refl, ap, sym, ◌∙◌}
use denote.Hole.Carrier.{hidden}
use Rattle.murphi_ast.specs.declared.token.Span.{Span}
use Rattle.murphi_ast.specs.declared.expr.Named.{Named}
use Rattle.murphi_ast.specs.declared.expr.CompareOp.{CompareOp}
use Rattle.murphi_ast.specs.declared.expr.Bind.{Bind}
use Rattle.murphi_ast.specs.declared.expr.Link.{Link}
use Rattle.murphi_ast.specs.declared.expr.FieldDecl.{FieldDecl}
use Rattle.murphi_ast.specs.declared.expr.Designator.{Designator}
use Rattle.murphi_ast.specs.declared.expr.Selector as part
use Rattle.murphi_ast.specs.declared.expr.Selector.{Selector}
use Rattle.murphi_ast.specs.declared.expr.Expr as e
use Rattle.murphi_ast.specs.declared.expr.Expr.{Expr, Row_of-Expr, end_of-Expr, more_of-Expr, items-the_row-Expr, items_hidden-the_row-Expr-1, Row_of-Link, end_of-Link, more_of-Link, items-the_row-Link, items_hidden-the_row-Link-3, Row_of-Selector, end_of-Selector, more_of-Selector, items-the_row-Selector, items_hidden-the_row-Selector-0, the_lemmas}
use Rattle.murphi_ast.specs.declared.expr.TypeExpr as t
use Rattle.murphi_ast.specs.declared.expr.TypeExpr.{TypeExpr, Row_of-FieldDecl, end_of-FieldDecl, more_of-FieldDecl, items-the_row-FieldDecl, items_hidden-the_row-FieldDecl-5}
use Rattle.murphi_ast.specs.declared.expr.Expr.TheBlock.{shape-the_row-Expr-2, hidden-the_row-Expr-2, hidden-the_row-Link-3, hidden-the_row-Selector-0, hidden-the_row-Expr-1, shape-the_row-Bind-4, hidden-the_row-Bind-4, shape-the_row-TypeExpr-6, hidden-the_row-TypeExpr-6, hidden-the_row-FieldDecl-5}
use Rattle.murphi_typed.specs.Families.{Name}
use Rattle.murphi_types.specs.Repeats.{enum_names, link_enums, selector_enums, argument_enums, type_enums, field_enums, field_repeats, link_repeats, selector_repeats, argument_repeats, type_repeats, fields_repeats, field_names, repeats_in}
use Rattle.murphi_types.specs.Uses.{use_at, unless_hidden, uses_in, link_uses, selector_uses, argument_uses, type_uses, field_uses}
use Rattle.type_names.specs.declared.gathered.Gathered.{Gathered}
use Rattle.type_names.specs.Scoping.{no_names, all_declared, names_of_fields, fields_declared}
use Rattle.type_names.specs.Parts.{Part, no_part, join, added, hidden_by, expr_part, type_part}
use Rattle.type_names.specs.Gathering.{in_expr, in_type, with_use, with_names, with_fault, list_links, in_selector, list_selectors, in_place, list_exprs, list_fields, in_record}
use Rattle.type_names.proofs.ScopeLemmas.{fields-are, repeats-in-are}
use Rattle.type_names.proofs.PartLemmas.{joined, nothing, use_part, names_part, faults_part, used, named, faulty, hiding, hid}

-- Rows

abbrev links_part : {n : _} → Name → Row_of-Link n → Part
links_part name row = record { uses = link_uses name row; names = link_enums row; faults = link_repeats row }

abbrev selectors_part : {n : _} → Name → Row_of-Selector n → Part
selectors_part name row = record { uses = selector_uses name row; names = selector_enums row; faults = selector_repeats row }

abbrev exprs_part : {n : _} → Name → Row_of-Expr n → Part
exprs_part name row = record { uses = argument_uses name row; names = argument_enums row; faults = argument_repeats row }

abbrev fields_part : {n : _} → Name → Row_of-FieldDecl n → Part
fields_part name row = record { uses = field_uses name row; names = field_enums row; faults = fields_repeats row }

links-are : {n : _} (name : Name) (h : Bool) (row : Row_of-Link n) (G : Gathered) → added h (links_part name row) G ≡ list_links name h (items-the_row-Link n row) G
unfolding in_expr uses_in enum_names field_repeats
links-are name h end_of-Link G = nothing h G
links-are name h (more_of-Link op operand rest) G =
    joined h (expr_part name operand) (links_part name rest) G ∙ links-are name h rest (added h (expr_part name operand) G)

selectors-are : {n : _} (name : Name) (h : Bool) (row : Row_of-Selector n) (G : Gathered) → added h (selectors_part name row) G ≡ list_selectors name h (items-the_row-Selector n row) G
unfolding in_expr uses_in enum_names field_repeats
selectors-are name h end_of-Selector G = nothing h G
selectors-are name h (more_of-Selector (part.Field field) rest) G = selectors-are name h rest G
selectors-are name h (more_of-Selector (part.Index index) rest) G =
    joined h (expr_part name index) (selectors_part name rest) G ∙ selectors-are name h rest (added h (expr_part name index) G)

exprs-are : {n : _} (name : Name) (h : Bool) (row : Row_of-Expr n) (G : Gathered) → added h (exprs_part name row) G ≡ list_exprs name h (items-the_row-Expr n row) G
unfolding in_expr uses_in enum_names field_repeats
exprs-are name h end_of-Expr G = nothing h G
exprs-are name h (more_of-Expr first rest) G =
    joined h (expr_part name first) (exprs_part name rest) G ∙ exprs-are name h rest (added h (expr_part name first) G)

fields-row-are : {n : _} (name : Name) (h : Bool) (row : Row_of-FieldDecl n) (G : Gathered) → added h (fields_part name row) G ≡ list_fields name h (items-the_row-FieldDecl n row) G
unfolding in_type uses_in enum_names field_repeats
fields-row-are name h end_of-FieldDecl G = nothing h G
fields-row-are name h (more_of-FieldDecl names body rest) G =
    joined h (type_part name body) (fields_part name rest) G ∙ fields-row-are name h rest (added h (type_part name body) G)

row-names : {n : _} (row : Row_of-FieldDecl n) → field_names row ≡ names_of_fields (items-the_row-FieldDecl n row)
row-names end_of-FieldDecl = refl
row-names (more_of-FieldDecl names body rest) = ap (λ ns. names ++ ns) (row-names rest)

-- Expressions

pub walk-Number : (name : Name) (h : Bool) (n : ℕ) (at : Span) (G : Gathered) → in_expr name h (e.Number n at) G ≡ G
unfolding in_expr uses_in enum_names field_repeats
walk-Number name h n at G = nothing h G

pub walk-Truth : (name : Name) (h : Bool) (b : Bool) (at : Span) (G : Gathered) → in_expr name h (e.Truth b at) G ≡ G
unfolding in_expr uses_in enum_names field_repeats
walk-Truth name h b at G = nothing h G

place-is : (name : Name) (h : Bool) (root : Named) (xs : List Selector) (G : Gathered) → added h (join (use_part (use_at name root)) (selectors_part name (hidden-the_row-Selector-0 xs))) G ≡ list_selectors name h xs (with_use name h root G)
place-is name h root xs G =
    joined h (use_part (use_at name root)) (selectors_part name (hidden-the_row-Selector-0 xs)) G
    ∙ selectors-are name h (hidden-the_row-Selector-0 xs) (added h (use_part (use_at name root)) G)
    ∙ ap (λ ss. list_selectors name h ss (added h (use_part (use_at name root)) G)) (items_hidden-the_row-Selector-0 xs)
    ∙ ap (list_selectors name h xs) (used h name root G)

pub walk-Place : (name : Name) (h : Bool) (d : Designator) (G : Gathered) → in_expr name h (e.Place d) G ≡ in_place name h d G
unfolding in_expr uses_in enum_names field_repeats
walk-Place name h d G = place-is name h d.root d.selectors G

pub walk-IsUndefined : (name : Name) (h : Bool) (d : Designator) (at : Span) (G : Gathered) → in_expr name h (e.IsUndefined d at) G ≡ in_place name h d G
unfolding in_expr uses_in enum_names field_repeats
walk-IsUndefined name h d at G = place-is name h d.root d.selectors G

pub walk-Call : (name : Name) (h : Bool) (callee : Named) (args : List Expr) (G : Gathered) → in_expr name h (e.Call callee args) G ≡ list_exprs name h args G
unfolding in_expr uses_in enum_names field_repeats
walk-Call name h callee args G =
    exprs-are name h (hidden-the_row-Expr-1 args) G ∙ ap (λ es. list_exprs name h es G) (items_hidden-the_row-Expr-1 args)

pub walk-Not : (name : Name) (h : Bool) (body : Expr) (at : Span) (G : Gathered) → in_expr name h (e.Not body at) G ≡ in_expr name h body G
unfolding in_expr uses_in enum_names field_repeats shape-the_row-Expr-2 hidden-the_row-Expr-2 hidden
walk-Not name h body at G = refl

pub walk-Minus : (name : Name) (h : Bool) (body : Expr) (at : Span) (G : Gathered) → in_expr name h (e.Minus body at) G ≡ in_expr name h body G
unfolding in_expr uses_in enum_names field_repeats shape-the_row-Expr-2 hidden-the_row-Expr-2 hidden
walk-Minus name h body at G = refl

pub walk-Chain : (name : Name) (h : Bool) (first : Expr) (rest : List Link) (G : Gathered) → in_expr name h (e.Chain first rest) G ≡ list_links name h rest (in_expr name h first G)
unfolding in_expr uses_in enum_names field_repeats shape-the_row-Expr-2 hidden-the_row-Expr-2 hidden
walk-Chain name h first rest G =
    joined h (expr_part name first) (links_part name (hidden-the_row-Link-3 rest)) G
    ∙ links-are name h (hidden-the_row-Link-3 rest) (added h (expr_part name first) G)
    ∙ ap (λ ls. list_links name h ls (added h (expr_part name first) G)) (items_hidden-the_row-Link-3 rest)

pub walk-Compare : (name : Name) (h : Bool) (op : CompareOp) (a b : Expr) (G : Gathered) → in_expr name h (e.Compare op a b) G ≡ in_expr name h b (in_expr name h a G)
unfolding in_expr uses_in enum_names field_repeats shape-the_row-Expr-2 hidden-the_row-Expr-2 hidden
walk-Compare name h op a b G = joined h (expr_part name a) (expr_part name b) G

pub walk-Implies : (name : Name) (h : Bool) (a b : Expr) (G : Gathered) → in_expr name h (e.Implies a b) G ≡ in_expr name h b (in_expr name h a G)
unfolding in_expr uses_in enum_names field_repeats shape-the_row-Expr-2 hidden-the_row-Expr-2 hidden
walk-Implies name h a b G = joined h (expr_part name a) (expr_part name b) G

pub walk-Choice : (name : Name) (h : Bool) (test a b : Expr) (G : Gathered) → in_expr name h (e.Choice test a b) G ≡ in_expr name h b (in_expr name h a (in_expr name h test G))
unfolding in_expr uses_in enum_names field_repeats shape-the_row-Expr-2 hidden-the_row-Expr-2 hidden
walk-Choice name h test a b G =
    joined h (expr_part name test) (join (expr_part name a) (expr_part name b)) G
    ∙ joined h (expr_part name a) (expr_part name b) (added h (expr_part name test) G)

pub walk-Quantified : (name : Name) (h all : Bool) (bind : Bind) (body : Expr) (at : Span) (G : Gathered) → in_expr name h (e.Quantified all bind body at) G ≡ in_expr name (hidden_by h name bind.name) body (in_type name h bind.over G)
unfolding in_expr in_type uses_in enum_names field_repeats shape-the_row-Expr-2 hidden-the_row-Expr-2 shape-the_row-Bind-4 hidden-the_row-Bind-4 hidden
walk-Quantified name h all bind body at G =
    joined h (type_part name bind.over) (hiding name bind.name (expr_part name body)) G
    ∙ hid h name bind.name (expr_part name body) (added h (type_part name bind.over) G)

-- Types

pub walk-Known : (name : Name) (h : Bool) (n : Named) (G : Gathered) → in_type name h (t.Known n) G ≡ G
unfolding in_type uses_in enum_names field_repeats
walk-Known name h n G = nothing h G

pub walk-Boolean : (name : Name) (h : Bool) (at : Span) (G : Gathered) → in_type name h (t.Truth at) G ≡ G
unfolding in_type uses_in enum_names field_repeats
walk-Boolean name h at G = nothing h G

pub walk-Range : (name : Name) (h : Bool) (a b : Expr) (G : Gathered) → in_type name h (t.Range a b) G ≡ in_expr name h b (in_expr name h a G)
unfolding in_expr in_type uses_in enum_names field_repeats shape-the_row-Expr-2 hidden-the_row-Expr-2 hidden
walk-Range name h a b G = joined h (expr_part name a) (expr_part name b) G

pub walk-Listed : (name : Name) (h : Bool) (names : List Named) (at : Span) (G : Gathered) → in_type name h (t.Listed names at) G ≡ with_names names G
unfolding in_type uses_in enum_names field_repeats
walk-Listed name h names at G = named h names G

pub walk-Scalarset : (name : Name) (h : Bool) (size : Expr) (at : Span) (G : Gathered) → in_type name h (t.Scalarset size at) G ≡ in_expr name h size G
unfolding in_expr in_type uses_in enum_names field_repeats shape-the_row-Expr-2 hidden-the_row-Expr-2 hidden
walk-Scalarset name h size at G = refl

pub walk-Fields : (name : Name) (h : Bool) (fs : List FieldDecl) (at : Span) (G : Gathered) → in_type name h (t.Fields fs at) G ≡ in_record name h fs G
unfolding in_type uses_in enum_names field_repeats
walk-Fields name h fs at G =
    let row = hidden-the_row-FieldDecl-5 fs in
    let faults = faults_part (repeats_in (field_names row)) in
    joined h faults (fields_part name row) G
    ∙ fields-row-are name h row (added h faults G)
    ∙ ap (λ l. list_fields name h l (added h faults G)) (items_hidden-the_row-FieldDecl-5 fs)
    ∙ ap (list_fields name h fs) (faulty h (repeats_in (field_names row)) (fields_declared no_names fs).fault G
    (sym (repeats-in-are (field_names row)) ∙ ap (λ ns. (all_declared no_names ns).fault) (row-names row ∙ ap names_of_fields (items_hidden-the_row-FieldDecl-5 fs)) ∙ ap (λ D. D.fault) (sym (fields-are no_names fs))))

pub walk-Array : (name : Name) (h : Bool) (a b : TypeExpr) (at : Span) (G : Gathered) → in_type name h (t.Array a b at) G ≡ in_type name h b (in_type name h a G)
unfolding in_type uses_in enum_names field_repeats shape-the_row-TypeExpr-6 hidden-the_row-TypeExpr-6 hidden
walk-Array name h a b at G = joined h (type_part name a) (type_part name b) G

pub ruleset expressions = (walk-Number, walk-Truth, walk-Place, walk-IsUndefined, walk-Call, walk-Not, walk-Minus, walk-Chain, walk-Compare, walk-Implies, walk-Choice, walk-Quantified, walk-Known, walk-Boolean, walk-Range, walk-Listed, walk-Scalarset, walk-Fields, walk-Array, the_lemmas)

-- Each form of item, in terms of the parts that code reads.
use Rattle.std.proofs.Common.{◌≡◌, List, Option, None, refl, ap, sym, ◌∙◌}
use Rattle.murphi_ast.specs.declared.token.Span.{Span}
use Rattle.murphi_ast.specs.declared.text.Text.{Text}
use Rattle.murphi_ast.specs.declared.expr.Expr.{Expr}
use Rattle.murphi_ast.specs.declared.expr.Bind.{Bind}
use Rattle.murphi_ast.specs.declared.stmt.Stmt.{Stmt}
use Rattle.murphi_ast.specs.declared.decl.Decl.{Decl}
use Rattle.murphi_ast.specs.declared.rule.RuleDecl as r
use Rattle.murphi_ast.specs.declared.rule.RuleDecl.{RuleDecl, Row_of-RuleDecl, end_of-RuleDecl, more_of-RuleDecl, items-the_row-RuleDecl, items_hidden-the_row-RuleDecl-0, the_lemmas}
use Rattle.murphi_ast.specs.declared.rule.RuleDecl.TheBlock.{hidden-the_row-RuleDecl-0}
use Rattle.murphi_typed.specs.Families.{Name}
use Rattle.murphi_typed.specs.declared.protocol.Routine.{Routine}
use Rattle.murphi_types.specs.Items.{past_of}
use Rattle.murphi_typed.specs.declared.protocol.Parameter.{Parameter}
use Rattle.type_items.specs.declared.gathered.Inside.{Inside}
use Rattle.type_items.specs.declared.rulesets.Mark.{Mark}
use Rattle.type_items.specs.declared.gathered.Gathered.{Gathered}
use Rattle.type_items.specs.Bodies.{bodied_with, claimed_with}
use Rattle.type_items.specs.Rulesets.{list_binds, seen, mark_of}
use Rattle.type_items.specs.Gathering.{rule_done, start_done, invariant_done, left, entered, item_with, row_with, list_with}

pub item-Rule : (rs : List Routine) (past : Option Span) (size : Option Name) (title : Option Text) (guard : Option Expr) (locals : List Decl) (body : List Stmt) (at : Span) (G : Gathered) →
    item_with rs past size (r.Rule title guard locals body at) G ≡ rule_done rs past title at (bodied_with G.inside guard locals body) G.made
unfolding item_with
item-Rule rs past size title guard locals body at G = refl

pub item-Start : (rs : List Routine) (past : Option Span) (size : Option Name) (title : Option Text) (locals : List Decl) (body : List Stmt) (at : Span) (G : Gathered) →
    item_with rs past size (r.Start title locals body at) G ≡ start_done rs past title at (bodied_with G.inside None locals body) G.made
unfolding item_with
item-Start rs past size title locals body at G = refl

pub item-Invariant : (rs : List Routine) (past : Option Span) (size : Option Name) (title : Option Text) (body : Expr) (at : Span) (G : Gathered) →
    item_with rs past size (r.Invariant title body at) G ≡ invariant_done rs size title body at (claimed_with G.inside body) G.made
unfolding item_with
item-Invariant rs past size title body at G = refl

row-is : {n : _} (rs : List Routine) (past : Option Span) (size : Option Name) (row : Row_of-RuleDecl n) (G : Gathered) →
    row_with rs past size row G ≡ list_with rs past size (items-the_row-RuleDecl n row) G
unfolding item_with
row-is rs past size end_of-RuleDecl G = refl
row-is rs past size (more_of-RuleDecl one rest) G = row-is rs past size rest (item_with rs past size one G)

pub item-Group : (rs : List Routine) (past : Option Span) (size : Option Name) (binds : List Bind) (inner : List RuleDecl) (at : Span) (G : Gathered) →
    item_with rs past size (r.Group binds inner at) G ≡ left (mark_of G.inside) (list_with rs (past_of past binds (list_binds binds G.inside).params) (seen binds size None) inner (entered binds G))
unfolding item_with
item-Group rs past size binds inner at G =
    ap (left (mark_of G.inside))
    (row-is rs (past_of past binds (list_binds binds G.inside).params) (seen binds size None) (hidden-the_row-RuleDecl-0 inner) (entered binds G)
    ∙ ap (λ xs. list_with rs (past_of past binds (list_binds binds G.inside).params) (seen binds size None) xs (entered binds G)) (items_hidden-the_row-RuleDecl-0 inner))

-- what the calls for a ruleset say, put together
pub group-done : (rs : List Routine) (past : Option Span) (size : Option Name) (one : RuleDecl) (binds : List Bind) (inner : List RuleDecl) (at : Span) (G : Gathered) (m : Mark) (bs bs' bs'' : List Bind) (ps : List Parameter) (I : Inside) (p : Option Span) (sz : Option Name) (all : List RuleDecl) (D L : Gathered) →
    one ≡ r.Group binds inner at → m ≡ mark_of G.inside → bs ≡ binds → I ≡ list_binds bs G.inside → bs' ≡ binds → ps ≡ I.params → p ≡ past_of past bs' ps →
    bs'' ≡ binds → sz ≡ seen bs'' size None → all ≡ inner → D ≡ list_with rs p sz all (record { inside = I; made = G.made }) → L ≡ left m D →
    L ≡ item_with rs past size one G
group-done rs past size one binds inner at G m bs bs' bs'' ps I p sz all D L is mark named enters again params passes once hides same listed leaves =
    let bound : I ≡ list_binds binds G.inside = enters ∙ ap (λ xs. list_binds xs G.inside) named in
    let passed : p ≡ past_of past binds (list_binds binds G.inside).params =
    passes ∙ ap (λ xs. past_of past xs ps) again ∙ ap (past_of past binds) (params ∙ ap (λ (J : Inside). J.params) bound) in
    let hidden-is : sz ≡ seen binds size None = hides ∙ ap (λ xs. seen xs size None) once in
    let within : Inside → Gathered = λ J. record { inside = J; made = G.made } in
    leaves
    ∙ ap (λ k. left k D) mark
    ∙ ap (left (mark_of G.inside))
    (listed
    ∙ ap (λ xs. list_with rs p sz xs (within I)) same
    ∙ ap (λ o. list_with rs o sz inner (within I)) passed
    ∙ ap (λ o. list_with rs (past_of past binds (list_binds binds G.inside).params) o inner (within I)) hidden-is
    ∙ ap (λ J. list_with rs (past_of past binds (list_binds binds G.inside).params) (seen binds size None) inner (within J)) bound)
    ∙ sym (item-Group rs past size binds inner at G)
    ∙ sym (ap (λ x. item_with rs past size x G) is)

pub ruleset forms = (item-Rule, item-Start, item-Invariant, item-Group, the_lemmas)

-- Parts of forms that a function reads, where the grammar has no name for them, and what it makes of them.
-- Mechanism.
use Rattle.std.specs.Prelude.{◌≡◌, ℕ, Bool, List, [], ◌∷◌, ◌++◌, ◌⊎◌, Option, None, Some, Result, Ok, Err}
use Rattle.std.proofs.Common.{inl, inr}
use Rattle.grammar_core.specs.Forms.{TreeOf}
use Rattle.murphi_ast.specs.declared.text.Text.{Text}
use Rattle.murphi_ast.specs.declared.token.Token.{Token}
use Rattle.murphi_ast.specs.declared.expr.Named.{Named}
use Rattle.murphi_ast.specs.declared.expr.Expr.{Expr}
use Rattle.murphi_ast.specs.declared.expr.Bind.{Bind}
use Rattle.murphi_ast.specs.declared.stmt.Arm.{Arm}
use Rattle.murphi_ast.specs.declared.stmt.Case.{Case}
use Rattle.murphi_ast.specs.declared.stmt.Stmt as s
use Rattle.murphi_ast.specs.declared.stmt.Stmt.{Stmt}
use Rattle.murphi_ast.specs.declared.decl.Decl as d
use Rattle.murphi_ast.specs.declared.decl.Decl.{Decl}
use Rattle.murphi_ast.specs.declared.decl.Formal.{Formal}
use Rattle.murphi_ast.specs.declared.rule.RuleDecl as r
use Rattle.murphi_ast.specs.declared.rule.RuleDecl.{RuleDecl}
use Rattle.murphi_grammar.specs.declared.symbol.Symbol.TheVariants as t
use Rattle.murphi_grammar.specs.Names as n
use Rattle.murphi_grammar.specs.Parts.{Part, ◌▸◌, ◌∥◌, one, form, nest, optional, ending}
use Rattle.murphi_grammar.specs.Pieces.{cut}
use Rattle.murphi_grammar.specs.Values.{Value, named}
use Rattle.murphi_expressions.specs.Says.{Passes, Takes, itself}
use Rattle.murphi_expressions.specs.declared.step.Stop.{Stop}
use Rattle.murphi_expressions.specs.declared.step.Stop.TheVariants.{Memory}

-- more of a list, behind what stands in front of it
unfoldable pub after : {A : Type 0} → List A → List A → List A
after front more = front ++ more

-- what is there of an optional form
abbrev pub option_of : {A : Type 0} → A ⊎ Unit {0} → Option A
option_of (inl x) = Some x
option_of (inr _) = None

unfoldable pub stmt_option : Stmt ⊎ Unit {0} → Option Stmt
stmt_option (inl x) = Some x
stmt_option (inr _) = None

unfoldable pub item_option : RuleDecl ⊎ Unit {0} → Option RuleDecl
item_option (inl x) = Some x
item_option (inr _) = None

abbrev pub added : {A : Type 0} → Option A → List A
added (Some x) = x ∷ []
added None = []

-- what is answered of an optional title
unfoldable pub SaysTitle : List Token → ℕ → Result (Option Text × ℕ) Stop → Type 0
SaysTitle ts at r = Takes (cut n.Title) itself ts at r

-- declarations behind one word, or a routine
abbrev pub decls_of : List Decl ⊎ Decl → List Decl
decls_of (inl xs) = xs
decls_of (inr x) = x ∷ []

-- more at the end of a list, or want of memory
abbrev pub Joined : {A : Type 0} → List A → List A → List A → Result (Unit {0}) Stop → Type 0
Joined old more new (Ok _) = new ≡ old ++ more
Joined old more new (Err e) = e ≡ Memory

-- `name : expr ;`, `name : type ;` and `names : type ;`
abbrev pub constant_form : Part
constant_form = one t.Name ▸ one t.Colon ▸ form n.Expr ▸ one t.Semicolon

abbrev pub type_name_form : Part
type_name_form = one t.Name ▸ one t.Colon ▸ form n.TypeForm ▸ one t.Semicolon

abbrev pub variables_form : Part
variables_form = form n.NameList ▸ one t.Colon ▸ form n.TypeForm ▸ one t.Semicolon

-- what stands behind the first name of a statement
unfoldable pub named_stmt_of : Named → Value (n.Cut n.StmtRest) → Stmt
named_stmt_of root (inl args) = s.Call root args
named_stmt_of root (inr (sels, value)) = s.Assign (record { root = root; selectors = sels }) value

-- the last four of the forms of a statement
abbrev pub simple_form : Part
simple_form =
    one t.Error ▸ one t.Quoted ∥
    one t.Assert ▸ form n.Expr ▸ optional (one t.Quoted) ∥
    one t.Put ▸ (one t.Quoted ∥ form n.Expr) ∥
    one t.Return ▸ optional (form n.Expr)

abbrev pub simple_of : TreeOf Token Value simple_form → Stmt
simple_of (inl (x, _)) = s.Error x.at
simple_of (inr (inl (x, (test, _)))) = s.Assert test x.at
simple_of (inr (inr (inl (x, inl _)))) = s.Put None x.at
simple_of (inr (inr (inl (x, inr value)))) = s.Put (Some value) x.at
simple_of (inr (inr (inr (x, inl value)))) = s.Return (Some value) x.at
simple_of (inr (inr (inr (x, inr _)))) = s.Return None x.at

-- statements that hold statements
abbrev pub if_form : Part
if_form = nest t.If (cut n.IfArm ▸ cut n.MoreArms ▸ cut n.Otherwise ▸ ending t.EndIf)

abbrev pub if_of : TreeOf Token Value if_form → Stmt
if_of (x, (arm, (arms, (last, _)))) = s.If (arm ∷ arms) last x.at

abbrev pub switch_form : Part
switch_form = nest t.Switch (form n.Expr ▸ cut n.Cases ▸ cut n.Otherwise ▸ ending t.EndSwitch)

abbrev pub switch_of : TreeOf Token Value switch_form → Stmt
switch_of (x, (on, (cases, (last, _)))) = s.Switch on cases last x.at

abbrev pub for_form : Part
for_form = nest t.For (form n.Bind ▸ one t.Do ▸ form n.Stmts ▸ ending t.EndFor)

abbrev pub for_of : TreeOf Token Value for_form → Stmt
for_of (x, (bind, (_, (body, _)))) = s.For bind body x.at

-- `names : type` of a formal
abbrev pub formal_rest : Part
formal_rest = form n.NameList ▸ one t.Colon ▸ form n.TypeForm

abbrev pub formal_of : Bool → TreeOf Token Value formal_rest → Formal
formal_of by_place (xs, (_, body)) = record { by_place = by_place; names = xs; body = body }

-- routines
abbrev pub procedure_form : Part
procedure_form =
    nest t.Procedure (one t.Name ▸ cut n.FormalsIn ▸ one t.Semicolon ▸
    form n.Body ▸ ending t.EndProcedure ▸ one t.Semicolon)

abbrev pub procedure_of : TreeOf Token Value procedure_form → Decl
procedure_of (_, (x, (fs, (_, ((ds, ss), _))))) =
    d.Routine (record { name = named x; formals = fs; result = None; locals = ds; body = ss })

abbrev pub function_form : Part
function_form =
    nest t.Function (one t.Name ▸ cut n.FormalsIn ▸ one t.Colon ▸ form n.TypeForm ▸ one t.Semicolon ▸
    form n.Body ▸ ending t.EndFunction ▸ one t.Semicolon)

abbrev pub function_of : TreeOf Token Value function_form → Decl
function_of (_, (x, (fs, (_, (result, (_, ((ds, ss), _))))))) =
    d.Routine (record { name = named x; formals = fs; result = Some result; locals = ds; body = ss })

-- a ruleset
abbrev pub group_form : Part
group_form =
    nest t.RuleSet (form n.Bind ▸ cut n.MoreBinds ▸ one t.Do ▸ form n.Items ▸ ending t.EndRuleSet)

abbrev pub group_of : TreeOf Token Value group_form → RuleDecl
group_of (x, (b, (bs, (_, (is, _))))) = r.Group (b ∷ bs) is x.at

-- so many semicolons were read so far
unfoldable pub GapsSoFar : List Token → ℕ → ℕ → Type 0
GapsSoFar ts from at = (end : ℕ) → Passes (cut n.Gaps) ts at (Ok end) → Passes (cut n.Gaps) ts from (Ok end)

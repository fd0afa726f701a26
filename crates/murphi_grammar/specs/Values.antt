-- What the forms of the grammar give, and how parts are put together.
use Rattle.std.specs.Prelude.{Bool, true, false, List, [], ◌∷◌, ◌++◌, ◌⊎◌, Option, None, Some, map}
use Rattle.std.proofs.Common.{inl, inr}
use Rattle.grammar_core.specs.Forms.{Form, One, Empty, Seq, Choice, Many, Nest, Call, Grammar, TreeOf}
use Rattle.murphi_ast.specs.declared.token.Token.{Token}
use Rattle.murphi_ast.specs.declared.text.Text.{Text}
use Rattle.murphi_ast.specs.declared.expr.Named.{Named}
use Rattle.murphi_ast.specs.declared.expr.ChainOp.{ChainOp}
use Rattle.murphi_ast.specs.declared.expr.ChainOp.TheVariants as chain
use Rattle.murphi_ast.specs.declared.expr.CompareOp.{CompareOp}
use Rattle.murphi_ast.specs.declared.expr.CompareOp.TheVariants as compare
use Rattle.murphi_ast.specs.declared.expr.Designator.{Designator}
use Rattle.murphi_ast.specs.declared.expr.Selector as selector
use Rattle.murphi_ast.specs.declared.expr.Selector.{Selector}
use Rattle.murphi_ast.specs.declared.expr.Bind.{Bind}
use Rattle.murphi_ast.specs.declared.expr.FieldDecl.{FieldDecl}
use Rattle.murphi_ast.specs.declared.expr.Link.{Link}
use Rattle.murphi_ast.specs.declared.expr.TypeExpr as type
use Rattle.murphi_ast.specs.declared.expr.TypeExpr.{TypeExpr}
use Rattle.murphi_ast.specs.declared.expr.Expr as e
use Rattle.murphi_ast.specs.declared.expr.Expr.{Expr}
use Rattle.murphi_ast.specs.declared.stmt.Stmt as s
use Rattle.murphi_ast.specs.declared.stmt.Stmt.{Stmt}
use Rattle.murphi_ast.specs.declared.stmt.Arm.{Arm}
use Rattle.murphi_ast.specs.declared.stmt.Case.{Case}
use Rattle.murphi_ast.specs.declared.decl.Decl as d
use Rattle.murphi_ast.specs.declared.decl.Decl.{Decl}
use Rattle.murphi_ast.specs.declared.decl.Formal.{Formal}
use Rattle.murphi_ast.specs.declared.rule.RuleDecl as r
use Rattle.murphi_ast.specs.declared.rule.RuleDecl.{RuleDecl}
use Rattle.murphi_ast.specs.declared.rule.Protocol.{Protocol}
use Rattle.murphi_ast.specs.declared.job.Lemma.{Lemma}
use Rattle.murphi_ast.specs.declared.job.Event.{Event}
use Rattle.murphi_ast.specs.declared.job.Flow.{Flow}
use Rattle.murphi_grammar.specs.declared.symbol.Symbol.{Symbol}
use Rattle.murphi_grammar.specs.declared.symbol.Symbol.TheVariants as t
use Rattle.murphi_grammar.specs.Names.{Name, Piece}
use Rattle.murphi_grammar.specs.Names as n

-- what stands behind a name: arguments, or fields and indices
abbrev pub NameTail : Type 0
NameTail = List Expr ⊎ List Selector

-- what each piece gives
abbrev pub PieceValue : Piece → Type 0
PieceValue n.Declarations = List Decl
PieceValue n.Gaps = Unit {0}
PieceValue n.MoreItems = List RuleDecl
PieceValue n.Constants = List Decl
PieceValue n.TypeNames = List Decl
PieceValue n.VariableLists = List Decl
PieceValue n.MoreNames = List Named
PieceValue n.FormalsIn = List Formal
PieceValue n.MoreFormals = List Formal
PieceValue n.Locals = List Decl
PieceValue n.Title = Option Text
PieceValue n.MoreBinds = List Bind
PieceValue n.BindRest = TypeExpr
PieceValue n.MoreStmts = List Stmt
PieceValue n.StmtRest = List Expr ⊎ (List Selector × Expr)
PieceValue n.IfArm = Arm
PieceValue n.MoreArms = List Arm
PieceValue n.CaseArm = Case
PieceValue n.Cases = List Case
PieceValue n.MoreLabels = List Expr
PieceValue n.Otherwise = List Stmt
PieceValue n.Arguments = List Expr
PieceValue n.MoreArgs = List Expr
PieceValue n.OrLinks = List Link
PieceValue n.AndLinks = List Link
PieceValue n.SumLinks = List Link
PieceValue n.ProductLinks = List Link
PieceValue n.CompareSign = CompareOp
PieceValue n.SumSign = ChainOp
PieceValue n.ProductSign = ChainOp
PieceValue n.OneSelector = Selector
PieceValue n.Selectors = List Selector
PieceValue n.NameRest = NameTail
PieceValue n.NamePrimary = Expr
PieceValue n.OtherPrimary = Expr
PieceValue n.Binder = Expr
PieceValue n.OtherUnary = Expr
PieceValue n.OtherProduct = Expr
PieceValue n.OtherSum = Expr
PieceValue n.RangeTail = NameTail × (List Link × (List Link × Expr))
PieceValue n.RuleRest = Option Expr × (List Decl × List Stmt)

-- what each named form gives
abbrev pub Value : Name → Type 0
Value n.Protocol = Protocol
Value n.Declare = List Decl
Value n.NameList = List Named
Value n.Routine = Decl
Value n.Formals = List Formal
Value n.Formal = Formal
Value n.Body = List Decl × List Stmt
Value n.TypeForm = TypeExpr
Value n.Fields = List FieldDecl
Value n.Items = List RuleDecl
Value n.Item = RuleDecl
Value n.Bind = Bind
Value n.Stmts = List Stmt
Value n.Stmt = Stmt
Value n.Args = List Expr
Value n.Expr = Expr
Value n.Implies = Expr
Value n.Or = Expr
Value n.And = Expr
Value n.Not = Expr
Value n.Compare = Expr
Value n.Sum = Expr
Value n.Product = Expr
Value n.Unary = Expr
Value n.Primary = Expr
Value n.Place = Designator
Value n.LemmaItem = Lemma
Value n.FlowItem = Flow
Value (n.Cut p) = PieceValue p

-- the name that a token writes
abbrev pub named : Token → Named
named x = record { name = x.text; at = x.at }

-- `string . name`
abbrev pub event : Token × (Token × Token) → Event
event (rule, (_, param)) = record { rule = rule.text; param = param.text; at = rule.at }

-- the second of each pair
abbrev pub seconds : {A B : Type 0} → List (A × B) → List B
seconds [] = []
seconds ((_, x) ∷ xs) = x ∷ seconds xs

-- what is there of optional parts, each behind a token
abbrev pub present : {A B C : Type 0} → List (A × (B ⊎ C)) → List B
present [] = []
present ((_, inl x) ∷ xs) = x ∷ present xs
present ((_, inr _) ∷ xs) = present xs

-- an optional part, behind others that are there
abbrev pub and_present : {A B C D : Type 0} → (B ⊎ D) → List (A × (B ⊎ C)) → List B
and_present (inl x) xs = x ∷ present xs
and_present (inr _) xs = present xs

-- an optional list, which is empty where it is left out
abbrev pub listed : {A B : Type 0} → List A ⊎ B → List A
listed (inl xs) = xs
listed (inr _) = []

abbrev pub is_there : {A B : Type 0} → A ⊎ B → Bool
is_there (inl _) = true
is_there (inr _) = false

-- an optional title
abbrev pub title : Token ⊎ Unit {0} → Option Text
title (inl x) = Some x.text
title (inr _) = None

abbrev pub joined : {A : Type 0} → List (List A) → List A
joined [] = []
joined (xs ∷ xss) = xs ++ joined xss

-- declarations and routines, in the order in which they are written
abbrev pub declared : List (List Decl ⊎ Decl) → List Decl
declared [] = []
declared (inl xs ∷ more) = xs ++ declared more
declared (inr x ∷ more) = x ∷ declared more

-- `name : expr ;`
abbrev pub constant : Token × (Token × (Expr × Token)) → Decl
constant (x, (_, (value, _))) = d.Constant (named x) value

-- `name : type ;`
abbrev pub type_name : Token × (Token × (TypeExpr × Token)) → Decl
type_name (x, (_, (body, _))) = d.TypeName (named x) body

-- `names : type ;`
abbrev pub variables : List Named × (Token × (TypeExpr × Token)) → Decl
variables (xs, (_, (body, _))) = d.Variables xs body

-- `; names : type`
abbrev pub field : Token × (List Named × (Token × TypeExpr)) → FieldDecl
field (_, (xs, (_, body))) = record { names = xs; body = body }

-- `elsif expr then stmts`
abbrev pub arm : Token × (Expr × (Token × List Stmt)) → Arm
arm (_, (test, (_, body))) = record { test = test; body = body }

-- `case implies { , implies } : stmts`
abbrev pub case_of : Token × (Expr × (List (Token × Expr) × (Token × List Stmt))) → Case
case_of (_, (x, (xs, (_, body)))) = record { labels = x ∷ seconds xs; body = body }

-- `( else stmts )?`
abbrev pub otherwise : (Token × List Stmt) ⊎ Unit {0} → List Stmt
otherwise (inl (_, body)) = body
otherwise (inr _) = []

-- `( args? )`
abbrev pub arguments : Token × ((List Expr ⊎ Unit {0}) × Token) → List Expr
arguments (_, (args, _)) = listed args

-- `( formals? )`
abbrev pub formals : Token × ((List Formal ⊎ Unit {0}) × Token) → List Formal
formals (_, (all, _)) = listed all

-- `. name | [ expr ]`
abbrev pub selector_of : (Token × Token) ⊎ (Token × (Expr × Token)) → Selector
selector_of (inl (_, x)) = selector.Field (named x)
selector_of (inr (_, (x, _))) = selector.Index x

-- `= | != | < | <= | > | >=`
abbrev pub compare_of : Token ⊎ (Token ⊎ (Token ⊎ (Token ⊎ (Token ⊎ Token)))) → CompareOp
compare_of (inl _) = compare.Equal
compare_of (inr (inl _)) = compare.NotEqual
compare_of (inr (inr (inl _))) = compare.Less
compare_of (inr (inr (inr (inl _)))) = compare.LessEqual
compare_of (inr (inr (inr (inr (inl _))))) = compare.Greater
compare_of (inr (inr (inr (inr (inr _))))) = compare.GreaterEqual

-- `| and` and `& not`
abbrev pub link : ChainOp → Token × Expr → Link
link op (_, x) = record { op = op; operand = x }

-- `+ | -`
abbrev pub sum_sign : Token ⊎ Token → ChainOp
sum_sign (inl _) = chain.Add
sum_sign (inr _) = chain.Subtract

-- `* | / | %`
abbrev pub product_sign : Token ⊎ (Token ⊎ Token) → ChainOp
product_sign (inl _) = chain.Times
product_sign (inr (inl _)) = chain.Divide
product_sign (inr (inr _)) = chain.Modulo

-- `( + | - ) product`
abbrev pub sum_link : (Token ⊎ Token) × Expr → Link
sum_link (sign, x) = record { op = sum_sign sign; operand = x }

-- `( * | / | % ) unary`
abbrev pub product_link : (Token ⊎ (Token ⊎ Token)) × Expr → Link
product_link (sign, x) = record { op = product_sign sign; operand = x }

-- further operands, each with its operator
abbrev pub linked : List (ChainOp × Expr) → List Link
linked [] = []
linked ((op, x) ∷ xs) = record { op = op; operand = x } ∷ linked xs

-- a chain goes from left to right; one operand alone is no chain
abbrev pub chained : Expr → List Link → Expr
chained first [] = first
chained first (x ∷ xs) = e.Chain first (x ∷ xs)

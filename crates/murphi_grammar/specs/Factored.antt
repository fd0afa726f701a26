-- The grammar of protocols in its left-factored form, in which one token decides at each place. Mechanism: by
-- a law the same tokens spell its forms, with the same trees, and begin them, as those of the grammar as it is
-- written. It differs from that where two alternatives begin alike (`type`, `item`, `bind`, `stmt`, `primary`),
-- in `fields`, and in that repetitions are named.
use Rattle.std.specs.Prelude.{true, false, List, [], ◌∷◌, ◌++◌, None, Some, map}
use Rattle.std.proofs.Common.{inl, inr}
use Rattle.grammar_core.specs.Forms.{Grammar, TreeOf}
use Rattle.murphi_ast.specs.declared.token.Token.{Token}
use Rattle.murphi_ast.specs.declared.expr.ChainOp.TheVariants as chain
use Rattle.murphi_ast.specs.declared.expr.TypeExpr as type
use Rattle.murphi_ast.specs.declared.expr.Expr as e
use Rattle.murphi_ast.specs.declared.stmt.Stmt as s
use Rattle.murphi_ast.specs.declared.decl.Decl as d
use Rattle.murphi_ast.specs.declared.rule.RuleDecl as r
use Rattle.murphi_grammar.specs.declared.symbol.Symbol.{Symbol}
use Rattle.murphi_grammar.specs.declared.symbol.Symbol.TheVariants as t
use Rattle.murphi_grammar.specs.Symbols.{symbol_of}
use Rattle.murphi_grammar.specs.Names.{Name}
use Rattle.murphi_grammar.specs.Names as n
use Rattle.murphi_grammar.specs.Parts.{Part, ◌▸◌, ◌∥◌, one, form, many, optional, nest, ending, in_parentheses, event_form}
use Rattle.murphi_grammar.specs.Values.{Value, named, event, seconds, listed, is_there, chained}
use Rattle.murphi_grammar.specs.Pieces.{cut, piece, piece_build, name_primary}

-- the right side of each named form
abbrev pub rule : Name → Part
rule n.Protocol = cut n.Declarations ▸ cut n.Gaps ▸ form n.Item ▸ cut n.MoreItems ▸ one t.EndOfText
rule n.Declare = one t.Const ▸ cut n.Constants ∥ one t.Type ▸ cut n.TypeNames ∥ one t.Var ▸ cut n.VariableLists
rule n.NameList = one t.Name ▸ cut n.MoreNames
rule n.Routine =
    nest t.Procedure (one t.Name ▸ cut n.FormalsIn ▸ one t.Semicolon ▸
    form n.Body ▸ ending t.EndProcedure ▸ one t.Semicolon) ∥
    nest t.Function (one t.Name ▸ cut n.FormalsIn ▸ one t.Colon ▸ form n.TypeForm ▸ one t.Semicolon ▸
    form n.Body ▸ ending t.EndFunction ▸ one t.Semicolon)
rule n.Formals = form n.Formal ▸ cut n.MoreFormals
rule n.Formal = optional (one t.Var) ▸ form n.NameList ▸ one t.Colon ▸ form n.TypeForm
rule n.Body = optional (cut n.Locals ▸ one t.Begin) ▸ form n.Stmts
rule n.TypeForm =
    one t.Name ▸ optional (cut n.RangeTail) ∥
    one t.Boolean ∥
    cut n.OtherSum ▸ one t.DotDot ▸ form n.Sum ∥
    one t.Enum ▸ one t.OpenBrace ▸ form n.NameList ▸ one t.CloseBrace ∥
    one t.Scalarset ▸ in_parentheses (form n.Expr) ∥
    nest t.Record (form n.Fields ▸ ending t.EndRecord) ∥
    nest t.Array (nest t.OpenBracket (form n.TypeForm ▸ one t.CloseBracket) ▸ one t.Of ▸ form n.TypeForm)
rule n.Fields =
    optional (form n.NameList ▸ one t.Colon ▸ form n.TypeForm ▸ optional (one t.Semicolon ▸ form n.Fields))
rule n.Items = optional (form n.Item) ▸ cut n.MoreItems
rule n.Item =
    nest t.Rule (cut n.Title ▸ cut n.RuleRest) ∥
    nest t.StartState (cut n.Title ▸ form n.Body ▸ ending t.EndStartState) ∥
    nest t.Invariant (cut n.Title ▸ form n.Expr) ∥
    nest t.RuleSet (form n.Bind ▸ cut n.MoreBinds ▸ one t.Do ▸ form n.Items ▸ ending t.EndRuleSet)
rule n.Bind = one t.Name ▸ cut n.BindRest
rule n.Stmts = optional (form n.Stmt) ▸ cut n.MoreStmts
rule n.Stmt =
    one t.Name ▸ cut n.StmtRest ∥
    one t.Clear ▸ form n.Place ∥
    one t.Undefine ▸ form n.Place ∥
    nest t.If (cut n.IfArm ▸ cut n.MoreArms ▸ cut n.Otherwise ▸ ending t.EndIf) ∥
    nest t.Switch (form n.Expr ▸ cut n.Cases ▸ cut n.Otherwise ▸ ending t.EndSwitch) ∥
    nest t.For (form n.Bind ▸ one t.Do ▸ form n.Stmts ▸ ending t.EndFor) ∥
    one t.Error ▸ one t.Quoted ∥
    one t.Assert ▸ form n.Expr ▸ optional (one t.Quoted) ∥
    one t.Put ▸ (one t.Quoted ∥ form n.Expr) ∥
    one t.Return ▸ optional (form n.Expr)
rule n.Args = form n.Expr ▸ cut n.MoreArgs
rule n.Expr = form n.Implies ▸ optional (nest t.Question (form n.Expr ▸ one t.Colon ▸ form n.Expr))
rule n.Implies = form n.Or ▸ optional (nest t.Arrow (form n.Or))
rule n.Or = form n.And ▸ cut n.OrLinks
rule n.And = form n.Not ▸ cut n.AndLinks
rule n.Not = nest t.Bang (form n.Not) ∥ form n.Compare
rule n.Compare = form n.Sum ▸ optional (cut n.CompareSign ▸ form n.Sum)
rule n.Sum = form n.Product ▸ cut n.SumLinks
rule n.Product = form n.Unary ▸ cut n.ProductLinks
rule n.Unary = nest t.Minus (form n.Unary) ∥ form n.Primary
rule n.Primary = cut n.NamePrimary ∥ cut n.OtherPrimary
rule n.Place = one t.Name ▸ cut n.Selectors
rule n.LemmaItem = one t.Name ▸ one t.Colon ▸ form n.Expr ▸ one t.Semicolon
rule n.FlowItem =
    one t.Name ▸ one t.Colon ▸ event_form ▸ one t.Comma ▸ event_form ▸ many (one t.Comma ▸ event_form) ▸ one t.Semicolon
rule (n.Cut p) = piece p

-- what each named form builds of its parts
abbrev pub build : (name : Name) → TreeOf Token Value (rule name) → Value name
build n.Protocol (ds, (_, (i, (is, _)))) = record { decls = ds; rules = i ∷ is }
build n.Declare (inl (_, ds)) = ds
build n.Declare (inr (inl (_, ds))) = ds
build n.Declare (inr (inr (_, ds))) = ds
build n.NameList (x, xs) = named x ∷ xs
build n.Routine (inl (_, (x, (fs, (_, ((ds, ss), _)))))) =
    d.Routine (record { name = named x; formals = fs; result = None; locals = ds; body = ss })
build n.Routine (inr (_, (x, (fs, (_, (result, (_, ((ds, ss), _)))))))) =
    d.Routine (record { name = named x; formals = fs; result = Some result; locals = ds; body = ss })
build n.Formals (x, xs) = x ∷ xs
build n.Formal (by_place, (xs, (_, body))) = record { by_place = is_there by_place; names = xs; body = body }
build n.Body (inl (ds, _), ss) = (ds, ss)
build n.Body (inr _, ss) = ([], ss)
build n.TypeForm (inl (x, inl (rest, (ms, (ads, high))))) =
    type.Range (chained (chained (name_primary x rest) ms) ads) high
build n.TypeForm (inl (x, inr _)) = type.Known (named x)
build n.TypeForm (inr (inl x)) = type.Truth x.at
build n.TypeForm (inr (inr (inl (low, (_, high))))) = type.Range low high
build n.TypeForm (inr (inr (inr (inl (x, (_, (xs, _))))))) = type.Listed xs x.at
build n.TypeForm (inr (inr (inr (inr (inl (x, (_, (size, _)))))))) = type.Scalarset size x.at
build n.TypeForm (inr (inr (inr (inr (inr (inl (x, (fs, _)))))))) = type.Fields fs x.at
build n.TypeForm (inr (inr (inr (inr (inr (inr (x, ((_, (index, _)), (_, item))))))))) = type.Array index item x.at
build n.Fields (inl (xs, (_, (body, inl (_, fs))))) = record { names = xs; body = body } ∷ fs
build n.Fields (inl (xs, (_, (body, inr _)))) = record { names = xs; body = body } ∷ []
build n.Fields (inr _) = []
build n.Items (inl i, is) = i ∷ is
build n.Items (inr _, is) = is
build n.Item (inl (x, (string, (guard, (ds, ss))))) = r.Rule string guard ds ss x.at
build n.Item (inr (inl (x, (string, ((ds, ss), _))))) = r.Start string ds ss x.at
build n.Item (inr (inr (inl (x, (string, body))))) = r.Invariant string body x.at
build n.Item (inr (inr (inr (x, (b, (bs, (_, (is, _)))))))) = r.Group (b ∷ bs) is x.at
build n.Bind (x, over) = record { name = named x; over = over }
build n.Stmts (inl x, xs) = x ∷ xs
build n.Stmts (inr _, xs) = xs
build n.Stmt (inl (x, inl args)) = s.Call (named x) args
build n.Stmt (inl (x, inr (sels, value))) = s.Assign (record { root = named x; selectors = sels }) value
build n.Stmt (inr (inl (x, to))) = s.Clear to x.at
build n.Stmt (inr (inr (inl (x, to)))) = s.Undefine to x.at
build n.Stmt (inr (inr (inr (inl (x, (arm, (arms, (last, _)))))))) = s.If (arm ∷ arms) last x.at
build n.Stmt (inr (inr (inr (inr (inl (x, (on, (cases, (last, _))))))))) = s.Switch on cases last x.at
build n.Stmt (inr (inr (inr (inr (inr (inl (x, (bind, (_, (body, _)))))))))) = s.For bind body x.at
build n.Stmt (inr (inr (inr (inr (inr (inr (inl (x, _)))))))) = s.Error x.at
build n.Stmt (inr (inr (inr (inr (inr (inr (inr (inl (x, (test, _)))))))))) = s.Assert test x.at
build n.Stmt (inr (inr (inr (inr (inr (inr (inr (inr (inl (x, inl _)))))))))) = s.Put None x.at
build n.Stmt (inr (inr (inr (inr (inr (inr (inr (inr (inl (x, inr value)))))))))) = s.Put (Some value) x.at
build n.Stmt (inr (inr (inr (inr (inr (inr (inr (inr (inr (x, inl value)))))))))) = s.Return (Some value) x.at
build n.Stmt (inr (inr (inr (inr (inr (inr (inr (inr (inr (x, inr _)))))))))) = s.Return None x.at
build n.Args (x, xs) = x ∷ xs
build n.Expr (test, inl (_, (left, (_, right)))) = e.Choice test left right
build n.Expr (body, inr _) = body
build n.Implies (left, inl (_, right)) = e.Implies left right
build n.Implies (body, inr _) = body
build n.Or (x, xs) = chained x xs
build n.And (x, xs) = chained x xs
build n.Not (inl (x, body)) = e.Not body x.at
build n.Not (inr body) = body
build n.Compare (left, inl (op, right)) = e.Compare op left right
build n.Compare (body, inr _) = body
build n.Sum (x, xs) = chained x xs
build n.Product (x, xs) = chained x xs
build n.Unary (inl (x, body)) = e.Minus body x.at
build n.Unary (inr body) = body
build n.Primary (inl body) = body
build n.Primary (inr body) = body
build n.Place (x, sels) = record { root = named x; selectors = sels }
build n.LemmaItem (x, (_, (body, _))) = record { name = named x; body = body }
build n.FlowItem (x, (_, (first, (_, (second, (more, _)))))) =
    record { name = named x; events = event first ∷ event second ∷ map event (seconds more) }
build (n.Cut p) parts = piece_build p parts

-- the grammar in its left-factored form
abbrev pub factored : Grammar
factored = record {
  Token = Token;
  Symbol = Symbol;
  symbol = symbol_of;
  Name = Name;
  Value = Value;
  rule = rule;
  build = build;
}

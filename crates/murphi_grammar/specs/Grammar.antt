-- The grammar of protocols, from the Murphi manual, in this project's profile; and of the items of files of
-- lemmas and of flows, which are this project's own.
--
-- Each named form has its right side under `rule`, and under `build` what it gives of its parts, part for
-- part. `a ▸ b` is a followed by b, and `a ∥ b` is either; `many a` is any number of a, and `optional a`
-- is a or nothing. `nest w a` is the token w and what follows it, while which one more nesting is open.
-- Parentheses, empty statements and empty items leave nothing in the tree.
use Rattle.std.specs.Prelude.{true, false, List, [], ◌∷◌, None, Some, map}
use Rattle.std.proofs.Common.{inl, inr}
use Rattle.grammar_core.specs.Forms.{Grammar, TreeOf}
use Rattle.murphi_ast.specs.declared.token.Token.{Token}
use Rattle.murphi_ast.specs.declared.expr.ChainOp.TheVariants as chain
use Rattle.murphi_ast.specs.declared.expr.TypeExpr as type
use Rattle.murphi_ast.specs.declared.expr.Expr as e
use Rattle.murphi_ast.specs.declared.stmt.Stmt as s
use Rattle.murphi_ast.specs.declared.decl.Decl as d
use Rattle.murphi_ast.specs.declared.rule.RuleDecl as r
use Rattle.murphi_grammar.specs.declared.symbol.Symbol.{Symbol}
use Rattle.murphi_grammar.specs.declared.symbol.Symbol.TheVariants as t
use Rattle.murphi_grammar.specs.Symbols.{symbol_of}
use Rattle.murphi_grammar.specs.Names.{Name}
use Rattle.murphi_grammar.specs.Names as n
use Rattle.murphi_grammar.specs.Parts.{Part, ◌▸◌, ◌∥◌, one, form, many, optional, nest, ending, in_parentheses, event_form}
use Rattle.murphi_grammar.specs.Values.{Value, named, event, seconds, present, and_present, listed, is_there, title, joined, declared, constant, type_name, variables, field, arm, case_of, otherwise, arguments, formals, selector_of, compare_of, link, sum_link, product_link, chained}
use Rattle.murphi_grammar.specs.Pieces.{piece, piece_build}

-- the right side of each named form
abbrev pub rule : Name → Part
-- { declare | routine } rules, with at least one item, and the end of the text: of `item? { ; item? }` the
-- items left out before the first that is there are the leading semicolons
rule n.Protocol =
    many (form n.Declare ∥ form n.Routine) ▸
    many (one t.Semicolon) ▸ form n.Item ▸ many (one t.Semicolon ▸ optional (form n.Item)) ▸ one t.EndOfText
-- const { name : expr ; } | type { name : type ; } | var { names : type ; }
rule n.Declare =
    one t.Const ▸ many (one t.Name ▸ one t.Colon ▸ form n.Expr ▸ one t.Semicolon) ∥
    one t.Type ▸ many (one t.Name ▸ one t.Colon ▸ form n.TypeForm ▸ one t.Semicolon) ∥
    one t.Var ▸ many (form n.NameList ▸ one t.Colon ▸ form n.TypeForm ▸ one t.Semicolon)
-- name { , name }
rule n.NameList = one t.Name ▸ many (one t.Comma ▸ one t.Name)
-- procedure name ( formals? ) ; body end ; | function name ( formals? ) : type ; body end ;
rule n.Routine =
    nest t.Procedure (one t.Name ▸ in_parentheses (optional (form n.Formals)) ▸ one t.Semicolon ▸
    form n.Body ▸ ending t.EndProcedure ▸ one t.Semicolon) ∥
    nest t.Function (one t.Name ▸ in_parentheses (optional (form n.Formals)) ▸ one t.Colon ▸ form n.TypeForm ▸ one t.Semicolon ▸
    form n.Body ▸ ending t.EndFunction ▸ one t.Semicolon)
-- formal { ; formal }
rule n.Formals = form n.Formal ▸ many (one t.Semicolon ▸ form n.Formal)
-- var? names : type
rule n.Formal = optional (one t.Var) ▸ form n.NameList ▸ one t.Colon ▸ form n.TypeForm
-- ( { declare } begin )? stmts
rule n.Body = optional (many (form n.Declare) ▸ one t.Begin) ▸ form n.Stmts
-- name | boolean | sum .. sum | enum { names } | scalarset ( expr ) | record fields end
--   | array [ type ] of type
rule n.TypeForm =
    one t.Name ∥
    one t.Boolean ∥
    form n.Sum ▸ one t.DotDot ▸ form n.Sum ∥
    one t.Enum ▸ one t.OpenBrace ▸ form n.NameList ▸ one t.CloseBrace ∥
    one t.Scalarset ▸ in_parentheses (form n.Expr) ∥
    nest t.Record (form n.Fields ▸ ending t.EndRecord) ∥
    nest t.Array (nest t.OpenBracket (form n.TypeForm ▸ one t.CloseBracket) ▸ one t.Of ▸ form n.TypeForm)
-- ( names : type { ; names : type } ;? )?
rule n.Fields =
    optional (form n.NameList ▸ one t.Colon ▸ form n.TypeForm ▸
    many (one t.Semicolon ▸ form n.NameList ▸ one t.Colon ▸ form n.TypeForm) ▸ optional (one t.Semicolon))
-- item? { ; item? }
rule n.Items = optional (form n.Item) ▸ many (one t.Semicolon ▸ optional (form n.Item))
-- rule string? expr ==> body end | rule string? { declare } begin stmts end | startstate string? body end
--   | invariant string? expr | ruleset bind { ; bind } do rules end
rule n.Item =
    nest t.Rule (optional (one t.Quoted) ▸ form n.Expr ▸ one t.DoubleArrow ▸ form n.Body ▸ ending t.EndRule) ∥
    nest t.Rule (optional (one t.Quoted) ▸ many (form n.Declare) ▸ one t.Begin ▸ form n.Stmts ▸ ending t.EndRule) ∥
    nest t.StartState (optional (one t.Quoted) ▸ form n.Body ▸ ending t.EndStartState) ∥
    nest t.Invariant (optional (one t.Quoted) ▸ form n.Expr) ∥
    nest t.RuleSet (form n.Bind ▸ many (one t.Semicolon ▸ form n.Bind) ▸ one t.Do ▸ form n.Items ▸ ending t.EndRuleSet)
-- name : type | name := sum to sum
rule n.Bind =
    one t.Name ▸ one t.Colon ▸ form n.TypeForm ∥
    one t.Name ▸ one t.Becomes ▸ form n.Sum ▸ one t.To ▸ form n.Sum
-- stmt? { ; stmt? }
rule n.Stmts = optional (form n.Stmt) ▸ many (one t.Semicolon ▸ optional (form n.Stmt))
-- place := expr | name ( args? ) | clear place | undefine place
--   | if expr then stmts { elsif expr then stmts } ( else stmts )? end
--   | switch expr { case implies { , implies } : stmts } ( else stmts )? end
--   | for bind do stmts end
--   | error string | assert expr string? | put string | put expr | return expr?
rule n.Stmt =
    form n.Place ▸ one t.Becomes ▸ form n.Expr ∥
    one t.Name ▸ in_parentheses (optional (form n.Args)) ∥
    one t.Clear ▸ form n.Place ∥
    one t.Undefine ▸ form n.Place ∥
    nest t.If (form n.Expr ▸ one t.Then ▸ form n.Stmts ▸
    many (one t.Elsif ▸ form n.Expr ▸ one t.Then ▸ form n.Stmts) ▸
    optional (one t.Else ▸ form n.Stmts) ▸ ending t.EndIf) ∥
    nest t.Switch (form n.Expr ▸
    many (one t.Case ▸ form n.Implies ▸ many (one t.Comma ▸ form n.Implies) ▸ one t.Colon ▸ form n.Stmts) ▸
    optional (one t.Else ▸ form n.Stmts) ▸ ending t.EndSwitch) ∥
    nest t.For (form n.Bind ▸ one t.Do ▸ form n.Stmts ▸ ending t.EndFor) ∥
    one t.Error ▸ one t.Quoted ∥
    one t.Assert ▸ form n.Expr ▸ optional (one t.Quoted) ∥
    one t.Put ▸ one t.Quoted ∥
    one t.Put ▸ form n.Expr ∥
    one t.Return ▸ optional (form n.Expr)
-- expr { , expr }
rule n.Args = form n.Expr ▸ many (one t.Comma ▸ form n.Expr)
-- implies ( ? expr : expr )?
rule n.Expr = form n.Implies ▸ optional (nest t.Question (form n.Expr ▸ one t.Colon ▸ form n.Expr))
-- or ( -> or )?
rule n.Implies = form n.Or ▸ optional (nest t.Arrow (form n.Or))
-- and { | and }
rule n.Or = form n.And ▸ many (one t.Bar ▸ form n.And)
-- not { & not }
rule n.And = form n.Not ▸ many (one t.Ampersand ▸ form n.Not)
-- ! not | compare
rule n.Not = nest t.Bang (form n.Not) ∥ form n.Compare
-- sum ( ( = | != | < | <= | > | >= ) sum )?
rule n.Compare =
    form n.Sum ▸ optional ((one t.Equal ∥ one t.NotEqual ∥ one t.Less ∥ one t.LessEqual ∥ one t.Greater ∥ one t.GreaterEqual) ▸
    form n.Sum)
-- product { ( + | - ) product }
rule n.Sum = form n.Product ▸ many ((one t.Plus ∥ one t.Minus) ▸ form n.Product)
-- unary { ( * | / | % ) unary }
rule n.Product = form n.Unary ▸ many ((one t.Star ∥ one t.Slash ∥ one t.Percent) ▸ form n.Unary)
-- - unary | primary
rule n.Unary = nest t.Minus (form n.Unary) ∥ form n.Primary
-- number | true | false | ( expr ) | place | name ( args? ) | isundefined ( place )
--   | forall bind do expr end | exists bind do expr end
rule n.Primary =
    one t.Number ∥
    one t.True ∥
    one t.False ∥
    in_parentheses (form n.Expr) ∥
    form n.Place ∥
    one t.Name ▸ in_parentheses (optional (form n.Args)) ∥
    one t.IsUndefined ▸ in_parentheses (form n.Place) ∥
    nest t.Forall (form n.Bind ▸ one t.Do ▸ form n.Expr ▸ ending t.EndForall) ∥
    nest t.Exists (form n.Bind ▸ one t.Do ▸ form n.Expr ▸ ending t.EndExists)
-- name { . name | [ expr ] }
rule n.Place = one t.Name ▸ many (one t.Dot ▸ one t.Name ∥ nest t.OpenBracket (form n.Expr ▸ one t.CloseBracket))
-- name : expr ;
rule n.LemmaItem = one t.Name ▸ one t.Colon ▸ form n.Expr ▸ one t.Semicolon
-- name : event , event { , event } ;
rule n.FlowItem =
    one t.Name ▸ one t.Colon ▸ event_form ▸ one t.Comma ▸ event_form ▸ many (one t.Comma ▸ event_form) ▸ one t.Semicolon
-- a piece of a form, which none of the forms above calls
rule (n.Cut p) = piece p

-- what each named form builds of its parts
abbrev pub build : (name : Name) → TreeOf Token Value (rule name) → Value name
build n.Protocol (ds, (_, (i, (is, _)))) = record { decls = declared ds; rules = i ∷ present is }
build n.Declare (inl (_, ds)) = map constant ds
build n.Declare (inr (inl (_, ds))) = map type_name ds
build n.Declare (inr (inr (_, ds))) = map variables ds
build n.NameList (x, xs) = named x ∷ map named (seconds xs)
build n.Routine (inl (_, (x, (fs, (_, ((ds, ss), _)))))) =
    d.Routine (record { name = named x; formals = formals fs; result = None; locals = ds; body = ss })
build n.Routine (inr (_, (x, (fs, (_, (result, (_, ((ds, ss), _)))))))) =
    d.Routine (record { name = named x; formals = formals fs; result = Some result; locals = ds; body = ss })
build n.Formals (x, xs) = x ∷ seconds xs
build n.Formal (by_place, (xs, (_, body))) = record { by_place = is_there by_place; names = xs; body = body }
build n.Body (inl (ds, _), ss) = (joined ds, ss)
build n.Body (inr _, ss) = ([], ss)
build n.TypeForm (inl x) = type.Known (named x)
build n.TypeForm (inr (inl x)) = type.Truth x.at
build n.TypeForm (inr (inr (inl (low, (_, high))))) = type.Range low high
build n.TypeForm (inr (inr (inr (inl (x, (_, (xs, _))))))) = type.Listed xs x.at
build n.TypeForm (inr (inr (inr (inr (inl (x, (_, (size, _)))))))) = type.Scalarset size x.at
build n.TypeForm (inr (inr (inr (inr (inr (inl (x, (fs, _)))))))) = type.Fields fs x.at
build n.TypeForm (inr (inr (inr (inr (inr (inr (x, ((_, (index, _)), (_, item))))))))) = type.Array index item x.at
build n.Fields (inl (xs, (_, (body, (fs, _))))) = record { names = xs; body = body } ∷ map field fs
build n.Fields (inr _) = []
build n.Items (i, is) = and_present i is
build n.Item (inl (x, (string, (guard, (_, ((ds, ss), _)))))) = r.Rule (title string) (Some guard) ds ss x.at
build n.Item (inr (inl (x, (string, (ds, (_, (ss, _))))))) = r.Rule (title string) None (joined ds) ss x.at
build n.Item (inr (inr (inl (x, (string, ((ds, ss), _)))))) = r.Start (title string) ds ss x.at
build n.Item (inr (inr (inr (inl (x, (string, body)))))) = r.Invariant (title string) body x.at
build n.Item (inr (inr (inr (inr (x, (b, (bs, (_, (is, _))))))))) = r.Group (b ∷ seconds bs) is x.at
build n.Bind (inl (x, (_, body))) = record { name = named x; over = body }
build n.Bind (inr (x, (_, (low, (_, high))))) = record { name = named x; over = type.Range low high }
build n.Stmts (x, xs) = and_present x xs
build n.Stmt (inl (to, (_, value))) = s.Assign to value
build n.Stmt (inr (inl (x, args))) = s.Call (named x) (arguments args)
build n.Stmt (inr (inr (inl (x, to)))) = s.Clear to x.at
build n.Stmt (inr (inr (inr (inl (x, to))))) = s.Undefine to x.at
build n.Stmt (inr (inr (inr (inr (inl (x, (test, (_, (body, (arms, (last, _))))))))))) =
    s.If (record { test = test; body = body } ∷ map arm arms) (otherwise last) x.at
build n.Stmt (inr (inr (inr (inr (inr (inl (x, (on, (cases, (last, _)))))))))) =
    s.Switch on (map case_of cases) (otherwise last) x.at
build n.Stmt (inr (inr (inr (inr (inr (inr (inl (x, (bind, (_, (body, _))))))))))) = s.For bind body x.at
build n.Stmt (inr (inr (inr (inr (inr (inr (inr (inl (x, _))))))))) = s.Error x.at
build n.Stmt (inr (inr (inr (inr (inr (inr (inr (inr (inl (x, (test, _))))))))))) = s.Assert test x.at
build n.Stmt (inr (inr (inr (inr (inr (inr (inr (inr (inr (inl (x, _))))))))))) = s.Put None x.at
build n.Stmt (inr (inr (inr (inr (inr (inr (inr (inr (inr (inr (inl (x, value)))))))))))) = s.Put (Some value) x.at
build n.Stmt (inr (inr (inr (inr (inr (inr (inr (inr (inr (inr (inr (x, inl value)))))))))))) = s.Return (Some value) x.at
build n.Stmt (inr (inr (inr (inr (inr (inr (inr (inr (inr (inr (inr (x, inr _)))))))))))) = s.Return None x.at
build n.Args (x, xs) = x ∷ seconds xs
build n.Expr (test, inl (_, (left, (_, right)))) = e.Choice test left right
build n.Expr (body, inr _) = body
build n.Implies (left, inl (_, right)) = e.Implies left right
build n.Implies (body, inr _) = body
build n.Or (x, xs) = chained x (map (link chain.Or) xs)
build n.And (x, xs) = chained x (map (link chain.And) xs)
build n.Not (inl (x, body)) = e.Not body x.at
build n.Not (inr body) = body
build n.Compare (left, inl (op, right)) = e.Compare (compare_of op) left right
build n.Compare (body, inr _) = body
build n.Sum (x, xs) = chained x (map sum_link xs)
build n.Product (x, xs) = chained x (map product_link xs)
build n.Unary (inl (x, body)) = e.Minus body x.at
build n.Unary (inr body) = body
build n.Primary (inl x) = e.Number x.number x.at
build n.Primary (inr (inl x)) = e.Truth true x.at
build n.Primary (inr (inr (inl x))) = e.Truth false x.at
build n.Primary (inr (inr (inr (inl (_, (body, _)))))) = body
build n.Primary (inr (inr (inr (inr (inl place))))) = e.Place place
build n.Primary (inr (inr (inr (inr (inr (inl (x, args))))))) = e.Call (named x) (arguments args)
build n.Primary (inr (inr (inr (inr (inr (inr (inl (x, (_, (place, _)))))))))) = e.IsUndefined place x.at
build n.Primary (inr (inr (inr (inr (inr (inr (inr (inl (x, (bind, (_, (body, _)))))))))))) = e.Quantified true bind body x.at
build n.Primary (inr (inr (inr (inr (inr (inr (inr (inr (x, (bind, (_, (body, _)))))))))))) = e.Quantified false bind body x.at
build n.Place (x, sels) = record { root = named x; selectors = map selector_of sels }
build n.LemmaItem (x, (_, (body, _))) = record { name = named x; body = body }
build n.FlowItem (x, (_, (first, (_, (second, (more, _)))))) =
    record { name = named x; events = event first ∷ event second ∷ map event (seconds more) }
build (n.Cut p) parts = piece_build p parts

-- the grammar of protocols
abbrev pub murphi : Grammar
murphi = record {
  Token = Token;
  Symbol = Symbol;
  symbol = symbol_of;
  Name = Name;
  Value = Value;
  rule = rule;
  build = build;
}

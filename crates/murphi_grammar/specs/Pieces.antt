-- The pieces into which the reader cuts forms of the grammar. Mechanism: the grammar as it is written calls
-- none of them.
use Rattle.std.specs.Prelude.{true, false, List, [], ◌∷◌, ◌⊎◌, Option, None, Some, map}
use Rattle.std.proofs.Common.{inl, inr}
use Rattle.grammar_core.specs.Forms.{TreeOf}
use Rattle.murphi_ast.specs.declared.token.Token.{Token}
use Rattle.murphi_ast.specs.declared.expr.Expr.{Expr}
use Rattle.murphi_ast.specs.declared.expr.ChainOp.TheVariants as chain
use Rattle.murphi_ast.specs.declared.expr.TypeExpr as type
use Rattle.murphi_ast.specs.declared.expr.Expr as e
use Rattle.murphi_grammar.specs.declared.symbol.Symbol.TheVariants as t
use Rattle.murphi_grammar.specs.Names.{Piece}
use Rattle.murphi_grammar.specs.Names as n
use Rattle.murphi_grammar.specs.Parts.{Part, ◌▸◌, ◌∥◌, one, form, many, optional, nest, ending, in_parentheses}
use Rattle.murphi_grammar.specs.Values.{PieceValue, NameTail, Value, named, seconds, present, and_present, listed, is_there, title, joined, declared, constant, type_name, variables, field, arm, case_of, otherwise, arguments, formals, selector_of, compare_of, link, sum_sign, product_sign, sum_link, product_link, linked, chained}

-- a piece, called
abbrev pub cut : Piece → Part
cut p = form (n.Cut p)

-- the right side of each piece
abbrev pub piece : Piece → Part
piece n.Declarations = many (form n.Declare ∥ form n.Routine)
piece n.Gaps = many (one t.Semicolon)
piece n.MoreItems = many (one t.Semicolon ▸ optional (form n.Item))
piece n.Constants = many (one t.Name ▸ one t.Colon ▸ form n.Expr ▸ one t.Semicolon)
piece n.TypeNames = many (one t.Name ▸ one t.Colon ▸ form n.TypeForm ▸ one t.Semicolon)
piece n.VariableLists = many (form n.NameList ▸ one t.Colon ▸ form n.TypeForm ▸ one t.Semicolon)
piece n.MoreNames = many (one t.Comma ▸ one t.Name)
piece n.FormalsIn = in_parentheses (optional (form n.Formals))
piece n.MoreFormals = many (one t.Semicolon ▸ form n.Formal)
piece n.Locals = many (form n.Declare)
piece n.Title = optional (one t.Quoted)
piece n.MoreBinds = many (one t.Semicolon ▸ form n.Bind)
piece n.BindRest = one t.Colon ▸ form n.TypeForm ∥ one t.Becomes ▸ form n.Sum ▸ one t.To ▸ form n.Sum
piece n.MoreStmts = many (one t.Semicolon ▸ optional (form n.Stmt))
piece n.StmtRest = cut n.Arguments ∥ cut n.Selectors ▸ one t.Becomes ▸ form n.Expr
piece n.IfArm = form n.Expr ▸ one t.Then ▸ form n.Stmts
piece n.MoreArms = many (one t.Elsif ▸ cut n.IfArm)
piece n.CaseArm = one t.Case ▸ form n.Implies ▸ cut n.MoreLabels ▸ one t.Colon ▸ form n.Stmts
piece n.Cases = many (cut n.CaseArm)
piece n.MoreLabels = many (one t.Comma ▸ form n.Implies)
piece n.Otherwise = optional (one t.Else ▸ form n.Stmts)
piece n.Arguments = in_parentheses (optional (form n.Args))
piece n.MoreArgs = many (one t.Comma ▸ form n.Expr)
piece n.OrLinks = many (one t.Bar ▸ form n.And)
piece n.AndLinks = many (one t.Ampersand ▸ form n.Not)
piece n.SumLinks = many (cut n.SumSign ▸ form n.Product)
piece n.ProductLinks = many (cut n.ProductSign ▸ form n.Unary)
piece n.CompareSign =
    one t.Equal ∥ one t.NotEqual ∥ one t.Less ∥ one t.LessEqual ∥ one t.Greater ∥ one t.GreaterEqual
piece n.SumSign = one t.Plus ∥ one t.Minus
piece n.ProductSign = one t.Star ∥ one t.Slash ∥ one t.Percent
piece n.OneSelector = one t.Dot ▸ one t.Name ∥ nest t.OpenBracket (form n.Expr ▸ one t.CloseBracket)
piece n.Selectors = many (cut n.OneSelector)
piece n.NameRest = cut n.Arguments ∥ cut n.Selectors
piece n.NamePrimary = one t.Name ▸ cut n.NameRest
piece n.OtherPrimary = one t.Number ∥ one t.True ∥ one t.False ∥ in_parentheses (form n.Expr) ∥ cut n.Binder
piece n.Binder =
    one t.IsUndefined ▸ in_parentheses (form n.Place) ∥
    nest t.Forall (form n.Bind ▸ one t.Do ▸ form n.Expr ▸ ending t.EndForall) ∥
    nest t.Exists (form n.Bind ▸ one t.Do ▸ form n.Expr ▸ ending t.EndExists)
piece n.OtherUnary = nest t.Minus (form n.Unary) ∥ cut n.OtherPrimary
piece n.OtherProduct = cut n.OtherUnary ▸ cut n.ProductLinks
piece n.OtherSum = cut n.OtherProduct ▸ cut n.SumLinks
piece n.RangeTail = cut n.NameRest ▸ cut n.ProductLinks ▸ cut n.SumLinks ▸ one t.DotDot ▸ form n.Sum
piece n.RuleRest =
    form n.Expr ▸ one t.DoubleArrow ▸ form n.Body ▸ ending t.EndRule ∥
    cut n.Locals ▸ one t.Begin ▸ form n.Stmts ▸ ending t.EndRule

-- a primary that begins with a name
abbrev pub name_primary : Token → NameTail → Expr
name_primary x (inl args) = e.Call (named x) args
name_primary x (inr sels) = e.Place (record { root = named x; selectors = sels })

-- what each piece builds of its parts
abbrev pub piece_build : (p : Piece) → TreeOf Token Value (piece p) → PieceValue p
piece_build n.Declarations ds = declared ds
piece_build n.Gaps _ = tt
piece_build n.MoreItems is = present is
piece_build n.Constants ds = map constant ds
piece_build n.TypeNames ds = map type_name ds
piece_build n.VariableLists ds = map variables ds
piece_build n.MoreNames xs = map named (seconds xs)
piece_build n.FormalsIn fs = formals fs
piece_build n.MoreFormals xs = seconds xs
piece_build n.Locals ds = joined ds
piece_build n.Title string = title string
piece_build n.MoreBinds xs = seconds xs
piece_build n.BindRest (inl (_, body)) = body
piece_build n.BindRest (inr (_, (low, (_, high)))) = type.Range low high
piece_build n.MoreStmts xs = present xs
piece_build n.StmtRest (inl args) = inl args
piece_build n.StmtRest (inr (sels, (_, value))) = inr (sels, value)
piece_build n.IfArm (test, (_, body)) = record { test = test; body = body }
piece_build n.MoreArms xs = seconds xs
piece_build n.CaseArm (_, (x, (xs, (_, body)))) = record { labels = x ∷ xs; body = body }
piece_build n.Cases xs = xs
piece_build n.MoreLabels xs = seconds xs
piece_build n.Otherwise last = otherwise last
piece_build n.Arguments args = arguments args
piece_build n.MoreArgs xs = seconds xs
piece_build n.OrLinks xs = map (link chain.Or) xs
piece_build n.AndLinks xs = map (link chain.And) xs
piece_build n.SumLinks xs = linked xs
piece_build n.ProductLinks xs = linked xs
piece_build n.CompareSign op = compare_of op
piece_build n.SumSign op = sum_sign op
piece_build n.ProductSign op = product_sign op
piece_build n.OneSelector x = selector_of x
piece_build n.Selectors xs = xs
piece_build n.NameRest (inl args) = inl args
piece_build n.NameRest (inr sels) = inr sels
piece_build n.NamePrimary (x, rest) = name_primary x rest
piece_build n.OtherPrimary (inl x) = e.Number x.number x.at
piece_build n.OtherPrimary (inr (inl x)) = e.Truth true x.at
piece_build n.OtherPrimary (inr (inr (inl x))) = e.Truth false x.at
piece_build n.OtherPrimary (inr (inr (inr (inl (_, (body, _)))))) = body
piece_build n.OtherPrimary (inr (inr (inr (inr body)))) = body
piece_build n.Binder (inl (x, (_, (place, _)))) = e.IsUndefined place x.at
piece_build n.Binder (inr (inl (x, (bind, (_, (body, _)))))) = e.Quantified true bind body x.at
piece_build n.Binder (inr (inr (x, (bind, (_, (body, _)))))) = e.Quantified false bind body x.at
piece_build n.OtherUnary (inl (x, body)) = e.Minus body x.at
piece_build n.OtherUnary (inr body) = body
piece_build n.OtherProduct (x, xs) = chained x xs
piece_build n.OtherSum (x, xs) = chained x xs
piece_build n.RangeTail (rest, (ms, (ads, (_, high)))) = (rest, (ms, (ads, high)))
piece_build n.RuleRest (inl (guard, (_, (body, _)))) = (Some guard, body)
piece_build n.RuleRest (inr (ds, (_, (ss, _)))) = (None, (ds, ss))

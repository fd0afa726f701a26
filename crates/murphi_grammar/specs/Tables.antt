-- The tables of the left-factored grammar, which the test looks at: a number for each symbol, which forms may
-- be empty, what may begin each, and what may carry on each that is already whole. Mechanism: the test is
-- computed, and a table that were wrong would fail it.
use Rattle.std.specs.Prelude.{ℕ, Bool, true, false, List, [], ◌∷◌, map}
use Rattle.grammar_core.specs.Test.{Tables}
use Rattle.murphi_grammar.specs.declared.symbol.Symbol.{Symbol}
use Rattle.murphi_grammar.specs.declared.symbol.Symbol.TheVariants as t
use Rattle.murphi_grammar.specs.Names.{Name}
use Rattle.murphi_grammar.specs.Names as n
use Rattle.murphi_grammar.specs.Factored.{factored}

-- the number of a symbol
abbrev pub code : Symbol → ℕ
code t.Array = 0
code t.Assert = 1
code t.Begin = 2
code t.Boolean = 3
code t.Case = 4
code t.Clear = 5
code t.Const = 6
code t.Do = 7
code t.Else = 8
code t.Elsif = 9
code t.End = 10
code t.EndExists = 11
code t.EndFor = 12
code t.EndForall = 13
code t.EndFunction = 14
code t.EndIf = 15
code t.EndProcedure = 16
code t.EndRecord = 17
code t.EndRule = 18
code t.EndRuleSet = 19
code t.EndStartState = 20
code t.EndSwitch = 21
code t.Enum = 22
code t.Error = 23
code t.Exists = 24
code t.False = 25
code t.For = 26
code t.Forall = 27
code t.Function = 28
code t.If = 29
code t.Invariant = 30
code t.IsUndefined = 31
code t.Of = 32
code t.Procedure = 33
code t.Put = 34
code t.Record = 35
code t.Return = 36
code t.Rule = 37
code t.RuleSet = 38
code t.Scalarset = 39
code t.StartState = 40
code t.Switch = 41
code t.Then = 42
code t.To = 43
code t.True = 44
code t.Type = 45
code t.Undefine = 46
code t.Var = 47
code t.Refused = 48
code t.Name = 49
code t.Number = 50
code t.Quoted = 51
code t.Becomes = 52
code t.NotEqual = 53
code t.Arrow = 54
code t.DoubleArrow = 55
code t.DotDot = 56
code t.LessEqual = 57
code t.GreaterEqual = 58
code t.Equal = 59
code t.Less = 60
code t.Greater = 61
code t.Plus = 62
code t.Minus = 63
code t.Star = 64
code t.Slash = 65
code t.Percent = 66
code t.Ampersand = 67
code t.Bar = 68
code t.Bang = 69
code t.Question = 70
code t.Colon = 71
code t.Semicolon = 72
code t.Comma = 73
code t.Dot = 74
code t.Open = 75
code t.Close = 76
code t.OpenBracket = 77
code t.CloseBracket = 78
code t.OpenBrace = 79
code t.CloseBrace = 80
code t.OtherSign = 81
code t.EndOfText = 82

-- all symbols, each at its number
abbrev pub symbols : List Symbol
symbols = t.Array ∷ t.Assert ∷ t.Begin ∷ t.Boolean ∷ t.Case ∷ t.Clear ∷ t.Const ∷ t.Do ∷ t.Else ∷ t.Elsif ∷
    t.End ∷ t.EndExists ∷ t.EndFor ∷ t.EndForall ∷ t.EndFunction ∷ t.EndIf ∷ t.EndProcedure ∷ t.EndRecord ∷
    t.EndRule ∷ t.EndRuleSet ∷ t.EndStartState ∷ t.EndSwitch ∷ t.Enum ∷ t.Error ∷ t.Exists ∷ t.False ∷ t.For ∷
    t.Forall ∷ t.Function ∷ t.If ∷ t.Invariant ∷ t.IsUndefined ∷ t.Of ∷ t.Procedure ∷ t.Put ∷ t.Record ∷
    t.Return ∷ t.Rule ∷ t.RuleSet ∷ t.Scalarset ∷ t.StartState ∷ t.Switch ∷ t.Then ∷ t.To ∷ t.True ∷ t.Type ∷
    t.Undefine ∷ t.Var ∷ t.Refused ∷ t.Name ∷ t.Number ∷ t.Quoted ∷ t.Becomes ∷ t.NotEqual ∷ t.Arrow ∷
    t.DoubleArrow ∷ t.DotDot ∷ t.LessEqual ∷ t.GreaterEqual ∷ t.Equal ∷ t.Less ∷ t.Greater ∷ t.Plus ∷ t.Minus ∷
    t.Star ∷ t.Slash ∷ t.Percent ∷ t.Ampersand ∷ t.Bar ∷ t.Bang ∷ t.Question ∷ t.Colon ∷ t.Semicolon ∷ t.Comma ∷
    t.Dot ∷ t.Open ∷ t.Close ∷ t.OpenBracket ∷ t.CloseBracket ∷ t.OpenBrace ∷ t.CloseBrace ∷ t.OtherSign ∷
    t.EndOfText ∷ []

abbrev begins_expression : List Symbol
begins_expression = t.Exists ∷ t.False ∷ t.Forall ∷ t.IsUndefined ∷ t.True ∷ t.Name ∷ t.Number ∷ t.Minus ∷
    t.Bang ∷ t.Open ∷ []

abbrev begins_sum : List Symbol
begins_sum = t.Exists ∷ t.False ∷ t.Forall ∷ t.IsUndefined ∷ t.True ∷ t.Name ∷ t.Number ∷ t.Minus ∷ t.Open ∷
    []

abbrev begins_other_sum : List Symbol
begins_other_sum = t.Exists ∷ t.False ∷ t.Forall ∷ t.IsUndefined ∷ t.True ∷ t.Number ∷ t.Minus ∷ t.Open ∷ []

abbrev begins_declaration : List Symbol
begins_declaration = t.Const ∷ t.Type ∷ t.Var ∷ []

abbrev goes_on_type : List Symbol
goes_on_type = t.DotDot ∷ t.Plus ∷ t.Minus ∷ t.Star ∷ t.Slash ∷ t.Percent ∷ t.Dot ∷ t.Open ∷ t.OpenBracket ∷
    []

abbrev begins_statements : List Symbol
begins_statements = t.Assert ∷ t.Clear ∷ t.Error ∷ t.For ∷ t.If ∷ t.Put ∷ t.Return ∷ t.Switch ∷ t.Undefine ∷
    t.Name ∷ t.Semicolon ∷ []

abbrev begins_statement : List Symbol
begins_statement = t.Assert ∷ t.Clear ∷ t.Error ∷ t.For ∷ t.If ∷ t.Put ∷ t.Return ∷ t.Switch ∷ t.Undefine ∷
    t.Name ∷ []

abbrev begins_item : List Symbol
begins_item = t.Invariant ∷ t.Rule ∷ t.RuleSet ∷ t.StartState ∷ []

abbrev goes_on_statements : List Symbol
goes_on_statements = t.Assert ∷ t.Clear ∷ t.Error ∷ t.Exists ∷ t.False ∷ t.For ∷ t.Forall ∷ t.If ∷
    t.IsUndefined ∷ t.Put ∷ t.Return ∷ t.Switch ∷ t.True ∷ t.Undefine ∷ t.Name ∷ t.Number ∷ t.Quoted ∷
    t.NotEqual ∷ t.Arrow ∷ t.LessEqual ∷ t.GreaterEqual ∷ t.Equal ∷ t.Less ∷ t.Greater ∷ t.Plus ∷ t.Minus ∷
    t.Star ∷ t.Slash ∷ t.Percent ∷ t.Ampersand ∷ t.Bar ∷ t.Bang ∷ t.Question ∷ t.Semicolon ∷ t.Dot ∷ t.Open ∷
    t.OpenBracket ∷ []

abbrev goes_on_statement : List Symbol
goes_on_statement = t.Exists ∷ t.False ∷ t.Forall ∷ t.IsUndefined ∷ t.True ∷ t.Name ∷ t.Number ∷ t.Quoted ∷
    t.NotEqual ∷ t.Arrow ∷ t.LessEqual ∷ t.GreaterEqual ∷ t.Equal ∷ t.Less ∷ t.Greater ∷ t.Plus ∷ t.Minus ∷
    t.Star ∷ t.Slash ∷ t.Percent ∷ t.Ampersand ∷ t.Bar ∷ t.Bang ∷ t.Question ∷ t.Dot ∷ t.Open ∷ t.OpenBracket ∷
    []

abbrev goes_on_sum : List Symbol
goes_on_sum = t.Plus ∷ t.Minus ∷ t.Star ∷ t.Slash ∷ t.Percent ∷ t.Dot ∷ t.Open ∷ t.OpenBracket ∷ []

abbrev goes_on_formals : List Symbol
goes_on_formals = t.DotDot ∷ t.Plus ∷ t.Minus ∷ t.Star ∷ t.Slash ∷ t.Percent ∷ t.Semicolon ∷ t.Dot ∷ t.Open ∷
    t.OpenBracket ∷ []

abbrev goes_on_expression : List Symbol
goes_on_expression = t.NotEqual ∷ t.Arrow ∷ t.LessEqual ∷ t.GreaterEqual ∷ t.Equal ∷ t.Less ∷ t.Greater ∷
    t.Plus ∷ t.Minus ∷ t.Star ∷ t.Slash ∷ t.Percent ∷ t.Ampersand ∷ t.Bar ∷ t.Question ∷ t.Dot ∷ t.Open ∷
    t.OpenBracket ∷ []

abbrev goes_on_product : List Symbol
goes_on_product = t.Star ∷ t.Slash ∷ t.Percent ∷ t.Dot ∷ t.Open ∷ t.OpenBracket ∷ []

abbrev goes_on_unary : List Symbol
goes_on_unary = t.Dot ∷ t.Open ∷ t.OpenBracket ∷ []

abbrev goes_on_items : List Symbol
goes_on_items = t.Invariant ∷ t.Rule ∷ t.RuleSet ∷ t.StartState ∷ t.NotEqual ∷ t.Arrow ∷ t.LessEqual ∷
    t.GreaterEqual ∷ t.Equal ∷ t.Less ∷ t.Greater ∷ t.Plus ∷ t.Minus ∷ t.Star ∷ t.Slash ∷ t.Percent ∷
    t.Ampersand ∷ t.Bar ∷ t.Question ∷ t.Semicolon ∷ t.Dot ∷ t.Open ∷ t.OpenBracket ∷ []

abbrev goes_on_args : List Symbol
goes_on_args = t.NotEqual ∷ t.Arrow ∷ t.LessEqual ∷ t.GreaterEqual ∷ t.Equal ∷ t.Less ∷ t.Greater ∷ t.Plus ∷
    t.Minus ∷ t.Star ∷ t.Slash ∷ t.Percent ∷ t.Ampersand ∷ t.Bar ∷ t.Question ∷ t.Comma ∷ t.Dot ∷ t.Open ∷
    t.OpenBracket ∷ []

abbrev goes_on_implies : List Symbol
goes_on_implies = t.NotEqual ∷ t.Arrow ∷ t.LessEqual ∷ t.GreaterEqual ∷ t.Equal ∷ t.Less ∷ t.Greater ∷
    t.Plus ∷ t.Minus ∷ t.Star ∷ t.Slash ∷ t.Percent ∷ t.Ampersand ∷ t.Bar ∷ t.Dot ∷ t.Open ∷ t.OpenBracket ∷ []

abbrev goes_on_or : List Symbol
goes_on_or = t.NotEqual ∷ t.LessEqual ∷ t.GreaterEqual ∷ t.Equal ∷ t.Less ∷ t.Greater ∷ t.Plus ∷ t.Minus ∷
    t.Star ∷ t.Slash ∷ t.Percent ∷ t.Ampersand ∷ t.Bar ∷ t.Dot ∷ t.Open ∷ t.OpenBracket ∷ []

abbrev goes_on_and : List Symbol
goes_on_and = t.NotEqual ∷ t.LessEqual ∷ t.GreaterEqual ∷ t.Equal ∷ t.Less ∷ t.Greater ∷ t.Plus ∷ t.Minus ∷
    t.Star ∷ t.Slash ∷ t.Percent ∷ t.Ampersand ∷ t.Dot ∷ t.Open ∷ t.OpenBracket ∷ []

abbrev goes_on_not : List Symbol
goes_on_not = t.NotEqual ∷ t.LessEqual ∷ t.GreaterEqual ∷ t.Equal ∷ t.Less ∷ t.Greater ∷ t.Plus ∷ t.Minus ∷
    t.Star ∷ t.Slash ∷ t.Percent ∷ t.Dot ∷ t.Open ∷ t.OpenBracket ∷ []

abbrev pub can_be_empty : Name → Bool
can_be_empty n.Protocol = false
can_be_empty n.Declare = false
can_be_empty n.NameList = false
can_be_empty n.Routine = false
can_be_empty n.Formals = false
can_be_empty n.Formal = false
can_be_empty n.Body = true
can_be_empty n.TypeForm = false
can_be_empty n.Fields = true
can_be_empty n.Items = true
can_be_empty n.Item = false
can_be_empty n.Bind = false
can_be_empty n.Stmts = true
can_be_empty n.Stmt = false
can_be_empty n.Args = false
can_be_empty n.Expr = false
can_be_empty n.Implies = false
can_be_empty n.Or = false
can_be_empty n.And = false
can_be_empty n.Not = false
can_be_empty n.Compare = false
can_be_empty n.Sum = false
can_be_empty n.Product = false
can_be_empty n.Unary = false
can_be_empty n.Primary = false
can_be_empty n.Place = false
can_be_empty n.LemmaItem = false
can_be_empty n.FlowItem = false
can_be_empty (n.Cut n.Declarations) = true
can_be_empty (n.Cut n.Gaps) = true
can_be_empty (n.Cut n.MoreItems) = true
can_be_empty (n.Cut n.Constants) = true
can_be_empty (n.Cut n.TypeNames) = true
can_be_empty (n.Cut n.VariableLists) = true
can_be_empty (n.Cut n.MoreNames) = true
can_be_empty (n.Cut n.FormalsIn) = false
can_be_empty (n.Cut n.MoreFormals) = true
can_be_empty (n.Cut n.Locals) = true
can_be_empty (n.Cut n.Title) = true
can_be_empty (n.Cut n.MoreBinds) = true
can_be_empty (n.Cut n.BindRest) = false
can_be_empty (n.Cut n.MoreStmts) = true
can_be_empty (n.Cut n.StmtRest) = false
can_be_empty (n.Cut n.IfArm) = false
can_be_empty (n.Cut n.MoreArms) = true
can_be_empty (n.Cut n.CaseArm) = false
can_be_empty (n.Cut n.Cases) = true
can_be_empty (n.Cut n.MoreLabels) = true
can_be_empty (n.Cut n.Otherwise) = true
can_be_empty (n.Cut n.Arguments) = false
can_be_empty (n.Cut n.MoreArgs) = true
can_be_empty (n.Cut n.OrLinks) = true
can_be_empty (n.Cut n.AndLinks) = true
can_be_empty (n.Cut n.SumLinks) = true
can_be_empty (n.Cut n.ProductLinks) = true
can_be_empty (n.Cut n.CompareSign) = false
can_be_empty (n.Cut n.SumSign) = false
can_be_empty (n.Cut n.ProductSign) = false
can_be_empty (n.Cut n.OneSelector) = false
can_be_empty (n.Cut n.Selectors) = true
can_be_empty (n.Cut n.NameRest) = true
can_be_empty (n.Cut n.NamePrimary) = false
can_be_empty (n.Cut n.OtherPrimary) = false
can_be_empty (n.Cut n.Binder) = false
can_be_empty (n.Cut n.OtherUnary) = false
can_be_empty (n.Cut n.OtherProduct) = false
can_be_empty (n.Cut n.OtherSum) = false
can_be_empty (n.Cut n.RangeTail) = false
can_be_empty (n.Cut n.RuleRest) = false

-- what may begin each form
abbrev pub starts : Name → List Symbol
starts n.Protocol = t.Const ∷ t.Function ∷ t.Invariant ∷ t.Procedure ∷ t.Rule ∷ t.RuleSet ∷ t.StartState ∷
    t.Type ∷ t.Var ∷ t.Semicolon ∷ []
starts n.Declare = begins_declaration
starts n.NameList = t.Name ∷ []
starts n.Routine = t.Function ∷ t.Procedure ∷ []
starts n.Formals = t.Var ∷ t.Name ∷ []
starts n.Formal = t.Var ∷ t.Name ∷ []
starts n.Body = t.Assert ∷ t.Begin ∷ t.Clear ∷ t.Const ∷ t.Error ∷ t.For ∷ t.If ∷ t.Put ∷ t.Return ∷
    t.Switch ∷ t.Type ∷ t.Undefine ∷ t.Var ∷ t.Name ∷ t.Semicolon ∷ []
starts n.TypeForm = t.Array ∷ t.Boolean ∷ t.Enum ∷ t.Exists ∷ t.False ∷ t.Forall ∷ t.IsUndefined ∷ t.Record ∷
    t.Scalarset ∷ t.True ∷ t.Name ∷ t.Number ∷ t.Minus ∷ t.Open ∷ []
starts n.Fields = t.Name ∷ []
starts n.Items = t.Invariant ∷ t.Rule ∷ t.RuleSet ∷ t.StartState ∷ t.Semicolon ∷ []
starts n.Item = begins_item
starts n.Bind = t.Name ∷ []
starts n.Stmts = begins_statements
starts n.Stmt = begins_statement
starts n.Args = begins_expression
starts n.Expr = begins_expression
starts n.Implies = begins_expression
starts n.Or = begins_expression
starts n.And = begins_expression
starts n.Not = begins_expression
starts n.Compare = begins_sum
starts n.Sum = begins_sum
starts n.Product = begins_sum
starts n.Unary = begins_sum
starts n.Primary = t.Exists ∷ t.False ∷ t.Forall ∷ t.IsUndefined ∷ t.True ∷ t.Name ∷ t.Number ∷ t.Open ∷ []
starts n.Place = t.Name ∷ []
starts n.LemmaItem = t.Name ∷ []
starts n.FlowItem = t.Name ∷ []
starts (n.Cut n.Declarations) = t.Const ∷ t.Function ∷ t.Procedure ∷ t.Type ∷ t.Var ∷ []
starts (n.Cut n.Gaps) = t.Semicolon ∷ []
starts (n.Cut n.MoreItems) = t.Semicolon ∷ []
starts (n.Cut n.Constants) = t.Name ∷ []
starts (n.Cut n.TypeNames) = t.Name ∷ []
starts (n.Cut n.VariableLists) = t.Name ∷ []
starts (n.Cut n.MoreNames) = t.Comma ∷ []
starts (n.Cut n.FormalsIn) = t.Open ∷ []
starts (n.Cut n.MoreFormals) = t.Semicolon ∷ []
starts (n.Cut n.Locals) = begins_declaration
starts (n.Cut n.Title) = t.Quoted ∷ []
starts (n.Cut n.MoreBinds) = t.Semicolon ∷ []
starts (n.Cut n.BindRest) = t.Becomes ∷ t.Colon ∷ []
starts (n.Cut n.MoreStmts) = t.Semicolon ∷ []
starts (n.Cut n.StmtRest) = t.Becomes ∷ t.Dot ∷ t.Open ∷ t.OpenBracket ∷ []
starts (n.Cut n.IfArm) = begins_expression
starts (n.Cut n.MoreArms) = t.Elsif ∷ []
starts (n.Cut n.CaseArm) = t.Case ∷ []
starts (n.Cut n.Cases) = t.Case ∷ []
starts (n.Cut n.MoreLabels) = t.Comma ∷ []
starts (n.Cut n.Otherwise) = t.Else ∷ []
starts (n.Cut n.Arguments) = t.Open ∷ []
starts (n.Cut n.MoreArgs) = t.Comma ∷ []
starts (n.Cut n.OrLinks) = t.Bar ∷ []
starts (n.Cut n.AndLinks) = t.Ampersand ∷ []
starts (n.Cut n.SumLinks) = t.Plus ∷ t.Minus ∷ []
starts (n.Cut n.ProductLinks) = t.Star ∷ t.Slash ∷ t.Percent ∷ []
starts (n.Cut n.CompareSign) = t.NotEqual ∷ t.LessEqual ∷ t.GreaterEqual ∷ t.Equal ∷ t.Less ∷ t.Greater ∷ []
starts (n.Cut n.SumSign) = t.Plus ∷ t.Minus ∷ []
starts (n.Cut n.ProductSign) = t.Star ∷ t.Slash ∷ t.Percent ∷ []
starts (n.Cut n.OneSelector) = t.Dot ∷ t.OpenBracket ∷ []
starts (n.Cut n.Selectors) = t.Dot ∷ t.OpenBracket ∷ []
starts (n.Cut n.NameRest) = goes_on_unary
starts (n.Cut n.NamePrimary) = t.Name ∷ []
starts (n.Cut n.OtherPrimary) = t.Exists ∷ t.False ∷ t.Forall ∷ t.IsUndefined ∷ t.True ∷ t.Number ∷ t.Open ∷
    []
starts (n.Cut n.Binder) = t.Exists ∷ t.Forall ∷ t.IsUndefined ∷ []
starts (n.Cut n.OtherUnary) = begins_other_sum
starts (n.Cut n.OtherProduct) = begins_other_sum
starts (n.Cut n.OtherSum) = begins_other_sum
starts (n.Cut n.RangeTail) = goes_on_type
starts (n.Cut n.RuleRest) = t.Begin ∷ t.Const ∷ t.Exists ∷ t.False ∷ t.Forall ∷ t.IsUndefined ∷ t.True ∷
    t.Type ∷ t.Var ∷ t.Name ∷ t.Number ∷ t.Minus ∷ t.Bang ∷ t.Open ∷ []

-- what may carry on each form that is already whole
abbrev pub goes_on : Name → List Symbol
goes_on n.Protocol = []
goes_on n.Declare = t.Name ∷ []
goes_on n.NameList = t.Comma ∷ []
goes_on n.Routine = []
goes_on n.Formals = goes_on_formals
goes_on n.Formal = goes_on_type
goes_on n.Body = t.Assert ∷ t.Begin ∷ t.Clear ∷ t.Const ∷ t.Error ∷ t.Exists ∷ t.False ∷ t.For ∷ t.Forall ∷
    t.If ∷ t.IsUndefined ∷ t.Put ∷ t.Return ∷ t.Switch ∷ t.True ∷ t.Type ∷ t.Undefine ∷ t.Var ∷ t.Name ∷
    t.Number ∷ t.Quoted ∷ t.NotEqual ∷ t.Arrow ∷ t.LessEqual ∷ t.GreaterEqual ∷ t.Equal ∷ t.Less ∷ t.Greater ∷
    t.Plus ∷ t.Minus ∷ t.Star ∷ t.Slash ∷ t.Percent ∷ t.Ampersand ∷ t.Bar ∷ t.Bang ∷ t.Question ∷ t.Semicolon ∷
    t.Dot ∷ t.Open ∷ t.OpenBracket ∷ []
goes_on n.TypeForm = goes_on_type
goes_on n.Fields = t.Name ∷ t.DotDot ∷ t.Plus ∷ t.Minus ∷ t.Star ∷ t.Slash ∷ t.Percent ∷ t.Semicolon ∷ t.Dot ∷
    t.Open ∷ t.OpenBracket ∷ []
goes_on n.Items = goes_on_items
goes_on n.Item = goes_on_expression
goes_on n.Bind = goes_on_type
goes_on n.Stmts = goes_on_statements
goes_on n.Stmt = goes_on_statement
goes_on n.Args = goes_on_args
goes_on n.Expr = goes_on_expression
goes_on n.Implies = goes_on_implies
goes_on n.Or = goes_on_or
goes_on n.And = goes_on_and
goes_on n.Not = goes_on_not
goes_on n.Compare = goes_on_not
goes_on n.Sum = goes_on_sum
goes_on n.Product = goes_on_product
goes_on n.Unary = goes_on_unary
goes_on n.Primary = goes_on_unary
goes_on n.Place = t.Dot ∷ t.OpenBracket ∷ []
goes_on n.LemmaItem = []
goes_on n.FlowItem = []
goes_on (n.Cut n.Declarations) = t.Const ∷ t.Function ∷ t.Procedure ∷ t.Type ∷ t.Var ∷ t.Name ∷ []
goes_on (n.Cut n.Gaps) = t.Semicolon ∷ []
goes_on (n.Cut n.MoreItems) = goes_on_items
goes_on (n.Cut n.Constants) = t.Name ∷ []
goes_on (n.Cut n.TypeNames) = t.Name ∷ []
goes_on (n.Cut n.VariableLists) = t.Name ∷ []
goes_on (n.Cut n.MoreNames) = t.Comma ∷ []
goes_on (n.Cut n.FormalsIn) = []
goes_on (n.Cut n.MoreFormals) = goes_on_formals
goes_on (n.Cut n.Locals) = t.Const ∷ t.Type ∷ t.Var ∷ t.Name ∷ []
goes_on (n.Cut n.Title) = t.Quoted ∷ []
goes_on (n.Cut n.MoreBinds) = goes_on_formals
goes_on (n.Cut n.BindRest) = goes_on_type
goes_on (n.Cut n.MoreStmts) = goes_on_statements
goes_on (n.Cut n.StmtRest) = goes_on_expression
goes_on (n.Cut n.IfArm) = goes_on_statements
goes_on (n.Cut n.MoreArms) = t.Assert ∷ t.Clear ∷ t.Elsif ∷ t.Error ∷ t.Exists ∷ t.False ∷ t.For ∷ t.Forall ∷
    t.If ∷ t.IsUndefined ∷ t.Put ∷ t.Return ∷ t.Switch ∷ t.True ∷ t.Undefine ∷ t.Name ∷ t.Number ∷ t.Quoted ∷
    t.NotEqual ∷ t.Arrow ∷ t.LessEqual ∷ t.GreaterEqual ∷ t.Equal ∷ t.Less ∷ t.Greater ∷ t.Plus ∷ t.Minus ∷
    t.Star ∷ t.Slash ∷ t.Percent ∷ t.Ampersand ∷ t.Bar ∷ t.Bang ∷ t.Question ∷ t.Semicolon ∷ t.Dot ∷ t.Open ∷
    t.OpenBracket ∷ []
goes_on (n.Cut n.CaseArm) = goes_on_statements
goes_on (n.Cut n.Cases) = t.Assert ∷ t.Case ∷ t.Clear ∷ t.Error ∷ t.Exists ∷ t.False ∷ t.For ∷ t.Forall ∷
    t.If ∷ t.IsUndefined ∷ t.Put ∷ t.Return ∷ t.Switch ∷ t.True ∷ t.Undefine ∷ t.Name ∷ t.Number ∷ t.Quoted ∷
    t.NotEqual ∷ t.Arrow ∷ t.LessEqual ∷ t.GreaterEqual ∷ t.Equal ∷ t.Less ∷ t.Greater ∷ t.Plus ∷ t.Minus ∷
    t.Star ∷ t.Slash ∷ t.Percent ∷ t.Ampersand ∷ t.Bar ∷ t.Bang ∷ t.Question ∷ t.Semicolon ∷ t.Dot ∷ t.Open ∷
    t.OpenBracket ∷ []
goes_on (n.Cut n.MoreLabels) = t.NotEqual ∷ t.Arrow ∷ t.LessEqual ∷ t.GreaterEqual ∷ t.Equal ∷ t.Less ∷
    t.Greater ∷ t.Plus ∷ t.Minus ∷ t.Star ∷ t.Slash ∷ t.Percent ∷ t.Ampersand ∷ t.Bar ∷ t.Comma ∷ t.Dot ∷
    t.Open ∷ t.OpenBracket ∷ []
goes_on (n.Cut n.Otherwise) = t.Assert ∷ t.Clear ∷ t.Else ∷ t.Error ∷ t.Exists ∷ t.False ∷ t.For ∷ t.Forall ∷
    t.If ∷ t.IsUndefined ∷ t.Put ∷ t.Return ∷ t.Switch ∷ t.True ∷ t.Undefine ∷ t.Name ∷ t.Number ∷ t.Quoted ∷
    t.NotEqual ∷ t.Arrow ∷ t.LessEqual ∷ t.GreaterEqual ∷ t.Equal ∷ t.Less ∷ t.Greater ∷ t.Plus ∷ t.Minus ∷
    t.Star ∷ t.Slash ∷ t.Percent ∷ t.Ampersand ∷ t.Bar ∷ t.Bang ∷ t.Question ∷ t.Semicolon ∷ t.Dot ∷ t.Open ∷
    t.OpenBracket ∷ []
goes_on (n.Cut n.Arguments) = []
goes_on (n.Cut n.MoreArgs) = goes_on_args
goes_on (n.Cut n.OrLinks) = goes_on_or
goes_on (n.Cut n.AndLinks) = goes_on_and
goes_on (n.Cut n.SumLinks) = goes_on_sum
goes_on (n.Cut n.ProductLinks) = goes_on_product
goes_on (n.Cut n.CompareSign) = []
goes_on (n.Cut n.SumSign) = []
goes_on (n.Cut n.ProductSign) = []
goes_on (n.Cut n.OneSelector) = []
goes_on (n.Cut n.Selectors) = t.Dot ∷ t.OpenBracket ∷ []
goes_on (n.Cut n.NameRest) = goes_on_unary
goes_on (n.Cut n.NamePrimary) = goes_on_unary
goes_on (n.Cut n.OtherPrimary) = []
goes_on (n.Cut n.Binder) = []
goes_on (n.Cut n.OtherUnary) = goes_on_unary
goes_on (n.Cut n.OtherProduct) = goes_on_product
goes_on (n.Cut n.OtherSum) = goes_on_sum
goes_on (n.Cut n.RangeTail) = goes_on_sum
goes_on (n.Cut n.RuleRest) = []

abbrev pub tables : Tables factored
tables = record {
  number = code;
  can_be_empty = can_be_empty;
  starts = λ name. map code (starts name);
  goes_on = λ name. map code (goes_on name);
}

-- The left-factored grammar passes the test: one token decides at each place. All is evaluated.
use Rattle.std.proofs.Common.{◌≡◌, ℕ, zero, suc, List, [], ◌∷◌, true, refl, sym, ap, ◌∙◌}
use Rattle.grammar_core.specs.Test.{is_in, within, apart, fits, tight, null_at, starts_at, IsDecided}
use Rattle.murphi_grammar.specs.declared.symbol.Symbol.{Symbol}
use Rattle.murphi_grammar.specs.declared.symbol.Symbol.TheVariants as t
use Rattle.murphi_grammar.specs.Names.{Name}
use Rattle.murphi_grammar.specs.Names as n
use Rattle.murphi_grammar.specs.Tables.{code, symbols, tables}

-- the symbol at a place of a list
abbrev symbol_at : List Symbol → ℕ → Symbol
symbol_at [] k = t.OtherSign
symbol_at (s ∷ ss) zero = s
symbol_at (s ∷ ss) (suc k) = symbol_at ss k

at_its_number : (s : Symbol) → symbol_at symbols (code s) ≡ s
at_its_number t.Array = refl
at_its_number t.Assert = refl
at_its_number t.Begin = refl
at_its_number t.Boolean = refl
at_its_number t.Case = refl
at_its_number t.Clear = refl
at_its_number t.Const = refl
at_its_number t.Do = refl
at_its_number t.Else = refl
at_its_number t.Elsif = refl
at_its_number t.End = refl
at_its_number t.EndExists = refl
at_its_number t.EndFor = refl
at_its_number t.EndForall = refl
at_its_number t.EndFunction = refl
at_its_number t.EndIf = refl
at_its_number t.EndProcedure = refl
at_its_number t.EndRecord = refl
at_its_number t.EndRule = refl
at_its_number t.EndRuleSet = refl
at_its_number t.EndStartState = refl
at_its_number t.EndSwitch = refl
at_its_number t.Enum = refl
at_its_number t.Error = refl
at_its_number t.Exists = refl
at_its_number t.False = refl
at_its_number t.For = refl
at_its_number t.Forall = refl
at_its_number t.Function = refl
at_its_number t.If = refl
at_its_number t.Invariant = refl
at_its_number t.IsUndefined = refl
at_its_number t.Of = refl
at_its_number t.Procedure = refl
at_its_number t.Put = refl
at_its_number t.Record = refl
at_its_number t.Return = refl
at_its_number t.Rule = refl
at_its_number t.RuleSet = refl
at_its_number t.Scalarset = refl
at_its_number t.StartState = refl
at_its_number t.Switch = refl
at_its_number t.Then = refl
at_its_number t.To = refl
at_its_number t.True = refl
at_its_number t.Type = refl
at_its_number t.Undefine = refl
at_its_number t.Var = refl
at_its_number t.Refused = refl
at_its_number t.Name = refl
at_its_number t.Number = refl
at_its_number t.Quoted = refl
at_its_number t.Becomes = refl
at_its_number t.NotEqual = refl
at_its_number t.Arrow = refl
at_its_number t.DoubleArrow = refl
at_its_number t.DotDot = refl
at_its_number t.LessEqual = refl
at_its_number t.GreaterEqual = refl
at_its_number t.Equal = refl
at_its_number t.Less = refl
at_its_number t.Greater = refl
at_its_number t.Plus = refl
at_its_number t.Minus = refl
at_its_number t.Star = refl
at_its_number t.Slash = refl
at_its_number t.Percent = refl
at_its_number t.Ampersand = refl
at_its_number t.Bar = refl
at_its_number t.Bang = refl
at_its_number t.Question = refl
at_its_number t.Colon = refl
at_its_number t.Semicolon = refl
at_its_number t.Comma = refl
at_its_number t.Dot = refl
at_its_number t.Open = refl
at_its_number t.Close = refl
at_its_number t.OpenBracket = refl
at_its_number t.CloseBracket = refl
at_its_number t.OpenBrace = refl
at_its_number t.CloseBrace = refl
at_its_number t.OtherSign = refl
at_its_number t.EndOfText = refl

-- different symbols have different numbers
pub differ : (a b : Symbol) → code a ≡ code b → a ≡ b
differ a b e = sym (at_its_number a) ∙ ap (symbol_at symbols) e ∙ at_its_number b

fit : (name : Name) → fits tables name ≡ true
unfolding is_in within apart
fit n.Protocol = refl
fit n.Declare = refl
fit n.NameList = refl
fit n.Routine = refl
fit n.Formals = refl
fit n.Formal = refl
fit n.Body = refl
fit n.TypeForm = refl
fit n.Fields = refl
fit n.Items = refl
fit n.Item = refl
fit n.Bind = refl
fit n.Stmts = refl
fit n.Stmt = refl
fit n.Args = refl
fit n.Expr = refl
fit n.Implies = refl
fit n.Or = refl
fit n.And = refl
fit n.Not = refl
fit n.Compare = refl
fit n.Sum = refl
fit n.Product = refl
fit n.Unary = refl
fit n.Primary = refl
fit n.Place = refl
fit n.LemmaItem = refl
fit n.FlowItem = refl
fit (n.Cut n.Declarations) = refl
fit (n.Cut n.Gaps) = refl
fit (n.Cut n.MoreItems) = refl
fit (n.Cut n.Constants) = refl
fit (n.Cut n.TypeNames) = refl
fit (n.Cut n.VariableLists) = refl
fit (n.Cut n.MoreNames) = refl
fit (n.Cut n.FormalsIn) = refl
fit (n.Cut n.MoreFormals) = refl
fit (n.Cut n.Locals) = refl
fit (n.Cut n.Title) = refl
fit (n.Cut n.MoreBinds) = refl
fit (n.Cut n.BindRest) = refl
fit (n.Cut n.MoreStmts) = refl
fit (n.Cut n.StmtRest) = refl
fit (n.Cut n.IfArm) = refl
fit (n.Cut n.MoreArms) = refl
fit (n.Cut n.CaseArm) = refl
fit (n.Cut n.Cases) = refl
fit (n.Cut n.MoreLabels) = refl
fit (n.Cut n.Otherwise) = refl
fit (n.Cut n.Arguments) = refl
fit (n.Cut n.MoreArgs) = refl
fit (n.Cut n.OrLinks) = refl
fit (n.Cut n.AndLinks) = refl
fit (n.Cut n.SumLinks) = refl
fit (n.Cut n.ProductLinks) = refl
fit (n.Cut n.CompareSign) = refl
fit (n.Cut n.SumSign) = refl
fit (n.Cut n.ProductSign) = refl
fit (n.Cut n.OneSelector) = refl
fit (n.Cut n.Selectors) = refl
fit (n.Cut n.NameRest) = refl
fit (n.Cut n.NamePrimary) = refl
fit (n.Cut n.OtherPrimary) = refl
fit (n.Cut n.Binder) = refl
fit (n.Cut n.OtherUnary) = refl
fit (n.Cut n.OtherProduct) = refl
fit (n.Cut n.OtherSum) = refl
fit (n.Cut n.RangeTail) = refl
fit (n.Cut n.RuleRest) = refl

right : (name : Name) → tight tables 13 name ≡ true
unfolding is_in within apart null_at starts_at
right n.Protocol = refl
right n.Declare = refl
right n.NameList = refl
right n.Routine = refl
right n.Formals = refl
right n.Formal = refl
right n.Body = refl
right n.TypeForm = refl
right n.Fields = refl
right n.Items = refl
right n.Item = refl
right n.Bind = refl
right n.Stmts = refl
right n.Stmt = refl
right n.Args = refl
right n.Expr = refl
right n.Implies = refl
right n.Or = refl
right n.And = refl
right n.Not = refl
right n.Compare = refl
right n.Sum = refl
right n.Product = refl
right n.Unary = refl
right n.Primary = refl
right n.Place = refl
right n.LemmaItem = refl
right n.FlowItem = refl
right (n.Cut n.Declarations) = refl
right (n.Cut n.Gaps) = refl
right (n.Cut n.MoreItems) = refl
right (n.Cut n.Constants) = refl
right (n.Cut n.TypeNames) = refl
right (n.Cut n.VariableLists) = refl
right (n.Cut n.MoreNames) = refl
right (n.Cut n.FormalsIn) = refl
right (n.Cut n.MoreFormals) = refl
right (n.Cut n.Locals) = refl
right (n.Cut n.Title) = refl
right (n.Cut n.MoreBinds) = refl
right (n.Cut n.BindRest) = refl
right (n.Cut n.MoreStmts) = refl
right (n.Cut n.StmtRest) = refl
right (n.Cut n.IfArm) = refl
right (n.Cut n.MoreArms) = refl
right (n.Cut n.CaseArm) = refl
right (n.Cut n.Cases) = refl
right (n.Cut n.MoreLabels) = refl
right (n.Cut n.Otherwise) = refl
right (n.Cut n.Arguments) = refl
right (n.Cut n.MoreArgs) = refl
right (n.Cut n.OrLinks) = refl
right (n.Cut n.AndLinks) = refl
right (n.Cut n.SumLinks) = refl
right (n.Cut n.ProductLinks) = refl
right (n.Cut n.CompareSign) = refl
right (n.Cut n.SumSign) = refl
right (n.Cut n.ProductSign) = refl
right (n.Cut n.OneSelector) = refl
right (n.Cut n.Selectors) = refl
right (n.Cut n.NameRest) = refl
right (n.Cut n.NamePrimary) = refl
right (n.Cut n.OtherPrimary) = refl
right (n.Cut n.Binder) = refl
right (n.Cut n.OtherUnary) = refl
right (n.Cut n.OtherProduct) = refl
right (n.Cut n.OtherSum) = refl
right (n.Cut n.RangeTail) = refl
right (n.Cut n.RuleRest) = refl

pub decided : IsDecided tables 13
decided = record { fit = fit; right = right; differ = differ }

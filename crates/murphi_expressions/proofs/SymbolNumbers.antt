-- The number of a symbol is its place among the symbols.
use Rattle.std.proofs.Common.{◌≡◌, refl, ap, ◌∙◌}
use Rattle.std.specs.Prelude.{nat_eq}
use denote.Enum.Declared.{tag_of}
use Rattle.murphi_grammar.specs.contracts.symbol.Symbol.{the_type}
use Rattle.murphi_grammar.specs.declared.symbol.Symbol.{Symbol}
use Rattle.murphi_grammar.specs.declared.symbol.Symbol.TheVariants as t
use Rattle.murphi_grammar.specs.Tables.{code}

numbered : (s : Symbol) → tag_of the_type s ≡ code s
numbered t.Array = refl
numbered t.Assert = refl
numbered t.Begin = refl
numbered t.Boolean = refl
numbered t.Case = refl
numbered t.Clear = refl
numbered t.Const = refl
numbered t.Do = refl
numbered t.Else = refl
numbered t.Elsif = refl
numbered t.End = refl
numbered t.EndExists = refl
numbered t.EndFor = refl
numbered t.EndForall = refl
numbered t.EndFunction = refl
numbered t.EndIf = refl
numbered t.EndProcedure = refl
numbered t.EndRecord = refl
numbered t.EndRule = refl
numbered t.EndRuleSet = refl
numbered t.EndStartState = refl
numbered t.EndSwitch = refl
numbered t.Enum = refl
numbered t.Error = refl
numbered t.Exists = refl
numbered t.False = refl
numbered t.For = refl
numbered t.Forall = refl
numbered t.Function = refl
numbered t.If = refl
numbered t.Invariant = refl
numbered t.IsUndefined = refl
numbered t.Of = refl
numbered t.Procedure = refl
numbered t.Put = refl
numbered t.Record = refl
numbered t.Return = refl
numbered t.Rule = refl
numbered t.RuleSet = refl
numbered t.Scalarset = refl
numbered t.StartState = refl
numbered t.Switch = refl
numbered t.Then = refl
numbered t.To = refl
numbered t.True = refl
numbered t.Type = refl
numbered t.Undefine = refl
numbered t.Var = refl
numbered t.Refused = refl
numbered t.Name = refl
numbered t.Number = refl
numbered t.Quoted = refl
numbered t.Becomes = refl
numbered t.NotEqual = refl
numbered t.Arrow = refl
numbered t.DoubleArrow = refl
numbered t.DotDot = refl
numbered t.LessEqual = refl
numbered t.GreaterEqual = refl
numbered t.Equal = refl
numbered t.Less = refl
numbered t.Greater = refl
numbered t.Plus = refl
numbered t.Minus = refl
numbered t.Star = refl
numbered t.Slash = refl
numbered t.Percent = refl
numbered t.Ampersand = refl
numbered t.Bar = refl
numbered t.Bang = refl
numbered t.Question = refl
numbered t.Colon = refl
numbered t.Semicolon = refl
numbered t.Comma = refl
numbered t.Dot = refl
numbered t.Open = refl
numbered t.Close = refl
numbered t.OpenBracket = refl
numbered t.CloseBracket = refl
numbered t.OpenBrace = refl
numbered t.CloseBrace = refl
numbered t.OtherSign = refl
numbered t.EndOfText = refl

pub same : (a b : Symbol) → nat_eq (tag_of the_type a) (tag_of the_type b) ≡ nat_eq (code a) (code b)
same a b = ap (λ z. nat_eq z (tag_of the_type b)) (numbered a) ∙ ap (nat_eq (code a)) (numbered b)

-- The end of a text among its tokens. Mechanism.
use Rattle.std.specs.Prelude.{◌≡◌, Bool, true, false, not, ◌&&◌, List, [], ◌∷◌, ◌++◌}
use Rattle.murphi_ast.specs.declared.token.Token.{Token}
use Rattle.murphi_grammar.specs.declared.symbol.Symbol.{Symbol}
use Rattle.murphi_grammar.specs.declared.symbol.Symbol.TheVariants as t
use Rattle.murphi_grammar.specs.Symbols.{symbol_of}

abbrev pub is_end : Symbol → Bool
is_end t.EndOfText = true
is_end _ = false

-- the end of the text is not among these tokens
abbrev pub has_no_end : List Token → Bool
has_no_end [] = true
has_no_end (x ∷ xs) = not (is_end (symbol_of x)) && has_no_end xs

-- the tokens of a text: the last is the end of the text, and no other is
pub record AreOfText (tokens : List Token) : Type 0 where
  pub front : List Token
  pub last : Token
  pub are : tokens ≡ front ++ last ∷ []
  pub ends : symbol_of last ≡ t.EndOfText
  pub no_other : has_no_end front ≡ true

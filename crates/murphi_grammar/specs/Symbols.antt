-- The symbols of tokens. Key words are read in any case; a refused word is left out of this profile and may
-- stand nowhere; any other word is a name. From the Murphi manual, in this project's profile.
use Rattle.std.specs.Prelude.{ℕ, Bool, List, [], ◌∷◌, ◌++◌, codes, if◌then◌else◌}
use Rattle.std.specs.Str.{bytes_eq}
use Rattle.murphi_ast.specs.Bytes.{lowered}
use Rattle.murphi_ast.specs.declared.token.Token.{Token}
use Rattle.murphi_ast.specs.declared.token.TokenKind.{TokenKind}
use Rattle.murphi_ast.specs.declared.token.TokenKind.TheVariants as kind
use Rattle.murphi_grammar.specs.declared.symbol.Symbol.{Symbol}
use Rattle.murphi_grammar.specs.declared.symbol.Symbol.TheVariants as t

-- words with their symbols
abbrev pub WordTable : Type 0
WordTable = List (List ℕ × Symbol)

-- the key words
abbrev pub key_words : WordTable
key_words =
    (codes "array", t.Array) ∷
    (codes "assert", t.Assert) ∷
    (codes "begin", t.Begin) ∷
    (codes "boolean", t.Boolean) ∷
    (codes "case", t.Case) ∷
    (codes "clear", t.Clear) ∷
    (codes "const", t.Const) ∷
    (codes "do", t.Do) ∷
    (codes "else", t.Else) ∷
    (codes "elsif", t.Elsif) ∷
    (codes "end", t.End) ∷
    (codes "endexists", t.EndExists) ∷
    (codes "endfor", t.EndFor) ∷
    (codes "endforall", t.EndForall) ∷
    (codes "endfunction", t.EndFunction) ∷
    (codes "endif", t.EndIf) ∷
    (codes "endprocedure", t.EndProcedure) ∷
    (codes "endrecord", t.EndRecord) ∷
    (codes "endrule", t.EndRule) ∷
    (codes "endruleset", t.EndRuleSet) ∷
    (codes "endstartstate", t.EndStartState) ∷
    (codes "endswitch", t.EndSwitch) ∷
    (codes "enum", t.Enum) ∷
    (codes "error", t.Error) ∷
    (codes "exists", t.Exists) ∷
    (codes "false", t.False) ∷
    (codes "for", t.For) ∷
    (codes "forall", t.Forall) ∷
    (codes "function", t.Function) ∷
    (codes "if", t.If) ∷
    (codes "invariant", t.Invariant) ∷
    (codes "isundefined", t.IsUndefined) ∷
    (codes "of", t.Of) ∷
    (codes "procedure", t.Procedure) ∷
    (codes "put", t.Put) ∷
    (codes "record", t.Record) ∷
    (codes "return", t.Return) ∷
    (codes "rule", t.Rule) ∷
    (codes "ruleset", t.RuleSet) ∷
    (codes "scalarset", t.Scalarset) ∷
    (codes "startstate", t.StartState) ∷
    (codes "switch", t.Switch) ∷
    (codes "then", t.Then) ∷
    (codes "to", t.To) ∷
    (codes "true", t.True) ∷
    (codes "type", t.Type) ∷
    (codes "undefine", t.Undefine) ∷
    (codes "var", t.Var) ∷
    []

-- the words that are left out of the language
abbrev pub refused_words : WordTable
refused_words =
    (codes "alias", t.Refused) ∷
    (codes "by", t.Refused) ∷
    (codes "choose", t.Refused) ∷
    (codes "endalias", t.Refused) ∷
    (codes "endchoose", t.Refused) ∷
    (codes "endwhile", t.Refused) ∷
    (codes "ismember", t.Refused) ∷
    (codes "multiset", t.Refused) ∷
    (codes "multisetadd", t.Refused) ∷
    (codes "multisetcount", t.Refused) ∷
    (codes "multisetremove", t.Refused) ∷
    (codes "multisetremovepred", t.Refused) ∷
    (codes "real", t.Refused) ∷
    (codes "union", t.Refused) ∷
    (codes "while", t.Refused) ∷
    []

-- the symbol beside a word, or that of a name
abbrev pub found : List ℕ → WordTable → Symbol
found word [] = t.Name
found word ((known, symbol) ∷ rest) = if bytes_eq word known then symbol else found word rest

-- the symbol of a word in small letters
abbrev pub word_symbol : List ℕ → Symbol
word_symbol word = found word (key_words ++ refused_words)

-- the symbol of a sign
abbrev pub sign_symbol : List ℕ → Symbol
sign_symbol sign =
    if bytes_eq sign (codes ":=") then t.Becomes else (
    if bytes_eq sign (codes "!=") then t.NotEqual else (
    if bytes_eq sign (codes "->") then t.Arrow else (
    if bytes_eq sign (codes "==>") then t.DoubleArrow else (
    if bytes_eq sign (codes "..") then t.DotDot else (
    if bytes_eq sign (codes "<=") then t.LessEqual else (
    if bytes_eq sign (codes ">=") then t.GreaterEqual else (
    if bytes_eq sign (codes "=") then t.Equal else (
    if bytes_eq sign (codes "<") then t.Less else (
    if bytes_eq sign (codes ">") then t.Greater else (
    if bytes_eq sign (codes "+") then t.Plus else (
    if bytes_eq sign (codes "-") then t.Minus else (
    if bytes_eq sign (codes "*") then t.Star else (
    if bytes_eq sign (codes "/") then t.Slash else (
    if bytes_eq sign (codes "%") then t.Percent else (
    if bytes_eq sign (codes "&") then t.Ampersand else (
    if bytes_eq sign (codes "|") then t.Bar else (
    if bytes_eq sign (codes "!") then t.Bang else (
    if bytes_eq sign (codes "?") then t.Question else (
    if bytes_eq sign (codes ":") then t.Colon else (
    if bytes_eq sign (codes ";") then t.Semicolon else (
    if bytes_eq sign (codes ",") then t.Comma else (
    if bytes_eq sign (codes ".") then t.Dot else (
    if bytes_eq sign (codes "(") then t.Open else (
    if bytes_eq sign (codes ")") then t.Close else (
    if bytes_eq sign (codes "[") then t.OpenBracket else (
    if bytes_eq sign (codes "]") then t.CloseBracket else (
    if bytes_eq sign (codes "{") then t.OpenBrace else (
    if bytes_eq sign (codes "}") then t.CloseBrace else (
    t.OtherSign)))))))))))))))))))))))))))))

-- the symbol of a token of this kind and text
abbrev pub symbol_by : TokenKind → List ℕ → Symbol
symbol_by kind.Word text = word_symbol (lowered text)
symbol_by kind.Number text = t.Number
symbol_by kind.Quoted text = t.Quoted
symbol_by kind.Sign text = sign_symbol text
symbol_by kind.End text = t.EndOfText

-- the symbol of a token
abbrev pub symbol_of : Token → Symbol
symbol_of token = symbol_by token.kind token.text

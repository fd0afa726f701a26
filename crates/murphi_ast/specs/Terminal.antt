-- The terminal symbols of tokens. Key words are read in any case; a word that is neither a key word nor
-- a refused word is a name.
use Rattle.std.specs.Prelude.{ℕ, Bool, List, [], ◌∷◌, codes, if◌then◌else◌}
use Rattle.std.specs.List.{list_any}
use Rattle.std.specs.Str.{bytes_eq}
use Rattle.murphi_ast.specs.Bytes.{lowered}
use Rattle.murphi_ast.specs.declared.token.Token.{Token}
use Rattle.murphi_ast.specs.declared.token.TokenKind.{TokenKind}
use Rattle.murphi_ast.specs.declared.token.TokenKind.TheVariants as kind
use Rattle.murphi_ast.specs.declared.terminal.Terminal.{Terminal}
use Rattle.murphi_ast.specs.declared.terminal.Terminal.TheVariants as t

-- the key words and refused words that no flat protocol has
abbrev pub other_words : List (List ℕ)
other_words =
    codes "array" ∷ codes "assert" ∷ codes "begin" ∷ codes "case" ∷ codes "clear" ∷ codes "const" ∷
    codes "do" ∷ codes "else" ∷ codes "elsif" ∷ codes "endexists" ∷ codes "endfor" ∷ codes "endforall" ∷
    codes "endfunction" ∷ codes "endif" ∷ codes "endprocedure" ∷ codes "endrecord" ∷ codes "endruleset" ∷ codes "endswitch" ∷
    codes "enum" ∷ codes "error" ∷ codes "exists" ∷ codes "for" ∷ codes "forall" ∷ codes "function" ∷
    codes "if" ∷ codes "isundefined" ∷ codes "of" ∷ codes "procedure" ∷ codes "put" ∷ codes "record" ∷
    codes "return" ∷ codes "ruleset" ∷ codes "scalarset" ∷ codes "switch" ∷ codes "then" ∷ codes "to" ∷
    codes "type" ∷ codes "undefine" ∷ codes "alias" ∷ codes "by" ∷ codes "choose" ∷ codes "endalias" ∷
    codes "endchoose" ∷ codes "endwhile" ∷ codes "ismember" ∷ codes "multiset" ∷ codes "multisetadd" ∷ codes "multisetcount" ∷
    codes "multisetremove" ∷ codes "multisetremovepred" ∷ codes "real" ∷ codes "union" ∷ codes "while" ∷
    []

abbrev pub is_other_word : List ℕ → Bool
is_other_word word = list_any (bytes_eq word) other_words

-- the symbol of a word in small letters
abbrev pub word_terminal : List ℕ → Terminal
word_terminal word =
    if bytes_eq word (codes "var") then t.Var else (
    if bytes_eq word (codes "boolean") then t.Boolean else (
    if bytes_eq word (codes "startstate") then t.StartState else (
    if bytes_eq word (codes "endstartstate") then t.EndStartState else (
    if bytes_eq word (codes "rule") then t.Rule else (
    if bytes_eq word (codes "endrule") then t.EndRule else (
    if bytes_eq word (codes "invariant") then t.Invariant else (
    if bytes_eq word (codes "end") then t.End else (
    if bytes_eq word (codes "true") then t.True else (
    if bytes_eq word (codes "false") then t.False else (
    if is_other_word word then t.OtherWord else t.Name))))))))))

-- the symbol of a sign
abbrev pub sign_terminal : List ℕ → Terminal
sign_terminal sign =
    if bytes_eq sign (codes ":=") then t.Becomes else (
    if bytes_eq sign (codes "==>") then t.Then else (
    if bytes_eq sign (codes "->") then t.Arrow else (
    if bytes_eq sign (codes "=") then t.Equal else (
    if bytes_eq sign (codes "!=") then t.NotEqual else (
    if bytes_eq sign (codes "|") then t.Bar else (
    if bytes_eq sign (codes "&") then t.Ampersand else (
    if bytes_eq sign (codes "!") then t.Bang else (
    if bytes_eq sign (codes ":") then t.Colon else (
    if bytes_eq sign (codes ";") then t.Semicolon else (
    if bytes_eq sign (codes ",") then t.Comma else (
    if bytes_eq sign (codes "(") then t.Open else (
    if bytes_eq sign (codes ")") then t.Close else (
    t.OtherSign)))))))))))))

-- the symbol of a token of this kind and text
abbrev pub terminal_by : TokenKind → List ℕ → Terminal
terminal_by kind.Word text = word_terminal (lowered text)
terminal_by kind.Number text = t.Number
terminal_by kind.Quoted text = t.Quoted
terminal_by kind.Sign text = sign_terminal text
terminal_by kind.End text = t.EndOfText

-- the symbol of a token
abbrev pub terminal_of : Token → Terminal
terminal_of token = terminal_by token.kind token.text

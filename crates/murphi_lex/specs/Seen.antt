-- What the code finds, as the definitions see it.
use Rattle.std.specs.Prelude.{ℕ, ◌≤◌, ◌<◌, List, length}
use Rattle.murphi_ast.specs.Spelling.{Lexeme as Form}
use Rattle.murphi_lex.specs.Scanning.{Front as FrontOf, Gap, Taken, BadByte, NoToken, Reading}
use Rattle.murphi_lex.specs.declared.front.Lexeme.{Lexeme}
use Rattle.murphi_lex.specs.declared.front.Front.{Front}
use Rattle.murphi_lex.specs.declared.front.Front.TheVariants as code
use Rattle.murphi_lex.specs.declared.scanning.Scanned.{Scanned}

abbrev pub lexeme_seen : Lexeme → Form
lexeme_seen l = record { kind = l.kind; text = l.text.now; number = l.number }

abbrev pub seen : Front → FrontOf
seen (code.Gap n) = Gap n
seen (code.Taken l) = Taken (lexeme_seen l) l.length
seen code.BadByte = BadByte
seen code.NoToken = NoToken

-- what was found takes a byte at least, and no more than there are
abbrev pub IsWithin : List ℕ → Front → Type 0
IsWithin bytes (code.Gap n) = (0 < n) × (n ≤ length bytes)
IsWithin bytes (code.Taken l) = (0 < l.length) × (l.length ≤ length bytes)
IsWithin bytes code.BadByte = Unit {0}
IsWithin bytes code.NoToken = Unit {0}

abbrev pub reading_seen : Scanned → Reading
reading_seen s = record { tokens = s.tokens.items; fault = s.fault }

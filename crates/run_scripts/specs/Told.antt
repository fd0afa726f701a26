-- What is told of the bytes of a script: the lines that they write, or why they write none.
use Rattle.std.specs.Prelude.{◌≡◌, ℕ, List, Result, Ok, Err}
use Rattle.murphi_ast.specs.Spelling as bytes
use Rattle.murphi_ast.specs.Spelling.{FaultsFirst}
use Rattle.murphi_ast.specs.declared.token.Token.{Token}
use Rattle.murphi_ast.specs.declared.token.Fault.TheVariants as fault
use Rattle.murphi_lex.specs.declared.scanning.LexRefusal.{LexRefusal}
use Rattle.murphi_lex.specs.declared.scanning.LexRefusal.TheVariants as lex
use Rattle.murphi_typed.specs.declared.protocol.Typed.{Typed}
use Rattle.run_scripts.specs.declared.refusal.Line.{Line}
use Rattle.run_scripts.specs.declared.refusal.ScriptRefusal.{ScriptRefusal}
use Rattle.run_scripts.specs.declared.refusal.ScriptRefusal.TheVariants as refusal
use Rattle.run_scripts.specs.Scripts.{WritesScript, StopsAt}

-- of tokens
abbrev pub Tells : ℕ → Typed → List Token → Result (List Line) ScriptRefusal → Type 0
Tells N T ts (Ok lines) = WritesScript N T ts lines
Tells N T ts (Err (refusal.E19 at)) = StopsAt N T ts at
Tells N T ts (Err (refusal.E02 at)) = ⊥
Tells N T ts (Err (refusal.E03 at)) = ⊥
Tells N T ts (Err refusal.Memory) = Unit {0}

-- of bytes: first what is no token
abbrev pub TellsBytes : ℕ → Typed → List ℕ → Result (List Line) ScriptRefusal → Type 0
TellsBytes N T bs (Err (refusal.E02 at)) = FaultsFirst bs (fault.E02 at)
TellsBytes N T bs (Err (refusal.E03 at)) = FaultsFirst bs (fault.E03 at)
TellsBytes N T bs (Err refusal.Memory) = Unit {0}
TellsBytes N T bs (Err (refusal.E19 at)) = (ts : List Token) × bytes.Spells bs ts × StopsAt N T ts at
TellsBytes N T bs (Ok lines) = (ts : List Token) × bytes.Spells bs ts × WritesScript N T ts lines

-- what may be answered is answered, unless memory runs out
abbrev pub IsAnswered : Result (List Line) ScriptRefusal → Result (List Line) ScriptRefusal → Type 0
IsAnswered result (Err refusal.Memory) = Unit {0}
IsAnswered (Err refusal.Memory) (Ok x) = Unit {0}
IsAnswered (Err refusal.Memory) (Err e) = Unit {0}
IsAnswered result answer = result ≡ answer

-- the refusal of bytes that are not those of tokens
abbrev pub lexed : LexRefusal → ScriptRefusal
lexed (lex.E02 at) = refusal.E02 at
lexed (lex.E03 at) = refusal.E03 at
lexed lex.Memory = refusal.Memory

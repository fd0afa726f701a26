-- What the laws of the grammar say.
use Rattle.std.specs.Prelude.{◌≡◌, ◌↔◌, List}
use Rattle.grammar_core.specs.Forms.{Call}
use Rattle.grammar_core.specs.Spelling.{Room, Spells, Begins}
use Rattle.grammar_core.specs.Reading.{Reading, Reads}
use Rattle.grammar_core.specs.Walk.{Run}
use Rattle.murphi_ast.specs.declared.token.Token.{Token}
use Rattle.murphi_grammar.specs.Names.{Name}
use Rattle.murphi_grammar.specs.Values.{Value}
use Rattle.murphi_grammar.specs.Grammar.{murphi}
use Rattle.murphi_grammar.specs.Factored.{factored}
use Rattle.murphi_grammar.specs.Tables.{tables}

-- the left-factored form spells the same lists as the grammar as it is written, with the same values
abbrev pub SpellsTheSame : Type 0
SpellsTheSame = (room : Room) (name : Name) (tokens : List Token) (value : Value name) →
    Spells factored room (Call name) tokens value ↔ Spells murphi room (Call name) tokens value

-- and the same lists begin its forms
abbrev pub BeginsTheSame : Type 0
BeginsTheSame = (room : Room) (name : Name) (tokens : List Token) →
    Begins factored room (Call name) tokens ↔ Begins murphi room (Call name) tokens

-- no token list spells two values of a named form, in whatever room
abbrev pub SpellsOneValue : Type 0
SpellsOneValue = (room other : Room) (name : Name) (tokens : List Token) (value second : Value name) →
    Spells murphi room (Call name) tokens value → Spells murphi other (Call name) tokens second → value ≡ second

-- no token list is read in two ways
abbrev pub ReadsOneWay : Type 0
ReadsOneWay = (room : Room) (name : Name) (tokens : List Token) (first second : Reading (Value name) Token) →
    Reads murphi room (Call name) tokens first → Reads murphi room (Call name) tokens second → first ≡ second

-- reading as it goes, one token deciding at each choice, is reading
abbrev pub WalksAreReadings : Type 0
WalksAreReadings = (room : Room) (name : Name) (tokens : List Token) (answer : Reading (Value name) Token) →
    Run tables room (Call name) tokens answer → Reads murphi room (Call name) tokens answer

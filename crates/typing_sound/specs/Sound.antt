-- What typing gives is well typed.
use Rattle.std.specs.Prelude.{◌≡◌, ℕ, Bool, true, nat_le, List, [], Option, None, IsTrue}
use Rattle.std.specs.List.{list_all}
use Rattle.grammar_core.specs.Spelling.{Room, Spells}
use Rattle.murphi_ast.specs.Bytes.{greatest_number}
use Rattle.murphi_ast.specs.Spelling.{Spells as SpelledBy}
use Rattle.murphi_ast.specs.declared.token.Token.{Token}
use Rattle.murphi_ast.specs.declared.expr.Expr.{Expr}
use Rattle.murphi_ast.specs.declared.rule.Protocol.{Protocol}
use Rattle.murphi_grammar.specs.Grammar.{murphi}
use Rattle.murphi_grammar.specs.Names as n
use Rattle.murphi_grammar.specs.Parts.{form}
use Rattle.murphi_typed.specs.Families.{Name}
use Rattle.murphi_typed.specs.WellTyped.{is_well_typed, lemma_fits}
use Rattle.murphi_types.specs.Lemmas.{lemma_faults, lemma_typed}
use Rattle.murphi_types.specs.Texts.{refusal, typed_text}
use Rattle.murphi_types.specs.WorkedProtocol.{protocol}
use Rattle.typing_sound.specs.Spelled.{is_spelled, text_spelled}

-- a text that is not refused is typed as a well-typed protocol
abbrev pub TextsAreWellTyped : Type 0
TextsAreWellTyped =
    (node : Option Name) (P : Protocol) → IsTrue (text_spelled P) → refusal node P ≡ None
    → IsTrue (is_well_typed (typed_text node P))

-- and a lemma without faults beside it as a formula of that protocol, with its own kinds
abbrev pub LemmasAreWellTyped : Type 0
LemmasAreWellTyped =
    (node : Option Name) (P : Protocol) (body : Expr) → IsTrue (text_spelled P) → refusal node P ≡ None
    → IsTrue (is_spelled body) → lemma_faults (typed_text node P) body ≡ []
    → IsTrue (lemma_fits (typed_text node P) (lemma_typed (typed_text node P) body))

-- what is asked of a tree is so of mutex.m, with two of its rules
abbrev pub MutexIsSpelled : Type 0
MutexIsSpelled = text_spelled protocol ≡ true

-- the number of a token is one that a text may have
abbrev pub is_small : Token → Bool
is_small x = nat_le x.number greatest_number

-- and of every protocol and every expression that such tokens spell
abbrev pub TreesAreSpelled : Type 0
TreesAreSpelled =
    (room : Room) (tokens : List Token) (P : Protocol) → IsTrue (list_all is_small tokens)
    → Spells murphi room (form n.Protocol) tokens P → IsTrue (text_spelled P)

abbrev pub ExpressionsAreSpelled : Type 0
ExpressionsAreSpelled =
    (room : Room) (tokens : List Token) (e : Expr) → IsTrue (list_all is_small tokens)
    → Spells murphi room (form n.Expr) tokens e → IsTrue (is_spelled e)

-- the numbers of tokens are such, whatever bytes spell them
abbrev pub TokensAreSmall : Type 0
TokensAreSmall =
    (bytes : List ℕ) (tokens : List Token) → SpelledBy bytes tokens → IsTrue (list_all is_small tokens)

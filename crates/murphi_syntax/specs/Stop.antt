-- What a stop of the reader says of the bytes.
use Rattle.std.specs.Prelude.{◌≡◌, ℕ, ◌≤◌, nat_eq, Bool, ◌&&◌, List, length, Option, None, Some, Result, Ok, Err, option_map, slice_get, count_by}
use Rattle.std.specs.List.{list_all}
use Rattle.murphi_ast.specs.declared.token.Token.{Token}
use Rattle.murphi_ast.specs.declared.expr.Named.{Named}
use Rattle.murphi_ast.specs.declared.rule.RuleDecl.{RuleDecl}
use Rattle.murphi_ast.specs.declared.token.Span.{Span}
use Rattle.murphi_ast.specs.declared.token.Fault.{Fault}
use Rattle.murphi_ast.specs.Bytes.{start}
use Rattle.murphi_ast.specs.Spelling.{Reads}
use Rattle.murphi_ast.specs.State.{variables}
use Rattle.murphi_ast.specs.Title.{StartKind, is_of}
use Rattle.murphi_ast.specs.Grammar.{SpellsProtocol}
use Rattle.murphi_ast.specs.Flat.{first_other_word, all_distinct, item_knows, IsFlat, greatest_variables, variable_places, IsUnbuilt, IsNotFlat}
use Rattle.murphi_lex.specs.Places.{IsPlace, StandsAt}
use Rattle.murphi_syntax.specs.Scope.{names_of}
use Rattle.murphi_ast.specs.declared.rule.Protocol.{Protocol}
use Rattle.murphi_syntax.specs.declared.protocol.FlatStop.{FlatStop}
use Rattle.murphi_syntax.specs.declared.protocol.FlatStop.TheVariants.{NotBuilt, NotFlat, Memory}
use Rattle.murphi_syntax.specs.declared.protocol.Parsed.{Parsed}
use Rattle.murphi_syntax.specs.declared.protocol.Parsed.TheVariants.{Tree, NoTree}

-- what the stop tells of the bytes; want of memory tells nothing
abbrev pub IsStop : List ℕ → FlatStop → Type 0
IsStop bytes (NotBuilt at) = IsUnbuilt bytes at
IsStop bytes (NotFlat at) = IsNotFlat bytes
IsStop bytes Memory = Unit {0}

-- the stop is that something is not built, at this place, unless memory ran out
abbrev pub TellsUnbuilt : FlatStop → Span → Type 0
TellsUnbuilt (NotBuilt at) place = at ≡ place
TellsUnbuilt (NotFlat at) place = ⊥
TellsUnbuilt Memory place = Unit {0}

-- the stop is that the bytes spell no flat protocol, unless memory ran out
abbrev pub TellsNotFlat : FlatStop → Type 0
TellsNotFlat (NotBuilt at) = ⊥
TellsNotFlat (NotFlat at) = Unit {0}
TellsNotFlat Memory = Unit {0}

-- what does not fit is named by a place of the text
abbrev pub IsPlaced : List ℕ → FlatStop → Type 0
IsPlaced bytes (NotBuilt at) = Unit {0}
IsPlaced bytes (NotFlat at) = IsPlace bytes at
IsPlaced bytes Memory = Unit {0}

-- a place that one of the tokens names, or the start of the text
pub data IsNamed (tokens : List Token) : Span → Type 0 where
  of_token : (at : Span) → StandsAt tokens at → IsNamed tokens at
  at_start : IsNamed tokens start

-- what does not fit is named by such a place
abbrev pub IsNamedBy : List Token → FlatStop → Type 0
IsNamedBy tokens (NotBuilt at) = Unit {0}
IsNamedBy tokens (NotFlat at) = IsNamed tokens at
IsNamedBy tokens Memory = Unit {0}

-- a protocol that was read, or none
abbrev pub parsed_of : Parsed → Option Protocol
parsed_of (Tree p) = Some p
parsed_of (NoTree place) = None

-- what the grammar does not say, tested: one start state, each variable declared once, and each name
-- that is used declared
abbrev pub is_flat : List Named → List RuleDecl → Bool
is_flat ns rules =
    nat_eq (count_by (is_of StartKind) rules) 1 && (all_distinct (names_of ns) && list_all (item_knows (names_of ns)) rules)

-- the place of the ninth of names
abbrev pub ninth : List Named → Option Span
ninth ns = option_map (λ (n : Named). n.at) (slice_get ns greatest_variables)

-- what is answered of a tree that follows the grammar
unfoldable pub Judged : Protocol → Result Protocol FlatStop → Type 0
Judged p (Ok q) = (q ≡ p) × IsFlat p × (length (variables p) ≤ greatest_variables)
Judged p (Err (NotBuilt at)) = IsFlat p × (slice_get (variable_places p) greatest_variables ≡ Some at)
Judged p (Err (NotFlat at)) = IsFlat p → ⊥
Judged p (Err Memory) = Unit {0}

-- what is answered of tokens
unfoldable pub SaysOf : List Token → Result Protocol FlatStop → Type 0
SaysOf tokens (Ok p) = SpellsProtocol tokens p × IsFlat p × (length (variables p) ≤ greatest_variables)
SaysOf tokens (Err (NotBuilt at)) =
    (p : Protocol) × SpellsProtocol tokens p × IsFlat p
    × (slice_get (variable_places p) greatest_variables ≡ Some at)
SaysOf tokens (Err (NotFlat at)) = (p : Protocol) → SpellsProtocol tokens p → IsFlat p → ⊥
SaysOf tokens (Err Memory) = Unit {0}

-- what is answered of bytes: want of memory; or that a word stands there which no flat protocol has; or
-- that the text has a fault; or what is answered of its tokens
pub data FlatSays (bytes : List ℕ) : Result Protocol FlatStop → Type 0 where
  wants_memory : FlatSays bytes (Err Memory)
  has_word : (tokens : List Token) (fault : Option Fault) (at : Span) → Reads start bytes tokens fault →
      first_other_word tokens ≡ Some at → FlatSays bytes (Err (NotBuilt at))
  has_fault : (tokens : List Token) (fault : Fault) (at : Span) → Reads start bytes tokens (Some fault) →
      first_other_word tokens ≡ None → FlatSays bytes (Err (NotFlat at))
  says : (tokens : List Token) (r : Result Protocol FlatStop) → Reads start bytes tokens None →
      first_other_word tokens ≡ None → SaysOf tokens r → FlatSays bytes r

-- What a script is: `start` with a title and values, then lines of `fire` with a title and values, each closed
-- by `;`. And where reading stops: at the first token with which those before it begin no script, where a value
-- of two tokens counts as one.
use Rattle.std.specs.Prelude.{codes, ◌≡◌, ℕ, suc, Bool, true, false, List, [], ◌∷◌, ◌++◌, map, Option, None, Some, option_map, slice_get, if◌then◌else◌}
use Rattle.std.specs.Option.{option_map_or}
use Rattle.std.specs.Str.{bytes_eq}
use Rattle.term_core.specs.declared.value.Value.{Value}
use Rattle.murphi_ast.specs.declared.token.Span.{Span}
use Rattle.murphi_ast.specs.declared.token.Token.{Token}
use Rattle.murphi_ast.specs.declared.token.TokenKind.TheVariants as token
use Rattle.murphi_typed.specs.declared.types.Simple.{Simple}
use Rattle.murphi_typed.specs.declared.types.Kind.{Kind}
use Rattle.murphi_typed.specs.declared.protocol.Rule.{Rule}
use Rattle.murphi_typed.specs.declared.protocol.Start.{Start}
use Rattle.murphi_typed.specs.declared.protocol.Typed.{Typed}
use Rattle.run_scripts.specs.declared.refusal.Line.{Line}
use Rattle.run_scripts.specs.Values.{over_of, one_value, minus_value}

abbrev pub rule_title : Rule → List ℕ
rule_title r = r.title

abbrev pub start_title : Start → List ℕ
start_title s = s.title

-- the titles of the rules, or of the start states
abbrev pub titles : Typed → Bool → List (List ℕ)
titles T firing = if firing then map rule_title T.rules else map start_title T.starts

abbrev pub rule_params : Rule → List Simple
rule_params r = map over_of r.params

abbrev pub start_params : Start → List Simple
start_params s = map over_of s.params

-- the types of the parameters of a rule or start state, the outermost first
abbrev pub params : Typed → Bool → ℕ → List Simple
params T firing which =
    if firing then option_map_or rule_params (slice_get T.rules which) []
    else option_map_or start_params (slice_get T.starts which) []

-- the number of the first with this title; in a protocol that is typed no two rules have one title, and no two
-- start states
abbrev pub first_of : List (List ℕ) → List ℕ → Option ℕ
first_of [] name = None
first_of (x ∷ xs) name = if bytes_eq x name then Some 0 else option_map suc (first_of xs name)

-- the word at the front of a line
abbrev pub line_word : Bool → List ℕ
line_word firing = if firing then codes "fire" else codes "start"

-- what a token is: a word of these letters, this sign, a number, a string, the end of the text
abbrev pub IsWord : List ℕ → Token → Type 0
IsWord word x = (x.kind ≡ token.Word) × (x.text ≡ word)

abbrev pub IsSign : List ℕ → Token → Type 0
IsSign sign x = (x.kind ≡ token.Sign) × (x.text ≡ sign)

abbrev pub IsMinus : Token → Type 0
IsMinus x = IsSign (codes "-") x

abbrev pub IsNumber : Token → Type 0
IsNumber x = x.kind ≡ token.Number

abbrev pub IsString : Token → Type 0
IsString x = x.kind ≡ token.Quoted

abbrev pub IsEnd : Token → Type 0
IsEnd x = x.kind ≡ token.End

-- the tokens write a value of a type
pub data WritesValue (N : ℕ) (kinds : List Kind) (over : Simple) : List Token → Value → Type 0 where
  one : {v : Value} (x : Token) → one_value N kinds over x ≡ Some v → WritesValue N kinds over (x ∷ []) v
  minus : {v : Value} (m x : Token) → IsMinus m → IsNumber x →
      minus_value N over x.number ≡ Some v → WritesValue N kinds over (m ∷ x ∷ []) v

-- they write a value of each of these types, one after the other
pub data WritesValues (N : ℕ) (kinds : List Kind) : List Simple → List Token → List Value → Type 0 where
  none : WritesValues N kinds [] [] []
  more : {over : Simple} {overs : List Simple} {us ts all : List Token} {v : Value} {vs : List Value} →
      WritesValue N kinds over us v → WritesValues N kinds overs ts vs → all ≡ us ++ ts →
      WritesValues N kinds (over ∷ overs) all (v ∷ vs)

-- they write a line
pub data WritesLine (N : ℕ) (T : Typed) (firing : Bool) : List Token → Line → Type 0 where
  line : {all us : List Token} {which : ℕ} {vs : List Value} (x y z : Token) → IsWord (line_word firing) x →
      IsString y → first_of (titles T firing) y.text ≡ Some which →
      WritesValues N T.kinds (params T firing which) us vs → IsSign (codes ";") z →
      all ≡ x ∷ y ∷ (us ++ z ∷ []) → WritesLine N T firing all (record { which = which; values = vs })

-- they write lines that fire rules, up to the end of the text
pub data WritesFires (N : ℕ) (T : Typed) : List Token → List Line → Type 0 where
  ended : (x : Token) → IsEnd x → WritesFires N T (x ∷ []) []
  more : {us ts all : List Token} {l : Line} {ls : List Line} → WritesLine N T true us l → WritesFires N T ts ls →
      all ≡ us ++ ts → WritesFires N T all (l ∷ ls)

-- they write a script: its first line names a start state
pub data WritesScript (N : ℕ) (T : Typed) : List Token → List Line → Type 0 where
  script : {us ts all : List Token} {l : Line} {ls : List Line} → WritesLine N T false us l →
      WritesFires N T ts ls → all ≡ us ++ ts → WritesScript N T all (l ∷ ls)

-- some tokens behind these make a script of them; none begin any
pub record GoesOn (N : ℕ) (T : Typed) (ts : List Token) : Type 0 where
  pub behind : List Token
  pub lines : List Line
  pub whole : WritesScript N T (ts ++ behind) lines

abbrev pub Begins : ℕ → Typed → List Token → Type 0
Begins N T [] = Unit {0}
Begins N T (x ∷ xs) = GoesOn N T (x ∷ xs)

-- the last token is `-`; the first one is a number
abbrev pub EndsInMinus : List Token → Type 0
EndsInMinus ts = (front : List Token) × (m : Token) × (ts ≡ front ++ m ∷ []) × IsMinus m

abbrev pub StartsWithNumber : List Token → Type 0
StartsWithNumber ts = (x : Token) × (behind : List Token) × (ts ≡ x ∷ behind) × IsNumber x

-- Between the tokens before and behind these count as one: `-` with the number behind it, or one token that is
-- neither a part of such a pair.
pub data CountsAsOne (front : List Token) : List Token → List Token → Type 0 where
  single : {behind : List Token} (x : Token) → (IsMinus x → StartsWithNumber behind → ⊥) →
      (EndsInMinus front → IsNumber x → ⊥) → CountsAsOne front (x ∷ []) behind
  pair : {behind : List Token} (m x : Token) → IsMinus m → IsNumber x → CountsAsOne front (m ∷ x ∷ []) behind

-- reading stops at the token that stands here: the tokens before it begin a script, and with it, or with the two
-- that count as one, they do so no longer
pub record StopsAt (N : ℕ) (T : Typed) (ts : List Token) (at : Span) : Type 0 where
  pub front : List Token
  pub token : Token
  pub rest : List Token
  pub behind : List Token
  pub are : ts ≡ front ++ ((token ∷ rest) ++ behind)
  pub counts : CountsAsOne front (token ∷ rest) behind
  pub place : at ≡ token.at
  pub begun : Begins N T front
  pub ends : Begins N T (front ++ (token ∷ rest)) → ⊥

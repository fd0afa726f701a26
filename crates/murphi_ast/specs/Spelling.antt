-- How the bytes of a text spell its tokens: gaps and tokens by turns, each token the longest that
-- starts at its place. From the Murphi manual, in this project's profile.
use Rattle.std.specs.Prelude.{◌≡◌, ℕ, ◌≤◌, ◌<◌, Bool, true, false, not, nat_eq, ◌==◌, ◌&&◌, ◌||◌, List, [], ◌∷◌, ◌++◌, length, codes, IsTrue, IsFalse, Option, None, Some}
use Rattle.std.specs.List.{list_all, list_any}
use Rattle.std.specs.Cmp.Lexicographic.{pointwise}
use Rattle.murphi_ast.specs.Bytes.{is_letter, is_digit, is_word_byte, is_white, is_allowed, is_string_byte, is_line_byte, past, start, decimal, greatest_number}
use Rattle.murphi_ast.specs.declared.token.Span.{Span}
use Rattle.murphi_ast.specs.declared.token.TokenKind.{TokenKind}
use Rattle.murphi_ast.specs.declared.token.TokenKind.TheVariants.{Word, Number, Quoted, Sign, End}
use Rattle.murphi_ast.specs.declared.token.Token.{Token}
use Rattle.murphi_ast.specs.declared.token.Fault.{Fault}
use Rattle.murphi_ast.specs.declared.token.Fault.TheVariants.{E02, E03}

-- the signs of the language
abbrev pub signs : List (List ℕ)
signs =
    codes "==>" ∷ codes ":=" ∷ codes "!=" ∷ codes "->" ∷ codes ".." ∷ codes "<=" ∷ codes ">="
    ∷ codes "=" ∷ codes "<" ∷ codes ">" ∷ codes "+" ∷ codes "-" ∷ codes "*" ∷ codes "/" ∷ codes "%"
    ∷ codes "&" ∷ codes "|" ∷ codes "!" ∷ codes "?" ∷ codes ":" ∷ codes ";" ∷ codes "," ∷ codes "."
    ∷ codes "(" ∷ codes ")" ∷ codes "[" ∷ codes "]" ∷ codes "{" ∷ codes "}" ∷ []

abbrev pub is_sign : List ℕ → Bool
is_sign spelled = list_any (pointwise nat_eq spelled) signs

-- a token without its place
pub record Lexeme : Type 0 where
  pub kind : TokenKind
  pub text : List ℕ
  pub number : ℕ

-- the token that stands at a place
abbrev pub token_at : Span → Lexeme → Token
token_at at l = record { kind = l.kind; text = l.text; number = l.number; at = at }

-- the token behind the last byte of a text
abbrev pub end_token : Span → Token
end_token at = record { kind = End; text = []; number = 0; at = at }

-- whether a token of this kind stands behind the last byte
abbrev pub is_end : TokenKind → Bool
is_end Word = false
is_end Number = false
is_end Quoted = false
is_end Sign = false
is_end End = true

-- the last token is End, and no other is
abbrev pub ends_once : List Token → Bool
ends_once [] = false
ends_once (t ∷ []) = is_end t.kind
ends_once (t ∷ u ∷ us) = not (is_end t.kind) && ends_once (u ∷ us)

-- End is the last token where there is no fault, and nowhere else
abbrev pub IsEnded : List Token → Option Fault → Type 0
IsEnded tokens None = IsTrue (ends_once tokens)
IsEnded tokens (Some fault) = IsTrue (list_all (λ t. not (is_end t.kind)) tokens)

-- The bytes are those of a token of this kind, with this text and number: a letter and word
-- bytes, a run of digits, string bytes between quotes, or a sign.
abbrev pub IsForm : TokenKind → List ℕ → List ℕ → ℕ → Type 0
IsForm Word spelled text number =
    (first : ℕ) × (more : List ℕ) × (spelled ≡ first ∷ more) × IsTrue (is_letter first) × IsTrue (list_all is_word_byte more)
    × (text ≡ spelled) × (number ≡ 0)
IsForm Number spelled text number =
    (first : ℕ) × (more : List ℕ) × (spelled ≡ first ∷ more) × IsTrue (list_all is_digit spelled)
    × (text ≡ spelled) × (number ≡ decimal spelled)
IsForm Quoted spelled text number =
    (spelled ≡ codes "\"" ++ text ++ codes "\"") × IsTrue (list_all is_string_byte text) × (number ≡ 0)
IsForm Sign spelled text number =
    IsTrue (is_sign spelled) × (text ≡ spelled) × (number ≡ 0)
IsForm End spelled text number = ⊥

-- the bytes spell this token
abbrev pub IsSpelling : List ℕ → Lexeme → Type 0
IsSpelling spelled l = IsForm l.kind spelled l.text l.number

-- `--` or `/*` stands at the front, where a comment starts (`-` is 45, `/` is 47, `*` is 42)
abbrev pub opens_comment : List ℕ → Bool
opens_comment [] = false
opens_comment (b ∷ []) = false
opens_comment (b ∷ c ∷ bs) = (b == 45 && c == 45) || (b == 47 && c == 42)

-- `*/` stands somewhere in the bytes
abbrev pub holds_close : List ℕ → Bool
holds_close [] = false
holds_close (b ∷ []) = false
holds_close (b ∷ c ∷ bs) = (b == 42 && c == 47) || holds_close (c ∷ bs)

-- the bytes are at their end, or at a line feed
abbrev pub ends_line : List ℕ → Bool
ends_line [] = true
ends_line (b ∷ bs) = b == 10

-- One piece of a gap, and what follows it: a white byte, a comment behind `--` up to the end of
-- its line, or one from `/*` to the next `*/`. A gap is any list of such pieces.
pub data IsGap : List ℕ → List ℕ → Type 0 where
  white : (b : ℕ) (rest : List ℕ) → IsTrue (is_white b) → IsGap (b ∷ []) rest
  line_comment : (gap body rest : List ℕ) → gap ≡ codes "--" ++ body →
      IsTrue (list_all is_line_byte body) → IsTrue (ends_line rest) → IsGap gap rest
  block_comment : (gap body rest : List ℕ) → gap ≡ codes "/*" ++ body ++ codes "*/" →
      IsFalse (holds_close (body ++ codes "*")) → IsGap gap rest

-- no token that a front of the bytes spells takes more than n of them
abbrev pub NoneLonger : List ℕ → ℕ → Type 0
NoneLonger bytes n =
    (spelled rest : List ℕ) (l : Lexeme) → bytes ≡ spelled ++ rest → IsSpelling spelled l → length spelled ≤ n

-- at the front of the bytes, where no comment starts, this is the longest token
pub record IsLongest (bytes spelled : List ℕ) (l : Lexeme) : Type 0 where
  pub no_comment : IsFalse (opens_comment bytes)
  pub spells : IsSpelling spelled l
  pub longest : NoneLonger bytes (length spelled)

-- At the front of the bytes neither a gap nor a token starts: a comment is opened and never
-- closed, or no front spells a token (an open string is such a place), or the longest token is a
-- number that is too great.
pub data LacksToken : List ℕ → Type 0 where
  open_comment : (bytes body : List ℕ) → bytes ≡ codes "/*" ++ body → IsFalse (holds_close body) → LacksToken bytes
  no_form : (first : ℕ) (more : List ℕ) → IsTrue (is_allowed first) → IsFalse (is_white first) →
      IsFalse (opens_comment (first ∷ more)) → NoneLonger (first ∷ more) 0 → LacksToken (first ∷ more)
  too_great : (bytes spelled rest : List ℕ) (l : Lexeme) → bytes ≡ spelled ++ rest →
      IsLongest bytes spelled l → greatest_number < l.number → LacksToken bytes

-- From a place on, the bytes are gaps and tokens by turns: up to their end, where the End token
-- stands, or else up to the first fault. The fault is E02 at a byte that may not stand outside
-- comments, and E03 where neither a gap nor a token starts.
pub data Reads : Span → List ℕ → List Token → Option Fault → Type 0 where
  at_end : (at : Span) (tokens : List Token) → tokens ≡ end_token at ∷ [] → Reads at [] tokens None
  over_gap : (at : Span) (bytes gap rest : List ℕ) (tokens : List Token) (fault : Option Fault) →
      bytes ≡ gap ++ rest → IsGap gap rest → Reads (past gap at) rest tokens fault → Reads at bytes tokens fault
  over_token : (at : Span) (bytes spelled rest : List ℕ) (l : Lexeme) (token : Token) (tokens : List Token) (fault : Option Fault) →
      bytes ≡ spelled ++ rest → IsLongest bytes spelled l → l.number ≤ greatest_number → token ≡ token_at at l →
      Reads (past spelled at) rest tokens fault → Reads at bytes (token ∷ tokens) fault
  at_bad_byte : (at : Span) (first : ℕ) (more : List ℕ) (fault : Option Fault) → IsFalse (is_allowed first) →
      fault ≡ Some (E02 at) → Reads at (first ∷ more) [] fault
  at_no_token : (at : Span) (bytes : List ℕ) (fault : Option Fault) → LacksToken bytes → fault ≡ Some (E03 at) → Reads at bytes [] fault

-- the bytes of a text spell these tokens, the last of them End
abbrev pub Spells : List ℕ → List Token → Type 0
Spells bytes tokens = Reads start bytes tokens None

-- the bytes of a text spell no tokens, and this is their first fault
abbrev pub FaultsFirst : List ℕ → Fault → Type 0
FaultsFirst bytes fault = (tokens : List Token) × Reads start bytes tokens (Some fault)

-- The reading of a text, computed. The laws of this crate say that it is the one that
-- `murphi_ast`'s `Reads` relates to the bytes.
use Rattle.std.specs.Prelude.{ℕ, zero, suc, ◌+◌, ◌-◌, Bool, not, nat_eq, nat_le, ◌==◌, ◌&&◌, ◌||◌, List, [], ◌∷◌, ◌++◌, take, drop, codes, slice_index, if◌then◌else◌, Option, None, Some, option_map}
use Rattle.std.specs.List.{list_any, prefix_len}
use Rattle.murphi_ast.specs.Bytes.{is_letter, is_digit, is_word_byte, is_white, is_allowed, is_string_byte, is_line_byte, after, start, decimal, greatest_number}
use Rattle.murphi_ast.specs.Spelling.{Lexeme, token_at, end_token, opens_comment}
use Rattle.murphi_ast.specs.declared.token.Span.{Span}
use Rattle.murphi_ast.specs.declared.token.TokenKind.TheVariants.{Word, Number, Quoted, Sign}
use Rattle.murphi_ast.specs.declared.token.Token.{Token}
use Rattle.murphi_ast.specs.declared.token.Fault.{Fault}
use Rattle.murphi_ast.specs.declared.token.Fault.TheVariants.{E02, E03}
use Rattle.murphi_lex.specs.declared.bytes.Run.{Run}
use Rattle.murphi_lex.specs.declared.bytes.Run.TheVariants as run

-- whether the byte belongs to the run
abbrev pub belongs : Run → ℕ → Bool
belongs run.Word b = is_word_byte b
belongs run.Digits b = is_digit b
belongs run.String b = is_string_byte b
belongs run.Line b = is_line_byte b

-- how many bytes there are up to the first `*/` and with it
abbrev pub closing : List ℕ → Option ℕ
closing [] = None
closing (b ∷ []) = None
closing (b ∷ c ∷ bs) = if b == 42 && c == 47 then Some 2 else option_map (λ n. n + 1) (closing (c ∷ bs))

-- the value of digits, where a text may write it
abbrev pub number_value : List ℕ → Option ℕ
number_value digits = if nat_le (decimal digits) greatest_number then Some (decimal digits) else None

abbrev pub is_sign_byte : ℕ → Bool
is_sign_byte b = list_any (nat_eq b) (codes "=<>+-*/%&|!?:;,.()[]{}")

abbrev pub is_sign_pair : ℕ → ℕ → Bool
is_sign_pair b c = (list_any (nat_eq b) (codes ":!<>") && c == 61) || (b == 45 && c == 62) || (b == 46 && c == 46)

-- how many bytes the longest sign at the front takes, 0 where none stands there
abbrev pub sign_length : List ℕ → ℕ
sign_length bytes =
    if slice_index bytes 0 == 61 && slice_index bytes 1 == 61 && slice_index bytes 2 == 62 then 3
    else (if is_sign_pair (slice_index bytes 0) (slice_index bytes 1) then 2
    else (if is_sign_byte (slice_index bytes 0) then 1
    else 0))

-- What stands at the front of bytes: a piece of a gap, by its length, a token and how many bytes
-- it takes, or a fault.
pub data Front : Type 0 where
  Gap : ℕ → Front
  Taken : Lexeme → ℕ → Front
  BadByte : Front
  NoToken : Front

abbrev pub word_of : List ℕ → Front
word_of bytes = let n = prefix_len is_word_byte bytes in Taken (record { kind = Word; text = take n bytes; number = 0 }) n

abbrev pub numbered : List ℕ → ℕ → Option ℕ → Front
numbered text n None = NoToken
numbered text n (Some value) = Taken (record { kind = Number; text = text; number = value }) n

abbrev pub number_of : List ℕ → Front
number_of bytes = let n = prefix_len is_digit bytes in numbered (take n bytes) n (number_value (take n bytes))

abbrev pub string_of : List ℕ → Front
string_of bytes =
    let n = prefix_len is_string_byte (drop 1 bytes) in
    if slice_index bytes (n + 1) == 34 then Taken (record { kind = Quoted; text = take n (drop 1 bytes); number = 0 }) (n + 2) else NoToken

abbrev pub sign_of : List ℕ → Front
sign_of bytes =
    let n = sign_length bytes in
    if n == 0 then NoToken else Taken (record { kind = Sign; text = take n bytes; number = 0 }) n

abbrev pub token_of : List ℕ → Front
token_of bytes =
    if is_letter (slice_index bytes 0) then word_of bytes
    else (if is_digit (slice_index bytes 0) then number_of bytes
    else (if slice_index bytes 0 == 34 then string_of bytes
    else sign_of bytes))

abbrev pub closed : Option ℕ → Front
closed None = NoToken
closed (Some n) = Gap (n + 2)

abbrev pub comment_of : List ℕ → Front
comment_of bytes =
    if slice_index bytes 0 == 45 then Gap (prefix_len is_line_byte bytes) else closed (closing (drop 2 bytes))

abbrev pub front_of : List ℕ → Front
front_of bytes =
    if is_white (slice_index bytes 0) then Gap 1
    else (if not (is_allowed (slice_index bytes 0)) then BadByte
    else (if opens_comment bytes then comment_of bytes
    else token_of bytes))

-- the tokens of a text up to its first fault, or up to its end and with End
pub record Reading : Type 0 where
  pub tokens : List Token
  pub fault : Option Fault

-- these tokens, and then what was read
abbrev pub joined : List Token → Reading → Reading
joined front r = record { tokens = front ++ r.tokens; fault = r.fault }

-- The reading of the bytes from a place on, of which the first `over` belong to a gap or a token
-- that began before.
unfoldable pub reading : ℕ → Span → List ℕ → Reading
reading over at [] = record { tokens = end_token at ∷ []; fault = None }
reading (suc over) at (b ∷ bs) = reading over (after b at) bs
reading zero at (b ∷ bs) =
    elim (front_of (b ∷ bs)) [
      | Gap n ↦ reading (n - 1) (after b at) bs
      | Taken l n ↦ joined (token_at at l ∷ []) (reading (n - 1) (after b at) bs)
      | BadByte ↦ record { tokens = []; fault = Some (E02 at) }
      | NoToken ↦ record { tokens = []; fault = Some (E03 at) }
    ]

-- the reading of a text
abbrev pub text_reading : List ℕ → Reading
text_reading bytes = reading 0 start bytes

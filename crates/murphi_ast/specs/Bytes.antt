-- The kinds of byte in a Murphi text, and the place of each byte.
-- From the Murphi manual, in this project's profile: texts are ASCII outside comments.
use Rattle.std.specs.Prelude.{ℕ, ◌+◌, ◌-◌, ◌*◌, Bool, not, ◌&&◌, ◌||◌, ◌==◌, nat_le, List, [], ◌∷◌, map, if◌then◌else◌}
use Rattle.std.specs.Char.{is_ascii_alphabetic, is_ascii_digit, to_ascii_lowercase}
use Rattle.murphi_ast.specs.declared.token.Span.{Span}

-- a letter, large or small
abbrev pub is_letter : ℕ → Bool
is_letter b = is_ascii_alphabetic b

-- `0` to `9`
abbrev pub is_digit : ℕ → Bool
is_digit b = is_ascii_digit b

-- a letter, a digit or `_`: what may follow the first letter of a word
abbrev pub is_word_byte : ℕ → Bool
is_word_byte b = is_letter b || is_digit b || b == 95

-- a space, a tab, a line feed or a carriage return: what stands between tokens and means nothing
abbrev pub is_white : ℕ → Bool
is_white b = b == 32 || b == 9 || b == 10 || b == 13

-- a byte of the printed characters, from the space to `~`
abbrev pub is_printed : ℕ → Bool
is_printed b = nat_le 32 b && nat_le b 126

-- what may stand outside comments
abbrev pub is_allowed : ℕ → Bool
is_allowed b = is_printed b || is_white b

-- what may stand between the quotes of a string: a printed character other than `"`
abbrev pub is_string_byte : ℕ → Bool
is_string_byte b = is_printed b && not (b == 34)

-- any byte but a line feed: what a comment behind `--` goes on over
abbrev pub is_line_byte : ℕ → Bool
is_line_byte b = not (b == 10)

-- The place of the byte that follows b, where b stands at `at`: a line feed ends its line, and
-- every other byte, a tab too, is one column.
abbrev pub after : ℕ → Span → Span
after b at = if b == 10 then record { line = at.line + 1; column = 1 } else record { line = at.line; column = at.column + 1 }

-- the place behind these bytes, where the first of them stands at `at`
abbrev pub past : List ℕ → Span → Span
past [] at = at
past (b ∷ bs) at = past bs (after b at)

-- the place of the first byte of a text
abbrev pub start : Span
start = record { line = 1; column = 1 }

-- the value of digits, written in tens, behind those that are worth n already
abbrev pub decimal_from : ℕ → List ℕ → ℕ
decimal_from n [] = n
decimal_from n (d ∷ ds) = decimal_from (n * 10 + (d - 48)) ds

-- the value of digits, written in tens; zeros at the front count for nothing
abbrev pub decimal : List ℕ → ℕ
decimal ds = decimal_from 0 ds

-- the greatest number that a text may write
abbrev pub greatest_number : ℕ
greatest_number = 32767

-- the bytes with small letters for large ones: key words are read in any case
abbrev pub lowered : List ℕ → List ℕ
lowered bs = map to_ascii_lowercase bs

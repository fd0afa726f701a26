-- Values as a script writes them: a node is a number, a member of a scalarset T of a written size is `T_k`, an
-- enum value is its name, with no apostrophe.
use Rattle.std.specs.Prelude.{ℕ, zero, suc, Bool, true, false, ◌&&◌, nat_eq, nat_le, min, List, [], Option, None, Some, option_map, slice_get, if◌then◌else◌, pos, ◌-ℤ◌}
use Rattle.std.specs.Option.{option_map_or}
use Rattle.std.specs.Str.{bytes_eq}
use Rattle.term_core.specs.declared.value.Value.{Value}
use Rattle.term_core.specs.declared.value.Value.TheVariants as value
use Rattle.murphi_ast.specs.Bytes.{greatest_number}
use Rattle.murphi_ast.specs.declared.token.Token.{Token}
use Rattle.murphi_ast.specs.declared.token.TokenKind.{TokenKind}
use Rattle.murphi_ast.specs.declared.token.TokenKind.TheVariants as token
use Rattle.murphi_grammar.specs.declared.symbol.Symbol.{Symbol}
use Rattle.murphi_grammar.specs.declared.symbol.Symbol.TheVariants as t
use Rattle.murphi_grammar.specs.Symbols.{symbol_of}
use Rattle.murphi_grammar.specs.Tables.{code}
use Rattle.murphi_typed.specs.declared.types.Simple.{Simple}
use Rattle.murphi_typed.specs.declared.types.Simple.TheVariants as simple
use Rattle.murphi_typed.specs.declared.types.Kind.{Kind}
use Rattle.murphi_typed.specs.declared.types.Kind.TheVariants as kind
use Rattle.murphi_typed.specs.declared.protocol.Parameter.{Parameter}
use Rattle.murphi_typed.specs.Names.{member_text}
use Rattle.murphi_typed.specs.Values.{is_value}

-- what a token is

abbrev pub is_word_kind : TokenKind → Bool
is_word_kind token.Word = true
is_word_kind token.Number = false
is_word_kind token.Quoted = false
is_word_kind token.Sign = false
is_word_kind token.End = false

abbrev pub is_number_kind : TokenKind → Bool
is_number_kind token.Word = false
is_number_kind token.Number = true
is_number_kind token.Quoted = false
is_number_kind token.Sign = false
is_number_kind token.End = false

abbrev pub is_quoted_kind : TokenKind → Bool
is_quoted_kind token.Word = false
is_quoted_kind token.Number = false
is_quoted_kind token.Quoted = true
is_quoted_kind token.Sign = false
is_quoted_kind token.End = false

abbrev pub is_sign_kind : TokenKind → Bool
is_sign_kind token.Word = false
is_sign_kind token.Number = false
is_sign_kind token.Quoted = false
is_sign_kind token.Sign = true
is_sign_kind token.End = false

abbrev pub is_end_kind : TokenKind → Bool
is_end_kind token.Word = false
is_end_kind token.Number = false
is_end_kind token.Quoted = false
is_end_kind token.Sign = false
is_end_kind token.End = true

-- whether it is a word of these letters, or this sign
abbrev pub is_word : List ℕ → Token → Bool
is_word word x = is_word_kind x.kind && bytes_eq x.text word

abbrev pub is_sign : List ℕ → Token → Bool
is_sign sign x = is_sign_kind x.kind && bytes_eq x.text sign

-- whether it is this key word, in any letters
abbrev pub has : Symbol → Token → Bool
has s x = nat_eq (code (symbol_of x)) (code s)

-- the type of a parameter
abbrev pub over_of : Parameter → Simple
over_of p = p.over

abbrev pub itself : List ℕ → List ℕ
itself name = name

-- what a script calls a member of a kind, from 0: its name, or `T_k`
abbrev pub plain_text : Kind → ℕ → List ℕ
plain_text (kind.Listed names) index = option_map_or itself (slice_get names index) []
plain_text (kind.Scalarset name count) index = member_text (Some (kind.Scalarset name count)) index

-- the first member of this name, among so many from a number on
abbrev pub search : Kind → List ℕ → ℕ → ℕ → Option ℕ
search k text index zero = None
search k text index (suc more) = if bytes_eq text (plain_text k index) then Some index else search k text (suc index) more

-- no kind has more members
abbrev pub most_members : ℕ
most_members = 256

-- the member of this name
abbrev pub member_of : Option Kind → ℕ → ℕ → List ℕ → Option Value
member_of None number count text = None
member_of (Some k) number count text = option_map (value.Member number) (search k text 0 (min count most_members))

abbrev pub member : List Kind → ℕ → ℕ → List ℕ → Option Value
member kinds number count text = member_of (slice_get kinds number) number count text

-- a value, where it is one of a type
abbrev pub fitting : ℕ → Simple → Value → Option Value
fitting N over v = if is_value N over v then Some v else None

-- what a number writes of a range or of the nodes: no token writes one above 32,767
abbrev pub number_value : ℕ → Simple → Value → ℕ → Option Value
number_value N over v n = if nat_le n greatest_number then fitting N over v else None

-- what a number behind `-` writes of a type
abbrev pub minus_value : ℕ → Simple → ℕ → Option Value
minus_value N (simple.Range low high) n =
    number_value N (simple.Range low high) (value.Number (pos 0 -ℤ pos n)) n
minus_value N simple.Node n = None
minus_value N simple.Truth n = None
minus_value N (simple.Listed number count) n = None
minus_value N (simple.Scalarset number count) n = None

-- what a key word writes of the truth values
abbrev pub truth_value : Token → Option Value
truth_value x =
    if has t.True x then Some (value.Truth true)
    else if has t.False x then Some (value.Truth false)
    else None

-- what a word writes of a kind
abbrev pub word_value : List Kind → ℕ → ℕ → Token → Option Value
word_value kinds number count x = if is_word_kind x.kind then member kinds number count x.text else None

-- what one token writes of a type
abbrev pub one_value : ℕ → List Kind → Simple → Token → Option Value
one_value N kinds simple.Truth x = truth_value x
one_value N kinds (simple.Range low high) x =
    if is_number_kind x.kind then number_value N (simple.Range low high) (value.Number (pos x.number)) x.number else None
one_value N kinds simple.Node x =
    if is_number_kind x.kind then number_value N simple.Node (value.Node x.number) x.number else None
one_value N kinds (simple.Listed number count) x = word_value kinds number count x
one_value N kinds (simple.Scalarset number count) x = word_value kinds number count x

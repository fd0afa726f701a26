-- The words of the command line, and what they ask for. The first word is a command; its options follow in
-- any order, each at most once, and those that the command requires are there. An option is given by one
-- word, as `--name=value`, or by two, as `--name value`, where the value does not begin with `-`. Nothing
-- else asks for anything: no abbreviation, no empty word or value, neither `-` nor `--`, neither `-h` nor
-- `--help`.
use Rattle.std.specs.Prelude.{◌≡◌, ◌≢◌, ℕ, nat_eq, ◌≤◌, Bool, true, false, not, ◌&&◌, ◌||◌, List, [], ◌∷◌, ◌++◌, Option, None, Some, if◌then◌else◌, codes}
use Rattle.std.specs.List.{list_all, list_any}
use Rattle.std.specs.Str.{bytes_eq}
use Rattle.std.specs.Fmt.{decimal}
use Rattle.cmp_cli.specs.declared.table.Command.{Command}
use Rattle.cmp_cli.specs.declared.table.Command.TheVariants as command
use Rattle.cmp_cli.specs.declared.table.OptionName.{OptionName}
use Rattle.cmp_cli.specs.declared.table.OptionName.TheVariants as option
use Rattle.cmp_cli.specs.declared.table.Takes.{Takes}
use Rattle.cmp_cli.specs.declared.table.Takes.TheVariants as takes
use Rattle.cmp_cli.specs.declared.table.Row.{Row}
use Rattle.cmp_cli.specs.declared.request.Given.{Given}
use Rattle.cmp_cli.specs.declared.request.Request.{Request}

-- a word is its bytes
abbrev pub Word : Type 0
Word = List ℕ

-- how a command is written
abbrev pub command_word : Command → Word
command_word command.Check = codes "check"

-- how an option is written, before its value
abbrev pub option_word : OptionName → Word
option_word option.Protocol = codes "--protocol"

-- The table of the commands: the options of each, which of them it requires, and which values they take.
abbrev pub rows : Command → List Row
rows command.Check = record { option = option.Protocol; required = true; takes = takes.Text } ∷ []

-- two names are those of one option
abbrev pub is_same : OptionName → OptionName → Bool
is_same a b = bytes_eq (option_word a) (option_word b)

-- the row of an option among rows
abbrev pub row_among : List Row → OptionName → Option Row
row_among [] name = None
row_among (row ∷ more) name = if is_same row.option name then Some row else row_among more name

-- the value is one that is taken: a text that is not empty; or a number within a range, in decimal, with no
-- sign and no zero in front
abbrev pub IsTaken : Takes → Word → Type 0
IsTaken takes.Text value = value ≢ []
IsTaken (takes.Number least greatest) value = (n : ℕ) × (value ≡ decimal n) × (least ≤ n) × (n ≤ greatest)

-- the value is one that an option with this row takes; an option without a row takes none
abbrev pub IsTakenBy : Option Row → Word → Type 0
IsTakenBy None value = ⊥
IsTakenBy (Some row) value = IsTaken row.takes value

-- each is an option of the command, with a value that it takes
abbrev pub AreTaken : Command → List Given → Type 0
AreTaken command [] = Unit {0}
AreTaken command (g ∷ gs) = IsTakenBy (row_among (rows command) g.option) g.value × AreTaken command gs

-- the word does not begin with `-`
abbrev pub has_no_dash : Word → Bool
has_no_dash [] = true
has_no_dash (b ∷ bs) = not (nat_eq b 45)

-- these words give an option a value: one word, or two
pub data Gives : Given → List Word → Type 0 where
  in_one_word : {g : Given} → Gives g ((option_word g.option ++ 61 ∷ g.value) ∷ [])
  in_two_words : {g : Given} → has_no_dash g.value ≡ true → Gives g (option_word g.option ∷ g.value ∷ [])

-- these words give options their values, in this order
abbrev pub GiveAll : List Given → List Word → Type 0
GiveAll [] words = words ≡ []
GiveAll (g ∷ gs) words =
    (own : List Word) × (rest : List Word) × (words ≡ own ++ rest) × Gives g own × GiveAll gs rest

-- whether the option is given
abbrev pub is_given : List Given → OptionName → Bool
is_given given name = list_any (λ (g : Given). is_same g.option name) given

-- no option is given twice
abbrev pub given_once : List Given → Bool
given_once [] = true
given_once (g ∷ gs) = not (is_given gs g.option) && given_once gs

-- each option that the command requires is given
abbrev pub given_required : Command → List Given → Bool
given_required command given =
    list_all (λ (row : Row). not row.required || is_given given row.option) (rows command)

-- the words ask for this
pub record IsRequest (words : List Word) (r : Request) : Type 0 where
  pub options : List Word
  pub begins : words ≡ command_word r.command ∷ options
  pub spelled : GiveAll r.given options
  pub taken : AreTaken r.command r.given
  pub once : given_once r.given ≡ true
  pub required : given_required r.command r.given ≡ true

-- the words ask for nothing
abbrev pub IsNoRequest : List Word → Type 0
IsNoRequest words = (r : Request) → IsRequest words r → ⊥

-- the value that an option is given, the first
abbrev pub value_of : OptionName → List Given → Option Word
value_of name [] = None
value_of name (g ∷ gs) = if is_same g.option name then Some g.value else value_of name gs

-- the words ask for something, and give the option `protocol` this value
pub record AskFor (words : List Word) (file : Word) : Type 0 where
  pub request : Request
  pub asked : IsRequest words request
  pub named : value_of option.Protocol request.given ≡ Some file

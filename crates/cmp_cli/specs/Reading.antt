-- Reading the words one after another, computed. The laws of this crate say that it finds the one request
-- that the words ask for. How the values fit is not looked at before the last word.
use Rattle.std.specs.Prelude.{◌≡◌, ℕ, nat_eq, Bool, true, false, ◌&&◌, List, [], ◌∷◌, ◌++◌, Option, None, Some, if◌then◌else◌, fold}
use Rattle.std.specs.Str.{bytes_eq}
use Rattle.cmp_cli.specs.declared.table.Command.{Command}
use Rattle.cmp_cli.specs.declared.table.Command.TheVariants as command
use Rattle.cmp_cli.specs.declared.table.OptionName.{OptionName}
use Rattle.cmp_cli.specs.declared.table.OptionName.TheVariants as option
use Rattle.cmp_cli.specs.declared.request.Given.{Given}
use Rattle.cmp_cli.specs.declared.request.Request.{Request}
use Rattle.cmp_cli.specs.declared.words.Opening.{Opening}
use Rattle.cmp_cli.specs.declared.words.Opening.TheVariants as opening
use Rattle.cmp_cli.specs.declared.words.Reading.{Reading}
use Rattle.cmp_cli.specs.declared.words.Reading.TheVariants as reading
use Rattle.cmp_cli.specs.Words.{Word, command_word, option_word, has_no_dash, AreTaken, given_once, given_required}

-- the rest of a word that begins with these bytes
abbrev pub rest_after : List ℕ → Word → Option Word
rest_after [] word = Some word
rest_after (p ∷ ps) [] = None
rest_after (p ∷ ps) (b ∷ bs) = if nat_eq p b then rest_after ps bs else None

-- the command that is written so
abbrev pub command_named : Word → Option Command
command_named word = if bytes_eq word (command_word command.Check) then Some command.Check else None

-- what a word opens that begins with the name of an option, and goes on so
abbrev pub opened_by : OptionName → Option Word → Opening
opened_by name None = opening.Nothing
opened_by name (Some []) = opening.Name name
opened_by name (Some (b ∷ value)) =
    if nat_eq b 61 then opening.Whole (record { option = name; value = value }) else opening.Nothing

-- the first of two that opens something
abbrev pub or_else : Opening → Opening → Opening
or_else opening.Nothing next = next
or_else (opening.Name name) next = opening.Name name
or_else (opening.Whole given) next = opening.Whole given

-- what a word opens, held against these options in turn
abbrev pub opening_among : List OptionName → Word → Opening
opening_among [] word = opening.Nothing
opening_among (name ∷ names) word = or_else (opened_by name (rest_after (option_word name) word)) (opening_among names word)

-- all options
abbrev pub all_options : List OptionName
all_options = option.Protocol ∷ []

-- after the first word
abbrev pub with_command : Option Command → Reading
with_command None = reading.Refused
with_command (Some c) = reading.Options c []

-- after a word that opens this
abbrev pub with_opening : Command → List Given → Opening → Reading
with_opening c given opening.Nothing = reading.Refused
with_opening c given (opening.Name name) = reading.Value c given name
with_opening c given (opening.Whole one) = reading.Options c (given ++ one ∷ [])

-- after a word that is to be the value of an option, whether it may be one
abbrev pub valued : Bool → Command → List Given → Reading
valued true c given = reading.Options c given
valued false c given = reading.Refused

-- after a word that is to be the value of an option
abbrev pub with_value : Command → List Given → OptionName → Word → Reading
with_value c given name value = valued (has_no_dash value) c (given ++ (record { option = name; value = value }) ∷ [])

-- after one more word
abbrev pub next_reading : Reading → Word → Reading
next_reading reading.Refused word = reading.Refused
next_reading reading.Start word = with_command (command_named word)
next_reading (reading.Options c given) word = with_opening c given (opening_among all_options word)
next_reading (reading.Value c given name) word = with_value c given name word

-- what is given where no word is left
abbrev pub finished : Reading → Option Request
finished (reading.Options c given) = Some (record { command = c; given = given })
finished _ = None

-- the command and the options that the words spell, whatever the values are
abbrev pub spelled_by : List Word → Option Request
spelled_by words = finished (fold next_reading reading.Start words)

-- the values fit, no option is given twice, and the required ones are given
pub record IsWell (r : Request) : Type 0 where
  pub taken : AreTaken r.command r.given
  pub once : given_once r.given ≡ true
  pub required : given_required r.command r.given ≡ true

-- Reading the words finds what they ask for, and nothing else.
use Rattle.std.proofs.Common.{◌≡◌, ℕ, Bool, true, false, ◌&&◌, nat_eq, List, [], ◌∷◌, ◌++◌, Option, None, Some, refl, ap, sym, ◌∙◌, subst, fold, append_assoc, append-nil, MatchOption, arith}
use Rattle.std.specs.Str.{bytes_eq}
use Rattle.std.specs.Bool.{Decides}
use Rattle.std.proofs.lemmas.Slice.Eq.{bytes_eq-Decides}
use Rattle.std.proofs.lemmas.Bool.Decides.{nat_tests}
use Rattle.std.proofs.lemmas.List.Folds.{fold_stays}
use Rattle.cmp_cli.specs.declared.table.Command.{Command}
use Rattle.cmp_cli.specs.declared.table.Command.TheVariants as command
use Rattle.cmp_cli.specs.declared.table.OptionName.{OptionName}
use Rattle.cmp_cli.specs.declared.table.OptionName.TheVariants as option
use Rattle.cmp_cli.specs.declared.request.Given.{Given}
use Rattle.cmp_cli.specs.declared.request.Request.{Request}
use Rattle.cmp_cli.specs.declared.words.Opening.{Opening}
use Rattle.cmp_cli.specs.declared.words.Opening.TheVariants as opening
use Rattle.cmp_cli.specs.declared.words.Reading.{Reading}
use Rattle.cmp_cli.specs.declared.words.Reading.TheVariants as reading
use Rattle.cmp_cli.specs.Words.{Word, command_word, option_word, has_no_dash, Gives, in_one_word, in_two_words, GiveAll, is_same, is_given, given_required, value_of, IsRequest, IsNoRequest, AskFor}
use Rattle.cmp_cli.specs.Reading.{rest_after, command_named, opened_by, or_else, opening_among, all_options, with_command, with_opening, valued, with_value, next_reading, finished, spelled_by, IsWell}

-- the rest follows the bytes
rest_after-is : (p w r : List ℕ) → rest_after p w ≡ Some r → w ≡ p ++ r
rest_after-is [] w r e = cc
rest_after-is (a ∷ p) [] r e = cc
rest_after-is (a ∷ p) (b ∷ w) r e = at_first (nat_eq a b) refl (rest_after-is p w r)
  where
    at_first : (t : Bool) → nat_eq a b ≡ t → (rest_after p w ≡ Some r → w ≡ p ++ r) → (b ∷ w) ≡ (a ∷ p) ++ r
    at_first true t more = grind (arith, nat_tests, more)
    at_first false t more = grind (arith, nat_tests)

-- what an opening says of its word
abbrev Opens : Opening → Word → Type 0
Opens opening.Nothing w = Unit {0}
Opens (opening.Name name) w = w ≡ option_word name
Opens (opening.Whole given) w = w ≡ option_word given.option ++ 61 ∷ given.value

opens_by : (name : OptionName) (w : Word) (rest : Option Word) → rest_after (option_word name) w ≡ rest → Opens (opened_by name rest) w
opens_by name w None e = tt
opens_by name w (Some []) e = rest_after-is (option_word name) w [] e ∙ append-nil (option_word name)
opens_by name w (Some (b ∷ value)) e = at_sign (nat_eq b 61) refl
  where
    at_sign : (t : Bool) → nat_eq b 61 ≡ t → Opens (opened_by name (Some (b ∷ value))) w
    at_sign true t = rw t (rest_after-is (option_word name) w (61 ∷ value) (e ∙ ap (λ z. Some (z ∷ value)) (grind (arith, nat_tests))))
    at_sign false t = rw t tt

opens_first : (w : Word) (a b : Opening) → Opens a w → Opens b w → Opens (or_else a b) w
opens_first w opening.Nothing b p q = q
opens_first w (opening.Name name) b p q = p
opens_first w (opening.Whole given) b p q = p

opens_among : (names : List OptionName) (w : Word) → Opens (opening_among names w) w
opens_among [] w = tt
opens_among (name ∷ names) w =
    opens_first w (opened_by name (rest_after (option_word name) w)) (opening_among names w)
    (opens_by name w (rest_after (option_word name) w) refl) (opens_among names w)

-- the name of an option opens it
names_open : (name : OptionName) → opening_among all_options (option_word name) ≡ opening.Name name
names_open option.Protocol = refl

-- and so does its name with a value
values_open : (name : OptionName) (value : Word) →
    opening_among all_options (option_word name ++ 61 ∷ value) ≡ opening.Whole (record { option = name; value = value })
values_open option.Protocol value = refl

commands_open : (c : Command) → command_named (command_word c) ≡ Some c
commands_open command.Check = refl

-- nothing is read behind a word that is refused
refused_stays : (ws : List Word) → fold next_reading reading.Refused ws ≡ reading.Refused
refused_stays ws = fold_stays next_reading reading.Refused (λ x. refl) ws

-- what was read behind the options so far
record Spelled (c : Command) (given : List Given) (ws : List Word) (r : Request) : Type 0 where
  more : List Given
  whole : r ≡ record { command = c; given = given ++ more }
  spelled : GiveAll more ws

-- one more option in front of what was read
spelled_more : (c : Command) (given : List Given) (one : Given) (own ws : List Word) (r : Request) → Gives one own →
    Spelled c (given ++ one ∷ []) ws r → Spelled c given (own ++ ws) r
spelled_more c given one own ws r g s = record {
  more = one ∷ s.more;
  whole = s.whole ∙ ap (λ z. record { command = c; given = z }) (append_assoc given (one ∷ []) s.more);
  spelled = (own, ws, refl, g, s.spelled);
}

-- what is read from a state that is refused
from_refused : {A : Type 0} (ws : List Word) (r : Request) → finished (fold next_reading reading.Refused ws) ≡ Some r → A
from_refused ws r e = let stays = refused_stays ws in let none : None ≡ Some r = sym (ap finished stays) ∙ e in cc

-- a word that opens something, where what follows is known
after_opening : (c : Command) (given : List Given) (w : Word) (o : Opening) (ws : List Word) (r : Request) → Opens o w →
    ((one : Given) → finished (fold next_reading (reading.Options c (given ++ one ∷ [])) ws) ≡ Some r → Spelled c (given ++ one ∷ []) ws r) →
    ((name : OptionName) → w ≡ option_word name → finished (fold next_reading (reading.Value c given name) ws) ≡ Some r → Spelled c given (w ∷ ws) r) →
    finished (fold next_reading (with_opening c given o) ws) ≡ Some r → Spelled c given (w ∷ ws) r
after_opening c given w opening.Nothing ws r is whole name e = from_refused ws r e
after_opening c given w (opening.Name n) ws r is whole name e = name n is e
after_opening c given w (opening.Whole one) ws r is whole name e =
    spelled_more c given one (w ∷ []) ws r (subst (λ z. Gives one (z ∷ [])) (sym is) in_one_word) (whole one e)

-- a word that is to be a value, where what follows is known
after_value : (c : Command) (given : List Given) (name : OptionName) (w v : Word) (ws : List Word) (r : Request) (t : Bool) → has_no_dash v ≡ t →
    w ≡ option_word name →
    ((one : Given) → finished (fold next_reading (reading.Options c (given ++ one ∷ [])) ws) ≡ Some r → Spelled c (given ++ one ∷ []) ws r) →
    finished (fold next_reading (with_value c given name v) ws) ≡ Some r → Spelled c given (w ∷ v ∷ ws) r
after_value c given name w v ws r true t is whole e =
    let one : Given = record { option = name; value = v } in
    spelled_more c given one (w ∷ v ∷ []) ws r (subst (λ z. Gives one (z ∷ v ∷ [])) (sym is) (in_two_words t)) (whole one (rw t at e))
after_value c given name w v ws r false t is whole e = from_refused ws r (rw t at e)

mutual
  options_spelled : (ws : List Word) (c : Command) (given : List Given) (r : Request) →
      finished (fold next_reading (reading.Options c given) ws) ≡ Some r → Spelled c given ws r
  options_spelled [] c given r e = record {
    more = [];
    whole = let same : Some (record { command = c; given = given }) ≡ Some r = e in
        (let is : record { command = c; given = given } ≡ r = cc in sym is) ∙ ap (λ z. record { command = c; given = z }) (sym (append-nil given));
    spelled = refl;
  }
  options_spelled (w ∷ ws) c given r e =
      after_opening c given w (opening_among all_options w) ws r (opens_among all_options w)
      (λ one. options_spelled ws c (given ++ one ∷ []) r) (λ name is. value_spelled ws c given name w r is) e

  value_spelled : (ws : List Word) (c : Command) (given : List Given) (name : OptionName) (w : Word) (r : Request) → w ≡ option_word name →
      finished (fold next_reading (reading.Value c given name) ws) ≡ Some r → Spelled c given (w ∷ ws) r
  value_spelled [] c given name w r is e = let none : None ≡ Some r = e in cc
  value_spelled (v ∷ ws) c given name w r is e =
      after_value c given name w v ws r (has_no_dash v) refl is (λ one. options_spelled ws c (given ++ one ∷ []) r) e

-- a word that names a command is how the command is written
named_so : (w : Word) (c : Command) → command_named w ≡ Some c → w ≡ command_word c
named_so w command.Check e = at_test (bytes_eq w (command_word command.Check)) refl (bytes_eq-Decides w (command_word command.Check))
  where
    at_test : (t : Bool) → bytes_eq w (command_word command.Check) ≡ t → Decides t (w ≡ command_word command.Check) → w ≡ command_word command.Check
    at_test true t is = is.0 refl
    at_test false t is = let none : None ≡ Some command.Check = rw t at e in cc

-- what is read is spelled
after_command : (w : Word) (ws : List Word) (r : Request) (c : Option Command) → command_named w ≡ c →
    finished (fold next_reading (with_command c) ws) ≡ Some r →
    (options : List Word) × ((w ∷ ws) ≡ command_word r.command ∷ options) × GiveAll r.given options
after_command w ws r None q e = from_refused ws r e
after_command w ws r (Some c) q e =
    let s = options_spelled ws c [] r e in (
      ws,
      ap (λ z. z ∷ ws) (named_so w c q ∙ ap (λ (z : Request). command_word z.command) (sym s.whole)),
      subst (λ z. GiveAll z ws) (ap (λ (z : Request). z.given) (sym s.whole)) s.spelled,
    )

pub request_spelled : (words : List Word) (r : Request) → spelled_by words ≡ Some r →
    (options : List Word) × (words ≡ command_word r.command ∷ options) × GiveAll r.given options
request_spelled [] r e = let none : None ≡ Some r = e in cc
request_spelled (w ∷ ws) r e = after_command w ws r (command_named w) refl e

-- what is spelled is read
options_read : (more given : List Given) (ws : List Word) (c : Command) → GiveAll more ws →
    fold next_reading (reading.Options c given) ws ≡ reading.Options c (given ++ more)
options_read [] given ws c e = rw e (ap (reading.Options c) (sym (append-nil given)))
options_read (g ∷ gs) given ws c (own, rest, e, gives, more) =
    ap (fold next_reading (reading.Options c given)) e ∙ one_read own gives
    ∙ options_read gs (given ++ g ∷ []) rest c more ∙ ap (reading.Options c) (append_assoc given (g ∷ []) gs)
  where
    one_read : (own : List Word) → Gives g own → fold next_reading (reading.Options c given) (own ++ rest) ≡ fold next_reading (reading.Options c (given ++ g ∷ [])) rest
    one_read _ in_one_word = ap (λ o. fold next_reading (with_opening c given o) rest) (values_open g.option g.value)
    one_read _ (in_two_words t) =
        ap (λ o. fold next_reading (next_reading (with_opening c given o) g.value) rest) (names_open g.option)
        ∙ ap (λ b. fold next_reading (valued b c (given ++ g ∷ [])) rest) t

pub request_read : (words : List Word) (r : Request) → IsRequest words r → spelled_by words ≡ Some r
request_read words r q =
    ap spelled_by q.begins
    ∙ ap (λ c. finished (fold next_reading (with_command c) q.options)) (commands_open r.command)
    ∙ ap finished (options_read r.given [] q.options r.command q.spelled)

-- no words ask for two things
pub same_request : (words : List Word) (a b : Request) → IsRequest words a → IsRequest words b → a ≡ b
same_request words a b p q =
    let same : Some a ≡ Some b = sym (request_read words a p) ∙ request_read words b q in cc

-- what is read, and fits, is the request
pub read_is_request : (words : List Word) (r : Request) → spelled_by words ≡ Some r → IsWell r → IsRequest words r
read_is_request words r e well =
    let s = request_spelled words r e in
    record { options = s.0; begins = s.1; spelled = s.2; taken = well.taken; once = well.once; required = well.required }

-- where nothing is read there is none
pub nothing_read : (words : List Word) → spelled_by words ≡ None → IsNoRequest words
nothing_read words e r q = let no : None ≡ Some r = sym e ∙ request_read words r q in cc

-- nor where what is read does not fit
pub misfit_read : (words : List Word) (r : Request) → spelled_by words ≡ Some r → (IsWell r → ⊥) → IsNoRequest words
misfit_read words r e bad other q =
    let same : Some r ≡ Some other = sym e ∙ request_read words other q in
    let is : other ≡ r = cc in
    bad (subst IsWell is (record { taken = q.taken; once = q.once; required = q.required }))

pub ruleset requests = (read_is_request, nothing_read, misfit_read)

-- behind the last option nothing more is opened
pub opening_last : (a : Opening) → or_else a opening.Nothing ≡ a
opening_last opening.Nothing = refl
opening_last (opening.Name name) = refl
opening_last (opening.Whole given) = refl

and_true : (a : Bool) → (a && true) ≡ true → a ≡ true
and_true true e = refl
and_true false e = e

-- an option that is given has a value
given_value : (given : List Given) (name : OptionName) → is_given given name ≡ true → value_of name given ≡ None → ⊥
given_value [] name is none = cc
given_value (g ∷ gs) name is none = at_first (is_same g.option name) refl (given_value gs name)
  where
    at_first : (t : Bool) → is_same g.option name ≡ t → (is_given gs name ≡ true → value_of name gs ≡ None → ⊥) → ⊥
    at_first true t more = let some : Some g.value ≡ None = rw t at none in cc
    at_first false t more = more (rw t at is) (rw t at none)

-- and so has one that each command requires
pub required_value : (c : Command) (given : List Given) → given_required c given ≡ true → value_of option.Protocol given ≡ None → ⊥
required_value command.Check given is none = given_value given option.Protocol (and_true (is_given given option.Protocol) is) none

-- who asks for a file makes a request
pub no_request_asks : (words : List Word) (file : Word) → IsNoRequest words → AskFor words file → ⊥
no_request_asks words file none asks = none asks.request asks.asked

-- and who makes one that names the file asks for it
pub request_asks : (words : List Word) (r : Request) (named file : Word) → IsRequest words r → value_of option.Protocol r.given ≡ Some named →
    file ≡ named → AskFor words file
request_asks words r named file is value same = record { request = r; asked = is; named = value ∙ ap Some (sym same) }

-- what is known by cases of an option, in each of them
pub when_some : {A : Type 0} (P : Type 0) (Q : A → Type 0) (o : Option A) (a : A) → MatchOption o P Q → o ≡ Some a → Q a
when_some P Q (Some b) a m e = let same : b ≡ a = cc in subst Q same m
when_some P Q None a m e = cc

pub when_none : {A : Type 0} (P : Type 0) (Q : A → Type 0) (o : Option A) → MatchOption o P Q → o ≡ None → P
when_none P Q (Some b) m e = cc
when_none P Q None m e = m

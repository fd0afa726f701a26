-- Reading a script token by token. Mechanism: that this reads what the tokens write, and stops where they stop, is
-- proved.
use Rattle.std.specs.Prelude.{codes, ◌≡◌, ℕ, suc, Bool, true, false, ◌&&◌, ◌||◌, nat_eq, List, [], ◌∷◌, ◌++◌, length, Option, None, Some, slice_get, if◌then◌else◌, Result, Ok, Err}
use Rattle.std.specs.Option.{option_map_or}
use Rattle.std.specs.Str.{bytes_eq}
use Rattle.std.specs.Global.{Vec}
use Rattle.std.specs.Map.{lookup}
use Rattle.term_core.specs.declared.value.Value.{Value}
use Rattle.murphi_ast.specs.declared.token.Span.{Span}
use Rattle.murphi_ast.specs.declared.token.Token.{Token}
use Rattle.murphi_typed.specs.declared.types.Simple.{Simple}
use Rattle.murphi_typed.specs.declared.protocol.Typed.{Typed}
use Rattle.run_scripts.specs.declared.refusal.Line.{Line}
use Rattle.run_scripts.specs.declared.refusal.ScriptRefusal.{ScriptRefusal}
use Rattle.run_scripts.specs.declared.refusal.ScriptRefusal.TheVariants as refusal
use Rattle.run_scripts.specs.declared.phase.Phase.{Phase}
use Rattle.run_scripts.specs.declared.phase.Phase.TheVariants.{Opening, Naming, Giving, Signed, Between, Done}
use Rattle.run_scripts.specs.declared.phase.Progress.{Progress}
use Rattle.run_scripts.specs.declared.phase.Halt.{Halt}
use Rattle.run_scripts.specs.declared.phase.Halt.TheVariants.{Wrong, Memory}
use Rattle.run_scripts.specs.declared.titles.Titles.{Titles}
use Rattle.run_scripts.specs.declared.titles.Table.{Table}
use Rattle.run_scripts.specs.Values.{is_end_kind, is_number_kind, is_quoted_kind, is_sign, is_word, minus_value, one_value}
use Rattle.run_scripts.specs.Usable.{are_writable, takes_minus}
use Rattle.run_scripts.specs.Scripts.{titles, params, first_of, line_word}

-- titles found by hash: each with the number of the first that has it
abbrev pub IsTable : List (List ℕ) → List (Vec ℕ × ℕ) → Type 0
IsTable names first = (name : List ℕ) → lookup (λ k. bytes_eq name k.items) first ≡ first_of names name

-- whether a title has this number
abbrev pub is_number_of : Option ℕ → ℕ → Bool
is_number_of found which = option_map_or (nat_eq which) found false

-- whether a line can be written that names one of the titles from a number on
abbrev pub opens_from : ℕ → Typed → Bool → ℕ → List (List ℕ) → Bool
opens_from N T firing which [] = false
opens_from N T firing which (name ∷ names) =
    (is_number_of (first_of (titles T firing) name) which && are_writable N T.kinds (params T firing which))
    || opens_from N T firing (suc which) names

abbrev pub opens : ℕ → Typed → Bool → Bool
opens N T firing = opens_from N T firing 0 (titles T firing)

-- what is known of the titles of the rules, or of the start states
pub record IsTitles (N : ℕ) (T : Typed) (firing : Bool) (found : Titles) : Type 0 where
  pub table : IsTable (titles T firing) found.first.entries
  pub open_is : found.opens ≡ opens N T firing

pub record IsReady (N : ℕ) (T : Typed) (table : Table) : Type 0 where
  pub starts : IsTitles N T false table.starts
  pub rules : IsTitles N T true table.rules

-- the titles that a line names
abbrev pub titles_in : Table → Bool → Titles
titles_in table firing = if firing then table.rules else table.starts

-- the type of the next parameter
abbrev pub next_param : Typed → Progress → Option Simple
next_param T p = slice_get (params T p.firing p.which) (length p.given)

abbrev pub in_phase : Progress → Phase → Progress
in_phase p phase = record p { phase = phase }

-- behind the word at the front of a line
abbrev pub line_opened : Progress → Bool → Progress
line_opened p firing = record p { phase = Naming; firing = firing }

abbrev pub titled : Progress → ℕ → Progress
titled p which = record p { phase = Giving; which = which }

abbrev pub with_value : Progress → Value → Progress
with_value p v = record p { phase = Giving; given = p.given ++ v ∷ [] }

abbrev pub line_ended : Progress → Progress
line_ended p =
    record p { phase = Between; given = []; lines = p.lines ++ record { which = p.which; values = p.given } ∷ [] }

-- at a title
abbrev pub title_step : ℕ → Typed → Progress → Token → Option ℕ → Result Progress Span
title_step N T p x None = Err x.at
title_step N T p x (Some which) =
    if are_writable N T.kinds (params T p.firing which) then Ok (titled p which) else Err x.at

-- at a value, which begins at a place
abbrev pub value_step : Progress → Span → Option Value → Result Progress Span
value_step p at None = Err at
value_step p at (Some v) = Ok (with_value p v)

-- where the end of the line comes
abbrev pub closing_step : Progress → Token → Result Progress Span
closing_step p x = if is_sign (codes ";") x then Ok (line_ended p) else Err x.at

-- where a value or the end of the line comes
abbrev pub give_step : ℕ → Typed → Progress → Token → Option Simple → Result Progress Span
give_step N T p x None = closing_step p x
give_step N T p x (Some over) =
    if is_sign (codes "-") x then (if takes_minus over then Ok (in_phase p (Signed x.at)) else Err x.at)
    else value_step p x.at (one_value N T.kinds over x)

-- behind `-`
abbrev pub sign_step : ℕ → Progress → Span → Token → Option Simple → Result Progress Span
sign_step N p at x None = Err x.at
sign_step N p at x (Some over) =
    if is_number_kind x.kind then value_step p at (minus_value N over x.number) else Err x.at

-- where the first word comes, if some start state can be named
abbrev pub opening_step : Bool → Progress → Token → Result Progress Span
opening_step can p x = if is_word (line_word false) x && can then Ok (line_opened p false) else Err x.at

-- where the next line comes, if some rule can be named, or the end
abbrev pub between_step : Bool → Progress → Token → Result Progress Span
between_step can p x =
    if is_word (line_word true) x && can then Ok (line_opened p true)
    else if is_end_kind x.kind then Ok (in_phase p Done)
    else Err x.at

abbrev pub step_in : ℕ → Typed → Progress → Token → Phase → Result Progress Span
step_in N T p x Opening = opening_step (opens N T false) p x
step_in N T p x Naming =
    if is_quoted_kind x.kind then title_step N T p x (first_of (titles T p.firing) x.text) else Err x.at
step_in N T p x Giving = give_step N T p x (next_param T p)
step_in N T p x (Signed at) = sign_step N p at x (next_param T p)
step_in N T p x Between = between_step (opens N T true) p x
step_in N T p x Done = Err x.at

abbrev pub step : ℕ → Typed → Progress → Token → Result Progress Span
step N T p x = step_in N T p x p.phase

abbrev pub go_on : Result Progress Span → (Progress → Result Progress Span) → Result Progress Span
go_on (Ok q) rest = rest q
go_on (Err at) rest = Err at

abbrev pub steps : ℕ → Typed → Progress → List Token → Result Progress Span
steps N T p [] = Ok p
steps N T p (x ∷ xs) = go_on (step N T p x) (λ q. steps N T q xs)

-- before the first token
abbrev pub fresh : Progress
fresh = record { phase = Opening; firing = false; which = 0; given = []; lines = [] }

-- a step as the code makes it in place
abbrev pub Says : Result Progress Span → Progress → Result (Unit {0}) Halt → Type 0
Says told after (Ok u) = told ≡ Ok after
Says told after (Err (Wrong at)) = told ≡ Err at
Says told after (Err Memory) = Unit {0}

-- the lines, where reading came to the end
abbrev pub is_done : Phase → Bool
is_done Done = true
is_done Opening = false
is_done Naming = false
is_done Giving = false
is_done (Signed at) = false
is_done Between = false

abbrev pub Finished : Progress → Result (List Line) ScriptRefusal → Type 0
Finished p (Ok lines) = (is_done p.phase ≡ true) × (lines ≡ p.lines)
Finished p (Err (refusal.E19 at)) = is_done p.phase ≡ false
Finished p (Err _) = ⊥

-- what reading the tokens of a text answers
abbrev pub IsReadAs : ℕ → Typed → List Token → Result (List Line) ScriptRefusal → Type 0
IsReadAs N T ts (Ok lines) = (q : Progress) × (steps N T fresh ts ≡ Ok q) × (is_done q.phase ≡ true) × (lines ≡ q.lines)
IsReadAs N T ts (Err (refusal.E19 at)) = steps N T fresh ts ≡ Err at
IsReadAs N T ts (Err refusal.Memory) = Unit {0}
IsReadAs N T ts (Err _) = ⊥

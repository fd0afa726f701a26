-- What code keeps of the items of one kind: the strings that are written with them, how many they are, and how many
-- instances they have, which stop at the greatest u64.
use Rattle.std.specs.Prelude.{ℕ, ◌+◌, Bool, not, ◌&&◌, List, [], ◌∷◌, ◌++◌, filter, length, Option, None, Some, is_some, if◌then◌else◌}
use Rattle.murphi_ast.specs.declared.text.Text.{Text}
use Rattle.murphi_ast.specs.declared.rule.RuleDecl.{RuleDecl}
use Rattle.murphi_ast.specs.Title.{Kind, is_of, string_of, is_usable, numbered}
use Rattle.murphi_typed.specs.Families.{Name}
use Rattle.murphi_types.specs.declared.scope.Meaning.TheVariants as meaning
use Rattle.murphi_types.specs.declared.scope.Entry.{Entry}
use Rattle.murphi_types.specs.Scopes.{entry, earliest}
use Rattle.murphi_types.specs.Weights.{stopped}
use Rattle.type_items.specs.declared.titles.Numbering.{Numbering}

abbrev pub no_items_yet : Numbering
no_items_yet = record { strings = []; count = 0; instances = 0 }

abbrev pub with_string : Option Text → List Entry → List Entry
with_string None strings = strings
with_string (Some s) strings = strings ++ entry s meaning.Refused ∷ []

-- whether a string is the title of an item that comes after those with these strings
abbrev pub is_free : List Entry → Name → Bool
is_free strings s = is_usable s && not (is_some (earliest strings s))

-- the title of the next item
abbrev pub titled : Numbering → Option Text → Name
titled numbers None = numbered (numbers.count + 1)
titled numbers (Some s) =
    if is_free numbers.strings s then s else numbered (numbers.count + 1)

-- one item more
abbrev pub numbered_on : Option Text → ℕ → Numbering → Numbering
numbered_on written instances numbers =
    record {
      strings = with_string written numbers.strings;
      count = numbers.count + 1;
      instances = stopped (numbers.instances + instances);
    }

-- the strings of items
abbrev pub strings_of : List RuleDecl → List Entry → List Entry
strings_of [] strings = strings
strings_of (one ∷ rest) strings = strings_of rest (with_string (string_of one) strings)

-- of the items of a kind
abbrev pub numbering : Kind → List RuleDecl → ℕ → Numbering
numbering kind written instances =
    record {
      strings = strings_of (filter (is_of kind) written) [];
      count = length (filter (is_of kind) written);
      instances = stopped instances;
    }

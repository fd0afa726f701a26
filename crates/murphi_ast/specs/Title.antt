-- Titles of items. An item's title is the string that is written with it, where that is not empty, does
-- not begin with `#`, and no earlier item of its kind has it; otherwise `#k`, with k its number among its
-- kind in text order from 1.
use Rattle.std.specs.Prelude.{ℕ, ◌+◌, nat_eq, Bool, true, false, not, ◌&&◌, List, [], ◌∷◌, Option, None, Some, if◌then◌else◌, filter, take, length}
use Rattle.std.specs.List.{list_any}
use Rattle.std.specs.Str.{bytes_eq}
use Rattle.std.specs.Fmt.{decimal}
use Rattle.murphi_ast.specs.declared.text.Text.{Text}
use Rattle.murphi_ast.specs.declared.rule.RuleDecl.{RuleDecl, Rule, Start, Invariant}
use Rattle.murphi_ast.specs.State.{Name}

-- the three kinds of items that have titles, each numbered by itself
pub data Kind : Type 0 where
  RuleKind : Kind
  StartKind : Kind
  InvariantKind : Kind

-- whether an item is of a kind
abbrev pub is_of : Kind → RuleDecl → Bool
is_of RuleKind (Rule title guard locals body at) = true
is_of StartKind (Start title locals body at) = true
is_of InvariantKind (Invariant title body at) = true
is_of _ _ = false

-- the string that is written with an item
abbrev pub string_of : RuleDecl → Option Text
string_of (Rule title guard locals body at) = title
string_of (Start title locals body at) = title
string_of (Invariant title body at) = title
string_of _ = None

-- whether a string may be a title: it is not empty and does not begin with `#`
abbrev pub is_usable : Name → Bool
is_usable [] = false
is_usable (b ∷ bs) = not (nat_eq b 35)

-- whether an item has this string
abbrev pub has_string : Name → RuleDecl → Bool
has_string s r = is_same (string_of r)
  where
    is_same : Option Text → Bool
    is_same None = false
    is_same (Some t) = bytes_eq t s

-- the number k as a title: `#k`
abbrev pub numbered : ℕ → Name
numbered k = 35 ∷ decimal k

-- the title of an item, given the earlier ones of its kind
abbrev pub title_after : List RuleDecl → Option Text → Name
title_after earlier None = numbered (length earlier + 1)
title_after earlier (Some s) = if is_usable s && not (list_any (has_string s) earlier) then s else numbered (length earlier + 1)

-- the title of item k, which is of this kind and is written with this string
abbrev pub title_at : List RuleDecl → Kind → ℕ → Option Text → Name
title_at items kind k string = title_after (filter (is_of kind) (take k items)) string

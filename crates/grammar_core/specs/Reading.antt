-- Reading a form from a list of tokens, up to the first token that fits no more. One of three things is
-- so: a front is spelled (Got), a front begins the form but spells nothing (Wrong), or the next token
-- opens a nesting too many (Deep).
use Rattle.std.specs.Prelude.{◌≡◌, List, [], ◌∷◌, ◌++◌}
use Rattle.grammar_core.specs.Forms.{Grammar, FormOf, Tree}
use Rattle.grammar_core.specs.Spelling.{Room, Any, Spells, Begins}

-- why reading stops: at a token that does not fit, or at one that opens a nesting too many
pub data Fault : Type 0 where
  Wrong : Fault
  Deep : Fault

-- what was read from a list, with what is left of it; or why reading stopped, and what is left
pub data Reading (Read Token : Type 0) : Type 0 where
  Got : Read → List Token → Reading Read Token
  Stop : Fault → List Token → Reading Read Token

-- with the next token, the front begins the form no longer
abbrev pub Ends : (g : Grammar) → Room → FormOf g → List g.Token → List g.Token → Type 0
Ends g r f front rest = (c : g.Token) (d : List g.Token) → rest ≡ c ∷ d → Begins g r f (front ++ c ∷ []) → ⊥

-- the front is spelled within the room, and with the next token it begins the form no longer, at any depth
pub record IsGot (g : Grammar) (r : Room) (f : FormOf g) (ts : List g.Token) (value : Tree g f) (rest : List g.Token) : Type 0 where
  pub front : List g.Token
  pub is : ts ≡ front ++ rest
  pub spelled : Spells g r f front value
  pub ends : Ends g Any f front rest

-- the front begins the form within the room and spells nothing, and with the next token it begins the form
-- no longer, at any depth
pub record IsWrong (g : Grammar) (r : Room) (f : FormOf g) (ts rest : List g.Token) : Type 0 where
  pub front : List g.Token
  pub is : ts ≡ front ++ rest
  pub begun : Begins g r f front
  pub unspelled : (value : Tree g f) → Spells g Any f front value → ⊥
  pub ends : Ends g Any f front rest

-- the front begins the form within the room, and with the next token it begins the form only where more
-- nestings may be opened
pub record IsDeep (g : Grammar) (r : Room) (f : FormOf g) (ts rest : List g.Token) : Type 0 where
  pub front : List g.Token
  pub opens : g.Token
  pub behind : List g.Token
  pub is : ts ≡ front ++ rest
  pub next : rest ≡ opens ∷ behind
  pub begun : Begins g r f front
  pub deeper : Begins g Any f (front ++ opens ∷ [])
  pub ends : Ends g r f front rest

-- the reading of a form from a list
unfoldable pub Reads : (g : Grammar) (r : Room) (f : FormOf g) → List g.Token → Reading (Tree g f) g.Token → Type 0
Reads g r f ts (Got value rest) = IsGot g r f ts value rest
Reads g r f ts (Stop Wrong rest) = IsWrong g r f ts rest
Reads g r f ts (Stop Deep rest) = IsDeep g r f ts rest

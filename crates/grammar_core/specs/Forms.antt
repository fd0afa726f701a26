-- A grammar as data: its forms, and what each form reads to. This project's own way to write a grammar
-- down, so that what spells a form and what begins it are said once, for every grammar.
use Rattle.std.specs.Prelude.{List, ◌⊎◌}

-- a form of a grammar with these symbols, whose named forms have these names
pub data Form (Symbol Name : Type 0) : Type 0 where
  -- one token of this symbol
  One : Symbol → Form Symbol Name
  -- no token
  Empty : Form Symbol Name
  -- the one, and behind it the other
  Seq : Form Symbol Name → Form Symbol Name → Form Symbol Name
  -- either of two
  Choice : Form Symbol Name → Form Symbol Name → Form Symbol Name
  -- any number of these, one behind the other
  Many : Form Symbol Name → Form Symbol Name
  -- a token of this symbol and what follows it: together they are one open nesting
  Nest : Symbol → Form Symbol Name → Form Symbol Name
  -- a named form
  Call : Name → Form Symbol Name

-- what a form reads to, where the type of what each named form gives is known
abbrev pub TreeOf : {Symbol Name : Type 0} (Token : Type 0) (Value : Name → Type 0) → Form Symbol Name → Type 0
TreeOf Token Value (One s) = Token
TreeOf Token Value Empty = Unit {0}
TreeOf Token Value (Seq a b) = TreeOf Token Value a × TreeOf Token Value b
TreeOf Token Value (Choice a b) = TreeOf Token Value a ⊎ TreeOf Token Value b
TreeOf Token Value (Many a) = List (TreeOf Token Value a)
TreeOf Token Value (Nest s a) = Token × TreeOf Token Value a
TreeOf Token Value (Call n) = Value n

-- a grammar: its tokens and their symbols, the names of its forms, what each named form gives, its right
-- side, and what it builds of the parts that were read
pub record Grammar : Type 1 where
  pub Token : Type 0
  pub Symbol : Type 0
  pub symbol : Token → Symbol
  pub Name : Type 0
  pub Value : Name → Type 0
  pub rule : Name → Form Symbol Name
  pub build : (n : Name) → TreeOf Token Value (rule n) → Value n

-- a form of a grammar
abbrev pub FormOf : Grammar → Type 0
FormOf g = Form g.Symbol g.Name

-- what a form of a grammar reads to
abbrev pub Tree : (g : Grammar) → FormOf g → Type 0
Tree g f = TreeOf g.Token g.Value f

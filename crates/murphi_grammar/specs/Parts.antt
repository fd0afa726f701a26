-- How the forms of the grammar of protocols are written.
use Rattle.grammar_core.specs.Forms.{Form, One, Empty, Seq, Choice, Many, Nest, Call}
use Rattle.murphi_grammar.specs.declared.symbol.Symbol.{Symbol}
use Rattle.murphi_grammar.specs.declared.symbol.Symbol.TheVariants as t
use Rattle.murphi_grammar.specs.Names.{Name}

-- a form of this grammar
abbrev pub Part : Type 0
Part = Form Symbol Name

infixr 40 ◌▸◌
infixr 30 ◌∥◌
-- the one, and behind it the other
abbrev pub ◌▸◌ : Part → Part → Part
a ▸ b = Seq a b

-- either
abbrev pub ◌∥◌ : Part → Part → Part
a ∥ b = Choice a b

-- one token
abbrev pub one : Symbol → Part
one s = One s

-- a named form
abbrev pub form : Name → Part
form n = Call n

abbrev pub many : Part → Part
many a = Many a

abbrev pub optional : Part → Part
optional a = Choice a Empty

-- a token, and what follows it as one more open nesting
abbrev pub nest : Symbol → Part → Part
nest s a = Nest s a

-- `end`, or the word itself
abbrev pub ending : Symbol → Part
ending word = one t.End ∥ one word

abbrev pub in_parentheses : Part → Part
in_parentheses a = nest t.Open (a ▸ one t.Close)

-- string . name
abbrev pub event_form : Part
event_form = one t.Quoted ▸ one t.Dot ▸ one t.Name

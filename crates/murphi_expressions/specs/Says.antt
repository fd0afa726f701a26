-- What the functions of the reader answer, from an index of the tokens. Mechanism: the calls at the top say it
-- by the grammar as it is written.
use Rattle.std.specs.Prelude.{◌≡◌, ℕ, ◌+◌, ◌<◌, ◌≤◌, Bool, true, false, List, [], ◌∷◌, ◌++◌, length, drop, Option, None, Some, Result, Ok, Err}
use Rattle.grammar_core.specs.Forms.{Call, TreeOf}
use Rattle.grammar_core.specs.Spelling.{Limit}
use Rattle.grammar_core.specs.Reading as read
use Rattle.grammar_core.specs.Reading.{Got}
use Rattle.grammar_core.specs.Test.{head_in, firsts}
use Rattle.grammar_core.specs.Walk.{Run}
use Rattle.murphi_ast.specs.declared.token.Token.{Token}
use Rattle.murphi_ast.specs.declared.token.Span.{Span}
use Rattle.murphi_ast.specs.declared.expr.Named.{Named}
use Rattle.murphi_grammar.specs.declared.symbol.Symbol.{Symbol}
use Rattle.murphi_grammar.specs.Names.{Name}
use Rattle.murphi_grammar.specs.Parts.{Part, one, nest}
use Rattle.murphi_grammar.specs.Values.{Value, named}
use Rattle.murphi_grammar.specs.Tables.{tables}
use Rattle.murphi_expressions.specs.declared.step.Stop.{Stop}
use Rattle.murphi_expressions.specs.declared.step.Stop.TheVariants.{Wrong, Deep, Memory}

-- reading a form from an index on stops here, where so many nestings may be opened
unfoldable pub Stops : Part → ℕ → List Token → ℕ → Stop → Type 0
Stops f n ts at (Wrong j) = Run tables (Limit n) f (drop at ts) (read.Stop read.Wrong (drop j ts))
Stops f n ts at (Deep j) = Run tables (Limit n) f (drop at ts) (read.Stop read.Deep (drop j ts))
Stops f n ts at Memory = Unit {0}

-- what is answered of a named form
unfoldable pub Says : (name : Name) → ℕ → List Token → ℕ → Result (Value name × ℕ) Stop → Type 0
Says name n ts at (Ok (x, next)) = Run tables (Limit n) (Call name) (drop at ts) (Got x (drop next ts))
Says name n ts at (Err s) = Stops (Call name) n ts at s

-- what is answered of any form, where this is made of its parts
unfoldable pub Gives : {V : Type 0} (f : Part) → (TreeOf Token Value f → V) → ℕ → List Token → ℕ → Result (V × ℕ) Stop → Type 0
Gives f made n ts at (Ok (x, next)) =
    (parts : TreeOf Token Value f) × (x ≡ made parts) × Run tables (Limit n) f (drop at ts) (Got parts (drop next ts))
Gives f made n ts at (Err s) = Stops f n ts at s

-- what is answered of a form in which no nesting opens: it does not depend on how many may be opened
unfoldable pub Takes : {V : Type 0} (f : Part) → (TreeOf Token Value f → V) → List Token → ℕ → Result (V × ℕ) Stop → Type 0
Takes f made ts at (Ok (x, next)) =
    (parts : TreeOf Token Value f) × (x ≡ made parts) × ((n : ℕ) → Run tables (Limit n) f (drop at ts) (Got parts (drop next ts)))
Takes f made ts at (Err s) = (n : ℕ) → Stops f n ts at s

-- the same, where nothing is made of the parts
unfoldable pub Passes : Part → List Token → ℕ → Result ℕ Stop → Type 0
Passes f ts at (Ok next) =
    (parts : TreeOf Token Value f) × ((n : ℕ) → Run tables (Limit n) f (drop at ts) (Got parts (drop next ts)))
Passes f ts at (Err s) = (n : ℕ) → Stops f n ts at s

-- whether the token at an index may begin a form
unfoldable pub can_begin : Part → List Token → ℕ → Bool
can_begin f ts at = head_in tables (firsts tables f) (drop at ts)

-- the sign that stands at an index, where a form of one token stands there
unfoldable pub IsSign : {V : Type 0} (f : Part) → (TreeOf Token Value f → V) → List Token → ℕ → Option V → Type 0
IsSign f made ts at (Some op) =
    (parts : TreeOf Token Value f) × (op ≡ made parts) ×
    ((n : ℕ) → Run tables (Limit n) f (drop at ts) (Got parts (drop (at + 1) ts))) × (can_begin f ts at ≡ true)
IsSign f made ts at None = can_begin f ts at ≡ false

-- the room inside a nesting that this symbol opens at an index, if it stands there and there is room
unfoldable pub Opens : Symbol → ℕ → List Token → ℕ → Result ℕ Stop → Type 0
Opens s n ts at (Ok m) = (can_begin (one s) ts at ≡ true) × (n ≡ m + 1)
Opens s n ts at (Err e) = (f : Part) → Stops (nest s f) n ts at e

-- the room inside a nesting that opens at an index
abbrev pub Enters : ℕ → ℕ → Result ℕ Stop → Type 0
Enters at n (Ok m) = n ≡ m + 1
Enters at n (Err e) = (n ≡ 0) × (e ≡ Deep at)

-- made in memory
abbrev pub Made : {A : Type 0} → A → Result A Stop → Type 0
Made x (Ok y) = y ≡ x
Made x (Err e) = e ≡ Memory

-- one more at the end, or want of memory
abbrev pub Pushed : {A : Type 0} → List A → A → List A → Result (Unit {0}) Stop → Type 0
Pushed old x new (Ok _) = new ≡ old ++ x ∷ []
Pushed old x new (Err e) = e ≡ Memory

-- the index behind is further on, and within the tokens
abbrev pub Goes : {A : Type 0} → ℕ → List Token → Result (A × ℕ) Stop → Type 0
Goes at ts (Ok (x, next)) = (at < next) × (next ≤ length ts)
Goes at ts (Err e) = Unit {0}

-- the index behind is no further back, and within the tokens
abbrev pub Stays : {A : Type 0} → ℕ → List Token → Result (A × ℕ) Stop → Type 0
Stays at ts (Ok (x, next)) = (at ≤ next) × (next ≤ length ts)
Stays at ts (Err e) = Unit {0}

-- the index behind is the next one, and within the tokens
abbrev pub Steps : ℕ → List Token → Result ℕ Stop → Type 0
Steps at ts (Ok next) = (next ≡ at + 1) × (at < length ts)
Steps at ts (Err e) = Unit {0}

-- the first of some tokens: its place, its number, and the name that it writes
abbrev pub place_of : List Token → Span
place_of [] = record { line = 1; column = 1 }
place_of (x ∷ xs) = x.at

abbrev pub number_of : List Token → ℕ
number_of [] = 0
number_of (x ∷ xs) = x.number

abbrev pub name_of : List Token → Named
name_of [] = record { name = []; at = record { line = 1; column = 1 } }
name_of (x ∷ xs) = named x

-- this is made, whatever was read
abbrev pub always : {A B : Type 0} → A → B → A
always x _ = x

-- what a named form gives is itself
abbrev pub itself : {A : Type 0} → A → A
itself x = x

-- an answer with these read before
abbrev pub with_front : {A : Type 0} → List A → Result (List A × ℕ) Stop → Result (List A × ℕ) Stop
with_front front (Ok (xs, next)) = Ok (front ++ xs, next)
with_front front (Err s) = Err s

-- so far these were read of a list: what is answered of the rest is answered of the whole, with them in front
unfoldable pub SoFar : {A : Type 0} (rest : Part) → (TreeOf Token Value rest → List A) → (whole : Part) →
    (TreeOf Token Value whole → List A) → ℕ → List Token → ℕ → ℕ → List A → Type 0
SoFar {A} rest made whole gives n ts from at front =
    (r : Result (List A × ℕ) Stop) → Gives rest made n ts at r → Gives whole gives n ts from (with_front front r)

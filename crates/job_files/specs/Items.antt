-- Parts of the items of files, where the grammar has no name for them, and what is made of them. Mechanism.
use Rattle.std.specs.Prelude.{ℕ, List, ◌∷◌, ◌++◌, map, Result}
use Rattle.grammar_core.specs.Forms.{TreeOf}
use Rattle.murphi_ast.specs.declared.token.Token.{Token}
use Rattle.murphi_ast.specs.declared.job.Event.{Event}
use Rattle.murphi_grammar.specs.declared.symbol.Symbol.TheVariants as t
use Rattle.murphi_grammar.specs.Parts.{Part, ◌▸◌, one, many, event_form}
use Rattle.murphi_grammar.specs.Values.{Value, event, seconds}
use Rattle.murphi_expressions.specs.Says.{Gives, SoFar}
use Rattle.murphi_expressions.specs.declared.step.Stop.{Stop}

-- `{ , event }`
abbrev pub one_more_event : Part
one_more_event = one t.Comma ▸ event_form

abbrev pub events_behind : List (TreeOf Token Value one_more_event) → List Event
events_behind parts = map event (seconds parts)

unfoldable pub after_events : List Event → List (TreeOf Token Value one_more_event) → List Event
after_events front parts = front ++ events_behind parts

-- what is answered of `{ , event }`, behind these, and these were read so far
unfoldable pub GivesEvents : List Event → List Token → ℕ → Result (List Event × ℕ) Stop → Type 0
GivesEvents front ts at r = (k : ℕ) → Gives (many one_more_event) (after_events front) k ts at r

unfoldable pub EventsSoFar : List Event → List Token → ℕ → ℕ → List Event → Type 0
EventsSoFar front ts from at read = (k : ℕ) → SoFar (many one_more_event) events_behind (many one_more_event) (after_events front) k ts from at read

-- `event , event { , event } ;`
abbrev pub events_form : Part
events_form = event_form ▸ one t.Comma ▸ event_form ▸ many one_more_event ▸ one t.Semicolon

abbrev pub events_of : TreeOf Token Value events_form → List Event
events_of (first, (_, (second, (more, _)))) = event first ∷ event second ∷ events_behind more

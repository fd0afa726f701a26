-- What is answered of the tokens of a text as a protocol, in the words of the grammar as it is written.
use Rattle.std.specs.Prelude.{◌≡◌, List, None, Some, Result, Ok, Err}
use Rattle.grammar_core.specs.Spelling.{Limit, Spells}
use Rattle.grammar_core.specs.Reading.{Wrong, Deep}
use Rattle.murphi_ast.specs.declared.token.Token.{Token}
use Rattle.murphi_ast.specs.declared.rule.Protocol.{Protocol}
use Rattle.murphi_grammar.specs.Names as n
use Rattle.murphi_grammar.specs.Parts.{form}
use Rattle.murphi_grammar.specs.Grammar.{murphi}
use Rattle.murphi_expressions.specs.Expression.{greatest_nesting, first_refused, StopsAt}
use Rattle.murphi_expressions.specs.declared.refusal.SyntaxRefusal.{SyntaxRefusal}
use Rattle.murphi_expressions.specs.declared.refusal.SyntaxRefusal.TheVariants as refusal

-- the tree that the tokens spell, where no refused word stands among them; or why they spell none
abbrev pub TellsProtocol : List Token → Result Protocol SyntaxRefusal → Type 0
TellsProtocol tokens (Ok tree) =
    (first_refused tokens ≡ None) × Spells murphi (Limit greatest_nesting) (form n.Protocol) tokens tree
TellsProtocol tokens (Err (refusal.E10 place)) = first_refused tokens ≡ Some place
TellsProtocol tokens (Err (refusal.E04 place)) = (first_refused tokens ≡ None) × StopsAt Wrong n.Protocol tokens place
TellsProtocol tokens (Err (refusal.E15 place)) = (first_refused tokens ≡ None) × StopsAt Deep n.Protocol tokens place
TellsProtocol tokens (Err refusal.Memory) = Unit {0}

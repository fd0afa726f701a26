-- What is answered of the tokens of a text, in the words of the grammar as it is written: the place of the first
-- refused word, before all else; what is read; or the place of the token at which reading stops, one that does
-- not fit or one that opens a nesting too many.
use Rattle.std.specs.Prelude.{◌≡◌, ℕ, ◌≤◌, List, [], ◌∷◌, length, drop, Option, None, Some, Result, Ok, Err}
use Rattle.grammar_core.specs.Spelling.{Limit}
use Rattle.grammar_core.specs.Reading.{Fault, Wrong, Deep, Reads, Got, Stop}
use Rattle.murphi_ast.specs.declared.token.Token.{Token}
use Rattle.murphi_ast.specs.declared.token.Span.{Span}
use Rattle.murphi_ast.specs.declared.expr.Expr.{Expr}
use Rattle.murphi_grammar.specs.declared.symbol.Symbol.{Symbol}
use Rattle.murphi_grammar.specs.declared.symbol.Symbol.TheVariants as t
use Rattle.murphi_grammar.specs.Symbols.{symbol_of}
use Rattle.murphi_grammar.specs.Names as n
use Rattle.murphi_grammar.specs.Names.{Name}
use Rattle.murphi_grammar.specs.Parts.{form}
use Rattle.murphi_grammar.specs.Grammar.{murphi}
use Rattle.murphi_expressions.specs.declared.refusal.SyntaxRefusal.{SyntaxRefusal}
use Rattle.murphi_expressions.specs.declared.refusal.SyntaxRefusal.TheVariants as refusal

-- how many nestings may be open at once
abbrev pub greatest_nesting : ℕ
greatest_nesting = 100

-- the place of the first refused word
abbrev pub refused_by : Symbol → Span → Option Span → Option Span
refused_by t.Refused at rest = Some at
refused_by _ at rest = rest

abbrev pub first_refused : List Token → Option Span
first_refused [] = None
first_refused (x ∷ xs) = refused_by (symbol_of x) x.at (first_refused xs)

-- reading a form from these tokens stops, for this reason, at a token that stands at this place
abbrev pub StopsAt : Fault → Name → List Token → Span → Type 0
StopsAt why name tokens place =
    (x : Token) × (behind : List Token) × Reads murphi (Limit greatest_nesting) (form name) tokens (Stop why (x ∷ behind)) × (place ≡ x.at)

-- what is answered of an expression that is read from an index on: the expression that the tokens before the
-- first that fits no more spell, and the index of that one; or why they spell none
abbrev pub TellsExpression : List Token → ℕ → Result (Expr × ℕ) SyntaxRefusal → Type 0
TellsExpression tokens at (Ok (tree, next)) =
    (first_refused tokens ≡ None) × (next ≤ length tokens) ×
    Reads murphi (Limit greatest_nesting) (form n.Expr) (drop at tokens) (Got tree (drop next tokens))
TellsExpression tokens at (Err (refusal.E10 place)) = first_refused tokens ≡ Some place
TellsExpression tokens at (Err (refusal.E04 place)) = (first_refused tokens ≡ None) × StopsAt Wrong n.Expr (drop at tokens) place
TellsExpression tokens at (Err (refusal.E15 place)) = (first_refused tokens ≡ None) × StopsAt Deep n.Expr (drop at tokens) place
TellsExpression tokens at (Err refusal.Memory) = Unit {0}

-- what may be answered is answered, unless memory runs out
abbrev pub IsAnswered : {A : Type 0} → Result A SyntaxRefusal → Result A SyntaxRefusal → Type 0
IsAnswered result (Err refusal.Memory) = Unit {0}
IsAnswered (Err refusal.Memory) (Ok x) = Unit {0}
IsAnswered (Err refusal.Memory) (Err e) = Unit {0}
IsAnswered result answer = result ≡ answer

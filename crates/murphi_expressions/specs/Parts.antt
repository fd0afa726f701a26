-- Parts of forms that a function reads, where the grammar has no name for them, and what it makes of them.
-- Mechanism.
use Rattle.std.specs.Prelude.{ℕ, List}
use Rattle.std.proofs.Common.{inl, inr}
use Rattle.grammar_core.specs.Forms.{TreeOf}
use Rattle.murphi_ast.specs.declared.token.Token.{Token}
use Rattle.murphi_ast.specs.declared.expr.Named.{Named}
use Rattle.murphi_ast.specs.declared.expr.Selector.{Selector}
use Rattle.murphi_ast.specs.declared.expr.Bind.{Bind}
use Rattle.murphi_ast.specs.declared.expr.FieldDecl.{FieldDecl}
use Rattle.murphi_ast.specs.declared.expr.TypeExpr as type
use Rattle.murphi_ast.specs.declared.expr.TypeExpr.{TypeExpr}
use Rattle.murphi_ast.specs.declared.expr.Expr as e
use Rattle.murphi_ast.specs.declared.expr.Expr.{Expr}
use Rattle.murphi_grammar.specs.declared.symbol.Symbol.{Symbol}
use Rattle.murphi_grammar.specs.declared.symbol.Symbol.TheVariants as t
use Rattle.murphi_grammar.specs.Names as n
use Rattle.murphi_grammar.specs.Parts.{Part, ◌▸◌, ◌∥◌, one, form, nest, ending, in_parentheses}
use Rattle.murphi_grammar.specs.Pieces.{cut, piece, piece_build}
use Rattle.murphi_grammar.specs.Values.{Value, NameTail, chained}
use Rattle.murphi_expressions.specs.Says.{SoFar, itself}

-- what a primary of a name is, with what stands behind the name
unfoldable pub primary_of : Named → NameTail → Expr
primary_of root (inl args) = e.Call root args
primary_of root (inr sels) = e.Place (record { root = root; selectors = sels })

-- what stands behind the word of a quantifier
abbrev pub bound : Symbol → Part
bound word = form n.Bind ▸ one t.Do ▸ form n.Expr ▸ ending word

abbrev pub bound_parts : (word : Symbol) → TreeOf Token Value (bound word) → Bind × Expr
bound_parts word (bind, (_, (body, _))) = (bind, body)

-- what stands behind the first operand of a range
abbrev pub range_rest : Part
range_rest = cut n.ProductLinks ▸ cut n.SumLinks ▸ one t.DotDot ▸ form n.Sum

abbrev pub range_of : Expr → TreeOf Token Value range_rest → TypeExpr
range_of first (ms, (ads, (_, high))) = type.Range (chained (chained first ms) ads) high

-- `array [ type ] of type`
abbrev pub array_type : Part
array_type = nest t.Array (nest t.OpenBracket (form n.TypeForm ▸ one t.CloseBracket) ▸ one t.Of ▸ form n.TypeForm)

abbrev pub array_of : TreeOf Token Value array_type → TypeExpr
array_of (x, ((_, (index, _)), (_, item))) = type.Array index item x.at

-- the last three of the forms of a type
abbrev pub other_type : Part
other_type =
    one t.Scalarset ▸ in_parentheses (form n.Expr) ∥
    nest t.Record (form n.Fields ▸ ending t.EndRecord) ∥
    array_type

abbrev pub other_type_of : TreeOf Token Value other_type → TypeExpr
other_type_of (inl (x, (_, (size, _)))) = type.Scalarset size x.at
other_type_of (inr (inl (x, (fs, _)))) = type.Fields fs x.at
other_type_of (inr (inr array)) = array_of array

-- `names : type`
abbrev pub field_form : Part
field_form = form n.NameList ▸ one t.Colon ▸ form n.TypeForm

abbrev pub field_of : TreeOf Token Value field_form → FieldDecl
field_of (xs, (_, body)) = record { names = xs; body = body }

-- so far these were read of lists that are read in a loop
unfoldable pub NamesSoFar : List Token → ℕ → ℕ → List Named → Type 0
NamesSoFar ts from at front = (k : ℕ) → SoFar (piece n.MoreNames) (piece_build n.MoreNames) (form n.NameList) itself k ts from at front

unfoldable pub ArgsSoFar : ℕ → List Token → ℕ → ℕ → List Expr → Type 0
ArgsSoFar k ts from at front = SoFar (piece n.MoreArgs) (piece_build n.MoreArgs) (form n.Args) itself k ts from at front

unfoldable pub SelectorsSoFar : ℕ → List Token → ℕ → ℕ → List Selector → Type 0
SelectorsSoFar k ts from at front = SoFar (piece n.Selectors) (piece_build n.Selectors) (cut n.Selectors) itself k ts from at front

unfoldable pub FieldsSoFar : ℕ → List Token → ℕ → ℕ → List FieldDecl → Type 0
FieldsSoFar k ts from at front = SoFar (form n.Fields) itself (form n.Fields) itself k ts from at front

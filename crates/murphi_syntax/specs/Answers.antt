-- What the functions of the reader answer, against the reading that is computed. A function reads from
-- an index of the tokens, and answers the tree and the index behind it, or that it stopped.
use Rattle.std.specs.Prelude.{ℕ, suc, List, None, Some, drop}
use Rattle.murphi_ast.specs.declared.token.Span.{Span}
use Rattle.murphi_ast.specs.declared.token.Token.{Token}
use Rattle.murphi_ast.specs.declared.expr.Link.{Link}
use Rattle.murphi_ast.specs.declared.expr.Expr.{Expr}
use Rattle.murphi_ast.specs.Grammar.{Level, Implication, Disjunction, Negation, Primary}
use Rattle.murphi_syntax.specs.Reading.{Read, Eventually, chain_level, operand_of, after, grouped, compared, negated, implied, read, IsRead, AreLinks}
use Rattle.murphi_syntax.specs.declared.expr.Connective.{Connective}
use Rattle.murphi_syntax.specs.declared.expr.ExprRead.{ExprRead}
use Rattle.murphi_syntax.specs.declared.expr.ExprRead.TheVariants as one
use Rattle.murphi_syntax.specs.declared.expr.LinksRead.{LinksRead}
use Rattle.murphi_syntax.specs.declared.expr.LinksRead.TheVariants as many

-- behind the left side of a comparison, in so many turns
abbrev pub compared_at : ℕ → ℕ → Expr → List Token → Read Expr
compared_at k n left rest = compared (read k Primary n) left rest

abbrev pub expr_of : List Token → ExprRead → Read Expr
expr_of tokens (one.Got tree next) = Some (tree, drop next tokens)
expr_of tokens (one.Stop place) = None

abbrev pub links_of : List Token → LinksRead → Read (List Link)
links_of tokens (many.Got links next) = Some (links, drop next tokens)
links_of tokens (many.Stop place) = None

-- the index behind what was read from an index
abbrev pub reached : ℕ → ExprRead → ℕ
reached at (one.Got tree next) = next
reached at (one.Stop place) = at

abbrev pub links_reached : ℕ → LinksRead → ℕ
links_reached at (many.Got links next) = next
links_reached at (many.Stop place) = at

-- what is read at an index
unfoldable pub IsExpr : Level → ℕ → List Token → ℕ → ExprRead → Type 0
IsExpr level n tokens at answer = IsRead level n (drop at tokens) (expr_of tokens answer)

-- what is read at an index as an operand of a chain
abbrev pub IsOperand : Connective → ℕ → List Token → ℕ → ExprRead → Type 0
IsOperand op n tokens at answer = IsExpr (operand_of op) n tokens at answer

-- what is read at an index as a chain
abbrev pub IsChain : Connective → ℕ → List Token → ℕ → ExprRead → Type 0
IsChain op n tokens at answer = IsExpr (chain_level op) n tokens at answer

-- what is read at an index as the further operands of a chain
unfoldable pub IsLinks : Connective → ℕ → List Token → ℕ → LinksRead → Type 0
IsLinks op n tokens at answer = AreLinks op n (drop at tokens) (links_of tokens answer)

-- what is read behind the left side of an implication
unfoldable pub IsImplied : ℕ → List Token → Expr → ℕ → ExprRead → Type 0
IsImplied n tokens left at answer = Eventually (λ k. implied (read k Disjunction (suc n)) n left (drop at tokens)) (expr_of tokens answer)

-- what is read at an index as a comparison
unfoldable pub IsComparison : ℕ → List Token → ℕ → ExprRead → Type 0
IsComparison n tokens at answer = Eventually (λ k. after (compared_at k n) (read k Primary n (drop at tokens))) (expr_of tokens answer)

-- what is read behind the left side of a comparison
unfoldable pub IsCompared : ℕ → List Token → Expr → ℕ → ExprRead → Type 0
IsCompared n tokens left at answer = Eventually (λ k. compared_at k n left (drop at tokens)) (expr_of tokens answer)

-- what is read behind a `!`
unfoldable pub IsNegated : ℕ → List Token → Span → ℕ → ExprRead → Type 0
IsNegated n tokens place at answer = Eventually (λ k. negated place (read k Negation (suc n)) n (drop at tokens)) (expr_of tokens answer)

-- what is read behind an opening parenthesis
unfoldable pub IsGroup : ℕ → List Token → ℕ → ExprRead → Type 0
IsGroup n tokens at answer = Eventually (λ k. grouped (read k Implication (suc n)) n (drop at tokens)) (expr_of tokens answer)

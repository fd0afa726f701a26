-- The levels of expressions whose forms are chains, read by one function each. Mechanism.
use Rattle.std.specs.Prelude.{ℕ, List, Option, Result}
use Rattle.murphi_ast.specs.declared.token.Token.{Token}
use Rattle.murphi_ast.specs.declared.expr.ChainOp.{ChainOp}
use Rattle.murphi_ast.specs.declared.expr.ChainOp.TheVariants as chain
use Rattle.murphi_ast.specs.declared.expr.Expr.{Expr}
use Rattle.murphi_ast.specs.declared.expr.Link.{Link}
use Rattle.murphi_grammar.specs.declared.symbol.Symbol.TheVariants as t
use Rattle.murphi_grammar.specs.Names as n
use Rattle.murphi_grammar.specs.Parts.{one}
use Rattle.murphi_grammar.specs.Pieces.{cut, piece, piece_build}
use Rattle.murphi_expressions.specs.Says.{Says, IsSign, SoFar, always, itself}
use Rattle.murphi_expressions.specs.declared.sign.Level.{Level}
use Rattle.murphi_expressions.specs.declared.sign.Level.TheVariants.{Or, And, Sum, Product}
use Rattle.murphi_expressions.specs.declared.step.Stop.{Stop}

-- what is answered of the chains of a level
unfoldable pub SaysChain : Level → ℕ → List Token → ℕ → Result (Expr × ℕ) Stop → Type 0
SaysChain Or k ts at r = Says n.Or k ts at r
SaysChain And k ts at r = Says n.And k ts at r
SaysChain Sum k ts at r = Says n.Sum k ts at r
SaysChain Product k ts at r = Says n.Product k ts at r

-- what is answered of their operands
unfoldable pub SaysOperand : Level → ℕ → List Token → ℕ → Result (Expr × ℕ) Stop → Type 0
SaysOperand Or k ts at r = Says n.And k ts at r
SaysOperand And k ts at r = Says n.Not k ts at r
SaysOperand Sum k ts at r = Says n.Product k ts at r
SaysOperand Product k ts at r = Says n.Unary k ts at r

-- what is answered of their further operands
unfoldable pub SaysLinks : Level → ℕ → List Token → ℕ → Result (List Link × ℕ) Stop → Type 0
SaysLinks Or k ts at r = Says (n.Cut n.OrLinks) k ts at r
SaysLinks And k ts at r = Says (n.Cut n.AndLinks) k ts at r
SaysLinks Sum k ts at r = Says (n.Cut n.SumLinks) k ts at r
SaysLinks Product k ts at r = Says (n.Cut n.ProductLinks) k ts at r

-- the sign before one of these at an index
unfoldable pub IsLinkSign : Level → List Token → ℕ → Option ChainOp → Type 0
IsLinkSign Or ts at r = IsSign (one t.Bar) (always chain.Or) ts at r
IsLinkSign And ts at r = IsSign (one t.Ampersand) (always chain.And) ts at r
IsLinkSign Sum ts at r = IsSign (cut n.SumSign) itself ts at r
IsLinkSign Product ts at r = IsSign (cut n.ProductSign) itself ts at r

-- so far these further operands were read
unfoldable pub LinksSoFar : Level → ℕ → List Token → ℕ → ℕ → List Link → Type 0
LinksSoFar Or k ts from at front =
    SoFar (piece n.OrLinks) (piece_build n.OrLinks) (cut n.OrLinks) itself k ts from at front
LinksSoFar And k ts from at front =
    SoFar (piece n.AndLinks) (piece_build n.AndLinks) (cut n.AndLinks) itself k ts from at front
LinksSoFar Sum k ts from at front =
    SoFar (piece n.SumLinks) (piece_build n.SumLinks) (cut n.SumLinks) itself k ts from at front
LinksSoFar Product k ts from at front =
    SoFar (piece n.ProductLinks) (piece_build n.ProductLinks) (cut n.ProductLinks) itself k ts from at front

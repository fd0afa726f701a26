-- What is left of the tokens falls from call to call, and on the same tokens the rank of the function.
use Rattle.std.proofs.Common.{◌+◌, ◌-◌, ◌*◌, ◌≤◌, ℕ, length}
use Rattle.murphi_syntax.specs.declared.expr.Connective.{Connective}
use Rattle.murphi_syntax.specs.declared.expr.Connective.TheVariants.{Or, And}
use Rattle.murphi_syntax.proofs.ExprArms.{LinksSoFar}
use Rattle.murphi_syntax.proofs.reader.+reader.Given as goal

abbrev chain_rank : Connective → ℕ
chain_rank Or = 10
chain_rank And = 8

abbrev operand_rank : Connective → ℕ
operand_rank Or = 9
operand_rank And = 7

abbrev pub decreases-implication : goal.decreases-implication
decreases-implication l = 12 * (length l.tokens.now - l.at) + 11

abbrev pub decreases-implied : goal.decreases-implied
decreases-implied l = 12 * (length l.tokens.now - l.at) + 1

abbrev pub decreases-chain : goal.decreases-chain
decreases-chain l = 12 * (length l.tokens.now - l.at) + chain_rank l.op

abbrev pub decreases-links : goal.decreases-links
decreases-links l = 12 * (length l.tokens.now - l.at) + 1

abbrev pub decreases-operand : goal.decreases-operand
decreases-operand l = 12 * (length l.tokens.now - l.at) + operand_rank l.op

abbrev pub decreases-negation : goal.decreases-negation
decreases-negation l = 12 * (length l.tokens.now - l.at) + 6

abbrev pub decreases-negated : goal.decreases-negated
decreases-negated l = 12 * (length l.tokens.now - l.at) + 7

abbrev pub decreases-comparison : goal.decreases-comparison
decreases-comparison l = 12 * (length l.tokens.now - l.at) + 5

abbrev pub decreases-compared : goal.decreases-compared
decreases-compared l = 12 * (length l.tokens.now - l.at) + 3

abbrev pub decreases-primary : goal.decreases-primary
decreases-primary l = 12 * (length l.tokens.now - l.at) + 2

abbrev pub decreases-group : goal.decreases-group
decreases-group l = 12 * (length l.tokens.now - l.at) + 13

abbrev pub invariant-links-operands : goal.invariant-links-operands
invariant-links-operands l =
    LinksSoFar l.op l.nesting l.tokens l.fn.at l.here l.front × (l.fn.at ≤ l.here) × (l.here ≤ length l.tokens)

abbrev pub decreases-links-operands : goal.decreases-links-operands
decreases-links-operands l = length l.tokens - l.here

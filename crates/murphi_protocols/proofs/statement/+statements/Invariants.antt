use Rattle.std.proofs.Common.{◌≤◌, ◌<◌, ◌+◌, ◌*◌, ◌-◌, length, ℕ, List, [], ◌∷◌, ◌++◌}
use Rattle.murphi_grammar.specs.Names as n
use Rattle.murphi_grammar.specs.Parts.{Part, ◌▸◌, ◌∥◌, one, form, many}
use Rattle.murphi_grammar.specs.Pieces.{cut, piece, piece_build}
use Rattle.murphi_expressions.specs.Says.{SoFar, itself}
use Rattle.murphi_protocols.specs.Parts.{after, added, GapsSoFar}
use Rattle.murphi_protocols.proofs.statement.+statements.Given as goal

abbrev pub decreases-stmts : goal.decreases-stmts
decreases-stmts l = 8 * (length l.tokens.now - l.at) + 6

abbrev pub decreases-optional_stmt : goal.decreases-optional_stmt
decreases-optional_stmt l = 8 * (length l.tokens.now - l.at) + 5

abbrev pub decreases-stmt : goal.decreases-stmt
decreases-stmt l = 8 * (length l.tokens.now - l.at) + 4

abbrev pub decreases-if_stmt : goal.decreases-if_stmt
decreases-if_stmt l = 8 * (length l.tokens.now - l.at) + 3

abbrev pub decreases-arm : goal.decreases-arm
decreases-arm l = 8 * (length l.tokens.now - l.at) + 7

abbrev pub decreases-more_arms : goal.decreases-more_arms
decreases-more_arms l = 8 * (length l.tokens.now - l.at) + 1

abbrev pub decreases-otherwise : goal.decreases-otherwise
decreases-otherwise l = 8 * (length l.tokens.now - l.at) + 1

abbrev pub decreases-switch_stmt : goal.decreases-switch_stmt
decreases-switch_stmt l = 8 * (length l.tokens.now - l.at) + 3

abbrev pub decreases-cases : goal.decreases-cases
decreases-cases l = 8 * (length l.tokens.now - l.at) + 2

abbrev pub decreases-case : goal.decreases-case
decreases-case l = 8 * (length l.tokens.now - l.at) + 1

abbrev pub decreases-for_stmt : goal.decreases-for_stmt
decreases-for_stmt l = 8 * (length l.tokens.now - l.at) + 3

abbrev pub invariant-stmts-loop-alloc : goal.invariant-stmts-loop-alloc
invariant-stmts-loop-alloc l = record {
  so_far : SoFar (piece n.MoreStmts) (piece_build n.MoreStmts) (form n.Stmts) itself l.room l.tokens l.at l.next l.stmts;
  on : l.at ≤ l.next;
  within : l.next ≤ length l.tokens;
}

abbrev pub decreases-stmts-loop-alloc : goal.decreases-stmts-loop-alloc
decreases-stmts-loop-alloc l = length l.tokens - l.next

abbrev pub invariant-more_arms-loop-alloc : goal.invariant-more_arms-loop-alloc
invariant-more_arms-loop-alloc l = record {
  so_far : SoFar (piece n.MoreArms) (piece_build n.MoreArms) (cut n.MoreArms) (after l.fn.front) l.room l.tokens l.at l.next l.arms;
  on : l.at ≤ l.next;
  within : l.next ≤ length l.tokens;
}

abbrev pub decreases-more_arms-loop-alloc : goal.decreases-more_arms-loop-alloc
decreases-more_arms-loop-alloc l = length l.tokens - l.next

abbrev pub invariant-cases-loop-alloc : goal.invariant-cases-loop-alloc
invariant-cases-loop-alloc l = record {
  so_far : SoFar (piece n.Cases) (piece_build n.Cases) (cut n.Cases) itself l.room l.tokens l.at l.next l.cases;
  on : l.at ≤ l.next;
  within : l.next ≤ length l.tokens;
}

abbrev pub decreases-cases-loop-alloc : goal.decreases-cases-loop-alloc
decreases-cases-loop-alloc l = length l.tokens - l.next

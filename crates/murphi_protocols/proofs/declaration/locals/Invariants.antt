use Rattle.std.proofs.Common.{◌≤◌, ◌<◌, ◌+◌, ◌*◌, ◌-◌, length, ℕ, List, [], ◌∷◌, ◌++◌}
use Rattle.murphi_grammar.specs.Names as n
use Rattle.murphi_grammar.specs.Parts.{Part, ◌▸◌, ◌∥◌, one, form, many}
use Rattle.murphi_grammar.specs.Pieces.{cut, piece, piece_build}
use Rattle.murphi_expressions.specs.Says.{SoFar, itself}
use Rattle.murphi_protocols.specs.Parts.{after, added, GapsSoFar}
use Rattle.murphi_protocols.proofs.declaration.locals.Given as goal

abbrev pub invariant-loop-alloc : goal.invariant-loop-alloc
invariant-loop-alloc l = record {
  so_far : SoFar (piece n.Locals) (piece_build n.Locals) (cut n.Locals) itself l.room l.tokens l.at l.next l.decls;
  on : l.at ≤ l.next;
  within : l.next ≤ length l.tokens;
}

abbrev pub decreases-loop-alloc : goal.decreases-loop-alloc
decreases-loop-alloc l = length l.tokens - l.next

use Rattle.std.proofs.Common.{drop}
use Rattle.std.specs.Prelude.{◌↔◌}
use Rattle.cmp_cli.specs.Words.{AreTaken}
use Rattle.cmp_cli.proofs.words.are_taken.Given as goal

-- what is left gives the whole
abbrev pub invariant-loop-one : goal.invariant-loop-one
invariant-loop-one l = AreTaken l.command (drop l.one-index l.given) ↔ AreTaken l.fn.command l.fn.given

use Rattle.std.proofs.Common.{◌≡◌, ◌++◌, drop}
use Rattle.cmp_cli.specs.Report.{cell_lines}
use Rattle.cmp_cli.proofs.lines.cell_lines.Given as goal

-- the lines so far, and those of the variables that are left
abbrev pub invariant-loop-k : goal.invariant-loop-k
invariant-loop-k l = l.lines ++ cell_lines (drop l.k l.names) (drop l.k l.cells) ≡ cell_lines l.names l.cells

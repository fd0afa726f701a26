use Rattle.std.proofs.Common.{◌≡◌, take}
use Rattle.std.specs.List.{concat}
use Rattle.cmp_outside.specs.Sink.{Gains}
use Rattle.cmp_cli.proofs.report.write_lines.Given as goal

-- the lines so far were written, and no fault was
abbrev pub invariant-loop-line : goal.invariant-loop-line
invariant-loop-line g l = record {
  written : Gains (g.K.Sink.written l.initial.out) (g.K.Sink.written l.out) (concat (take l.line-index l.lines));
  quiet : g.K.Sink.faults l.out ≡ g.K.Sink.faults l.initial.out;
}

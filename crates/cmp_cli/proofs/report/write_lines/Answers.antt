use Rattle.std.proofs.Common.{rules}
use Rattle.cmp_cli.proofs.LineLemmas.{line_gained}
use Rattle.cmp_cli.proofs.report.write_lines.Goals as goal

pub loop-line-preserved : goal.loop-line-preserved
loop-line-preserved g c = record {
  written =
      line_gained (g.K.Sink.written c.args.out.now) (g.K.Sink.written c.loop-line.out) (g.K.Sink.written c.write.new.self)
      c.args.lines.now c.loop-line.line-index c.line-item.result c.loop-line-test.true c.line-item.is
      c.loop-line.invariant.written (rw c.bytes.ensures at c.in-Ok.ensures.ok);
  quiet = search rules;
}

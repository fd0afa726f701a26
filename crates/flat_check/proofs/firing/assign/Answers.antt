use Rattle.std.proofs.Common.{◌∙◌, ap, arith}
use Rattle.murphi_ast.specs.State.{with_cell}
use Rattle.flat_check.proofs.Cells.{with_next, with_found}
use Rattle.flat_check.proofs.firing.assign.Goals as goal

pub returns-then-eq : goal.returns-then-eq
returns-then-eq c =
    with_found c.args.names.now c.loop-at.cells c.args.name.now c.index-names-at.result c.args.new c.loop-at.at (omega arith) c.if-at-cells.false c.index-names-at.is (cc)
    ∙ c.loop-at.invariant.1 ∙ ap (λ cells. with_cell c.args.names.now cells c.args.name.now c.args.new) c.loop-at.invariant.0

pub loop-at-preserved : goal.loop-at-preserved
loop-at-preserved c = (
  c.loop-at.invariant.0,
  with_next c.args.names.now c.loop-at.cells c.args.name.now c.index-names-at.result c.args.new c.loop-at.at (omega arith) c.if-at-cells.false c.index-names-at.is (cc)
      ∙ c.loop-at.invariant.1,
)

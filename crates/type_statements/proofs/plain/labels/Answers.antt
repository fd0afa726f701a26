use Rattle.std.proofs.Common.{arith}
use Rattle.murphi_types.specs.Statements.{labels_found}
use Rattle.type_statements.proofs.DoneLemmas.{labels-stop}
use Rattle.type_statements.proofs.plain.labels.Goals as goal

pub returns-clause-part : goal.returns-clause-part
returns-clause-part c =
    (labels-stop c.args.context.now.scope c.loop-one.context.known c.args.on.now c.args.all.now c.loop-one.one-index c.loop-one.done (labels_found c.args.context.now.scope c.args.context.now.known c.args.on.now c.args.all.now)
    (omega arith) c.loop-one.invariant.1.0 c.loop-one.invariant.1.1).0

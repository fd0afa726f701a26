use Rattle.std.proofs.Common.{◌≡◌, drop}
use Rattle.murphi_types.specs.Weights.{stopped}
use Rattle.murphi_types.specs.Statements.{labels_found}
use Rattle.type_statements.specs.Stating.{labelled, nothing_labelled}
use Rattle.type_statements.proofs.plain.labels.Given as goal

abbrev pub invariant-loop-one : goal.invariant-loop-one
invariant-loop-one l =
    (l.context.scope ≡ l.fn.context.scope)
    × ((labelled l.done (labels_found l.fn.context.scope l.context.known l.on (drop l.one-index l.all)) ≡ labelled nothing_labelled (labels_found l.fn.context.scope l.fn.context.known l.on l.all))
    × (stopped l.done.weight ≡ l.done.weight))

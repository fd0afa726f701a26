use Rattle.std.proofs.Common.{◌≡◌, drop}
use Rattle.murphi_types.specs.Weights.{stopped}
use Rattle.murphi_types.specs.Statements.{body_found}
use Rattle.type_statements.specs.Stating.{leaving_of, stated, armed, cased, nothing_stated, nothing_armed, nothing_cased}
use Rattle.type_statements.specs.StatementLists.{list_arms, list_cases}
use Rattle.type_statements.proofs.judge.+judge.Given as goal

abbrev pub invariant-statements-loop-one : goal.invariant-statements-loop-one
invariant-statements-loop-one l =
    (l.context.scope ≡ l.fn.context.scope)
    × ((stated l.done (body_found (leaving_of l.leaving) l.fn.context.scope l.context.known (drop l.one-index l.all)) ≡ stated nothing_stated (body_found (leaving_of l.leaving) l.fn.context.scope l.fn.context.known l.all))
    × (stopped l.done.weight ≡ l.done.weight))

abbrev pub invariant-arms-loop-one : goal.invariant-arms-loop-one
invariant-arms-loop-one l =
    (l.context.scope ≡ l.fn.context.scope)
    × ((armed l.done (list_arms (leaving_of l.leaving) l.fn.context.scope l.context.known (drop l.one-index l.all)) ≡ armed nothing_armed (list_arms (leaving_of l.leaving) l.fn.context.scope l.fn.context.known l.all))
    × (stopped l.done.weight ≡ l.done.weight))

abbrev pub invariant-cases-loop-one : goal.invariant-cases-loop-one
invariant-cases-loop-one l =
    (l.context.scope ≡ l.fn.context.scope)
    × ((cased l.done (list_cases (leaving_of l.leaving) l.fn.context.scope l.context.known l.on (drop l.one-index l.all)) ≡ cased nothing_cased (list_cases (leaving_of l.leaving) l.fn.context.scope l.fn.context.known l.on l.all))
    × (stopped l.done.weight ≡ l.done.weight))

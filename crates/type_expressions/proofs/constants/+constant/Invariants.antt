use Rattle.std.proofs.Common.{◌≡◌, drop}
use Rattle.type_expressions.specs.PartLists.{list_constants}
use Rattle.type_expressions.proofs.constants.+constant.Given as goal

abbrev pub invariant-are_constants-loop-one : goal.invariant-are_constants-loop-one
invariant-are_constants-loop-one l =
    list_constants l.context.scope l.context.known (drop l.one-index l.all)
    ≡ list_constants l.context.scope l.context.known l.all

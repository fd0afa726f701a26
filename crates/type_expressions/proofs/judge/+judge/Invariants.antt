use Rattle.std.proofs.Common.{◌≡◌, drop}
use Rattle.std.specs.Option.{option_copied}
use Rattle.murphi_types.specs.Weights.{stopped}
use Rattle.murphi_types.specs.Lists.{list_selectors, list_arguments}
use Rattle.type_parts.specs.Judging.{linked}
use Rattle.type_forms.specs.Designating.{selected}
use Rattle.type_forms.specs.Calling.{formals_in, given}
use Rattle.type_forms.specs.Writing.{fielded}
use Rattle.type_expressions.specs.PartLists.{list_links, list_fields}
use Rattle.type_expressions.specs.Turns.{nothing_linked, nothing_walked, nothing_given, nothing_fielded}
use Rattle.type_expressions.proofs.judge.+judge.Given as goal

abbrev pub invariant-links-loop-one : goal.invariant-links-loop-one
invariant-links-loop-one l =
    (l.context.scope ≡ l.fn.context.scope)
    × ((linked l.done (list_links l.fn.context.scope l.context.known l.of (drop l.one-index l.all)) ≡ linked nothing_linked (list_links l.fn.context.scope l.fn.context.known l.of l.all))
    × (stopped l.done.weight ≡ l.done.weight))

abbrev pub invariant-selectors-loop-one : goal.invariant-selectors-loop-one
invariant-selectors-loop-one l =
    (l.context.scope ≡ l.fn.context.scope)
    × ((selected l.done (list_selectors l.fn.context.scope l.context.known l.at (option_copied l.left) (drop l.one-index l.all)) ≡ selected nothing_walked (list_selectors l.fn.context.scope l.fn.context.known l.at (option_copied l.fn.of) l.all))
    × (stopped l.done.weight ≡ l.done.weight))

abbrev pub invariant-arguments-loop-one : goal.invariant-arguments-loop-one
invariant-arguments-loop-one l =
    (l.context.scope ≡ l.fn.context.scope)
    × ((l.number ≡ l.one-index)
    × ((given l.done (list_arguments l.fn.context.scope l.context.known l.at (drop l.number (formals_in l.routine)) (drop l.one-index l.all)) ≡ given nothing_given (list_arguments l.fn.context.scope l.fn.context.known l.at (formals_in l.routine) l.all))
    × (stopped l.done.weight ≡ l.done.weight)))

abbrev pub invariant-fields-loop-one : goal.invariant-fields-loop-one
invariant-fields-loop-one l =
    (l.context.scope ≡ l.fn.context.scope)
    × (fielded l.done (list_fields l.fn.context.scope l.context.known (drop l.one-index l.all)) ≡ fielded nothing_fielded (list_fields l.fn.context.scope l.fn.context.known l.all))

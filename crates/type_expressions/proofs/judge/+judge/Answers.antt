use Rattle.std.proofs.Common.{◌≡◌, ◌∙◌, ◌+◌, sym, ap, arith, refl, drop}
use Rattle.std.specs.Option.{option_copied}
use Rattle.type_forms.specs.Calling.{Given, given, formals_in}
use Rattle.murphi_types.specs.Lists.{list_arguments, list_selectors}
use Rattle.type_expressions.specs.PartLists.{list_links, list_fields}
use Rattle.type_expressions.specs.Turns.{nothing_given}
use Rattle.murphi_types.specs.Weights.{stopped}
use Rattle.type_parts.specs.declared.context.Context.{Context}
use Rattle.type_parts.specs.declared.judged.JudgedArguments.{JudgedArguments}
use Rattle.type_parts.proofs.WeightLemmas.{stopped-stopped}
use Rattle.type_expressions.proofs.ArgumentLemmas.{other-argument}
use Rattle.type_expressions.proofs.DoneLemmas.{link-done, links-stop, field-done, index-done, selectors-stop, place-done, other-done, arguments-step, arguments-stop, more-done, fields-stop}
use Rattle.type_expressions.proofs.judge.+judge.Goals as goal

pub link-returns-clause-rest : goal.link-returns-clause-rest
link-returns-clause-rest t c =
    λ rest. link-done c.args.context.now c.expr.new.context c.args.of c.args.one.now c.args.done.now c.more_links.new.done c.in_ok-part.part c.as_operand-part.result c.place_of.result rest
    c.in_ok-part.ensures.part c.in_ok-part.ensures.context c.place_of.ensures c.as_operand-part.ensures c.in_ok-more_links.ensures

pub links-returns-clause-part : goal.links-returns-clause-part
links-returns-clause-part t c =
    links-stop c.args.context.now.scope c.loop-one.context.known c.args.of c.args.all.now c.loop-one.one-index c.loop-one.done (list_links c.args.context.now.scope c.args.context.now.known c.args.of c.args.all.now)
    (omega arith) c.loop-one.invariant.1.0 c.loop-one.invariant.1.1

pub field-returns-clause-rest : goal.field-returns-clause-rest
field-returns-clause-rest t c =
    λ rest. more-done c.args.context.now c.type_expr.new.context c.args.one.now c.as_slice.result.now c.args.done c.in_ok-made.made c.in_ok-part.part rest
    c.in_ok-part.ensures.part c.in_ok-part.ensures.context c.as_slice.ensures c.in_ok-made.ensures

pub fields-returns-clause-part : goal.fields-returns-clause-part
fields-returns-clause-part t c =
    fields-stop c.args.context.now.scope c.loop-one.context.known c.args.all.now c.loop-one.one-index c.loop-one.done (list_fields c.args.context.now.scope c.args.context.now.known c.args.all.now)
    (omega arith) c.loop-one.invariant.1

pub arguments-returns-clause-part : goal.arguments-returns-clause-part
arguments-returns-clause-part t c =
    let n : c.loop-one.number ≡ c.loop-one.one-index = c.loop-one.invariant.1.0 in
    arguments-stop c.args.context.now.scope c.loop-one.context.known c.args.at (drop c.loop-one.number (formals_in c.args.routine.now)) c.args.all.now c.loop-one.one-index c.loop-one.done (list_arguments c.args.context.now.scope c.args.context.now.known c.args.at (formals_in c.args.routine.now) c.args.all.now)
    (omega arith) c.loop-one.invariant.1.1.0 c.loop-one.invariant.1.1.1

pub arguments-loop-one-preserved : goal.arguments-loop-one-preserved
arguments-loop-one-preserved t c = (
  c.in_ok-argument.ensures.scope ∙ c.loop-one.invariant.0,
  (
    c.in_ok-number.ensures ∙ ap (λ n. n + 1) c.loop-one.invariant.1.0,
    (
      arguments-step c.args.context.now.scope c.loop-one.context c.argument.new.context c.args.at (formals_in c.args.routine.now) c.args.all.now c.loop-one.number c.in_ok-number.number c.loop-one.one-index c.one-item.result (option_copied c.formal_at.result) c.loop-one.done c.argument.new.done (given nothing_given (list_arguments c.args.context.now.scope c.args.context.now.known c.args.at (formals_in c.args.routine.now) c.args.all.now))
          (omega arith) c.one-item.is c.loop-one.invariant.0 c.loop-one.invariant.1.0 c.in_ok-number.ensures c.loop-one.invariant.1.1.0 c.formal_at.ensures c.in_ok-argument.ensures.scope c.in_ok-argument.ensures.rest,
      c.in_ok-argument.ensures.stops c.loop-one.invariant.1.1.1,
    ),
  ),
)

pub argument-returns-in_ok-more_arguments-in-Place-clause-rest : goal.argument-returns-in_ok-more_arguments-in-Place-clause-rest
argument-returns-in_ok-more_arguments-in-Place-clause-rest t c =
    λ formals rest f. place-done c.args.context.now c.designator.new.context c.args.at formals c.in-Place.place c.args.one.now (option_copied c.args.formal) c.args.done.now c.more_arguments.new.done c.in_ok-part-in-Place.part c.placed.result rest
    c.in-Place.is c.in_ok-part-in-Place.ensures.part c.in_ok-part-in-Place.ensures.context c.placed.ensures c.in_ok-more_arguments-in-Place.ensures f

pub argument-returns-in_ok-more_arguments-in_default : goal.argument-returns-in_ok-more_arguments-in_default
argument-returns-in_ok-more_arguments-in_default t c =
    record {
      scope = ap (λ (x : Context). x.scope) c.in_ok-part-in_default.ensures.context;
      stops = λ h. ap (λ (d : JudgedArguments). stopped d.weight) c.in_ok-more_arguments-in_default.ensures
          ∙ stopped-stopped (c.args.done.now.weight + c.valued.result.weight)
          ∙ ap (λ (d : JudgedArguments). d.weight) (sym c.in_ok-more_arguments-in_default.ensures);
      rest = λ formals rest f. other-done c.args.context.now c.expr.new.context c.args.at c.place_of.result formals c.args.one.now (option_copied c.args.formal) c.args.done.now c.more_arguments-in_default.new.done c.in_ok-part-in_default.part c.valued.result rest
          (λ q. other-argument c.args.context.now.scope c.args.context.now.known c.args.at q c.args.one.now c.in_default.not-Place)
          c.in_ok-part-in_default.ensures.part c.in_ok-part-in_default.ensures.context c.place_of.ensures c.valued.ensures c.in_ok-more_arguments-in_default.ensures f;
    }

pub selector-returns-in_ok-walk_field-in-Field-clause-rest : goal.selector-returns-in_ok-walk_field-in-Field-clause-rest
selector-returns-in_ok-walk_field-in-Field-clause-rest t c =
    λ rest. field-done c.args.context.now c.args.at (option_copied c.args.of) (option_copied c.field_chosen-fault.result.0) c.in-Field.name c.args.one.now c.args.done.now c.walk_field.new.done c.field_chosen-fault.result.1 rest
    c.in-Field.is c.field_chosen-fault.ensures.of c.field_chosen-fault.ensures.fault c.in_ok-walk_field-in-Field.ensures

pub selector-returns-in_ok-found-in-Index-clause-rest : goal.selector-returns-in_ok-found-in-Index-clause-rest
selector-returns-in_ok-found-in-Index-clause-rest t c =
    λ rest. index-done c.args.context.now c.expr.new.context c.args.at c.place_of.result (option_copied c.args.of) (option_copied c.in_ok-found-in-Index.found) c.in-Index.index c.args.one.now c.args.done.now c.walk_index.new.done c.in_ok-part-in-Index.part rest
    c.in-Index.is c.in_ok-part-in-Index.ensures.part c.in_ok-part-in-Index.ensures.context c.place_of.ensures c.in_ok-found-in-Index.ensures.of c.in_ok-found-in-Index.ensures.done

pub selectors-returns-clause-part : goal.selectors-returns-clause-part
selectors-returns-clause-part t c =
    c.in_ok-made.ensures
    ∙ selectors-stop c.args.context.now.scope c.loop-one.context.known c.args.at (option_copied c.loop-one.left) c.args.all.now c.loop-one.one-index c.loop-one.done (list_selectors c.args.context.now.scope c.args.context.now.known c.args.at (option_copied c.args.of) c.args.all.now)
    (omega arith) c.loop-one.invariant.1.0 c.loop-one.invariant.1.1

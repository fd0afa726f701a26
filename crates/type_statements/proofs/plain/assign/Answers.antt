use Rattle.type_statements.proofs.PlainEquations.{stored-part, stored-context}
use Rattle.type_statements.proofs.plain.assign.Goals as goal

pub returns-in_ok-part-in_default : goal.returns-in_ok-part-in_default
returns-in_ok-part-in_default c =
    record {
      part = stored-part c.args.context.now c.designator.new.context c.expr.new.context c.args.to.now c.args.value.now c.in_ok-place.place c.in_ok-part-in_default.part c.place_of.result c.stored.result
          c.in_default.not-Place c.in_ok-place.ensures.part c.in_ok-place.ensures.context c.in_ok-part-in_default.ensures.part c.in_ok-part-in_default.ensures.context c.place_of.ensures c.stored.ensures;
      context = stored-context c.args.context.now c.designator.new.context c.expr.new.context c.args.to.now c.args.value.now
          c.in_default.not-Place c.in_ok-place.ensures.context c.in_ok-part-in_default.ensures.context;
    }

use Rattle.std.proofs.Common.{arith}
use Rattle.murphi_types.specs.Statements.{body_found}
use Rattle.type_statements.specs.Stating.{leaving_of}
use Rattle.type_statements.specs.StatementLists.{list_arms, list_cases}
use Rattle.type_statements.proofs.DoneLemmas.{stmt-done, stmts-stop, arm-done, arms-stop, case-done, cases-stop}
use Rattle.type_statements.proofs.judge.+judge.Goals as goal

pub next_statement-returns-clause-rest : goal.next_statement-returns-clause-rest
next_statement-returns-clause-rest t c =
    λ rest. stmt-done c.args.context.now c.statement.new.context (leaving_of c.args.leaving) c.args.one.now c.args.done.now c.more_statements.new.done c.in_ok-part.part rest
    c.in_ok-part.ensures.part c.in_ok-part.ensures.context c.in_ok-more_statements.ensures

pub statements-returns-clause-part : goal.statements-returns-clause-part
statements-returns-clause-part t c =
    (stmts-stop (leaving_of c.args.leaving) c.args.context.now.scope c.loop-one.context.known c.args.all.now c.loop-one.one-index c.loop-one.done (body_found (leaving_of c.args.leaving) c.args.context.now.scope c.args.context.now.known c.args.all.now)
    (omega arith) c.loop-one.invariant.1.0 c.loop-one.invariant.1.1).0

pub arm-returns-clause-rest : goal.arm-returns-clause-rest
arm-returns-clause-rest t c =
    λ rest. arm-done c.args.context.now c.expr.new.context c.statements.new.context (leaving_of c.args.leaving) c.args.one.now c.as_slice.result.now c.args.done.now c.more_arms.new.done c.in_ok-test.test c.as_truth-test.result c.in_ok-body.body c.place_of.result rest
    c.in_ok-test.ensures.part c.in_ok-test.ensures.context c.place_of.ensures c.as_truth-test.ensures c.as_slice.ensures c.in_ok-body.ensures.part c.in_ok-body.ensures.context c.in_ok-more_arms.ensures

pub arms-returns-clause-part : goal.arms-returns-clause-part
arms-returns-clause-part t c =
    (arms-stop (leaving_of c.args.leaving) c.args.context.now.scope c.loop-one.context.known c.args.all.now c.loop-one.one-index c.loop-one.done (list_arms (leaving_of c.args.leaving) c.args.context.now.scope c.args.context.now.known c.args.all.now)
    (omega arith) c.loop-one.invariant.1.0 c.loop-one.invariant.1.1).0

pub case-returns-clause-rest : goal.case-returns-clause-rest
case-returns-clause-rest t c =
    λ rest. case-done c.args.context.now c.labels.new.context c.statements.new.context (leaving_of c.args.leaving) c.args.on.now c.args.one.now c.as_slice.result.now c.as_slice-2.result.now c.args.done.now c.more_cases.new.done c.in_ok-named.named c.in_ok-body.body rest
    c.as_slice.ensures c.in_ok-named.ensures.part c.in_ok-named.ensures.context c.as_slice-2.ensures c.in_ok-body.ensures.part c.in_ok-body.ensures.context c.in_ok-more_cases.ensures

pub cases-returns-clause-part : goal.cases-returns-clause-part
cases-returns-clause-part t c =
    (cases-stop (leaving_of c.args.leaving) c.args.context.now.scope c.loop-one.context.known c.args.on.now c.args.all.now c.loop-one.one-index c.loop-one.done (list_cases (leaving_of c.args.leaving) c.args.context.now.scope c.args.context.now.known c.args.on.now c.args.all.now)
    (omega arith) c.loop-one.invariant.1.0 c.loop-one.invariant.1.1).0
